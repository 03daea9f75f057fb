use Rattle.std.proofs.Common.{◌∙◌, ap, List, ℕ, map, Bor}
use Rattle.fm_base.specs.Names.{Name}
use Rattle.fm_base.specs.Index.{with_name}
use Rattle.fm_base.proofs.NameFacts.{keys_insert}
use Rattle.alarm_points.proofs.nets.NetNames.insert.Goals as goal

pub returns : goal.returns
returns c =
    ap (λ (ks : List (Bor (List ℕ))). map (λ (v : Bor (List ℕ)). v.now) ks) c.in_ok-insert.ensures.keys
    ∙ keys_insert (λ (v : Bor (List ℕ)). v.now) c.self.inside.names.keys c.args.name
    ∙ ap (λ (names : List Name). with_name names c.args.name.now) c.self.view_is
