use Rattle.std.proofs.Common.{◌∙◌, ap, List, ℕ, Bor, map}
use Rattle.fm_base.specs.Names.{Name}
use Rattle.fm_base.specs.Index.{with_name}
use Rattle.fm_base.proofs.NameFacts.{keys_insert}
use Rattle.blif_hierarchy.proofs.names.NameSet.insert.Goals as goal

pub returns-clause-names : goal.returns-clause-names
returns-clause-names c =
    ap (λ (ks : List (Bor (List ℕ))). map (λ (b : Bor (List ℕ)). b.now) ks) c.in_ok-insert.ensures.keys
    ∙ keys_insert (λ (b : Bor (List ℕ)). b.now) c.self.inside.names.keys c.args.name
    ∙ ap (λ (names : List Name). with_name names c.args.name.now) c.self.view_is
