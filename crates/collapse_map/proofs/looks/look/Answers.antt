use Rattle.std.proofs.Common.{◌≡◌, ◌<◌, ◌≤◌, ◌+◌, ◌∙◌, ℕ, List, [], ◌∷◌, ◌++◌, length, map, take, get_or, set, ap, sym, subst, arith, refl}
use Rattle.collapse_map.specs.declared.looks.Looks.{Looks}
use Rattle.collapse_map.specs.Looks.{AreLooks}
use Rattle.collapse_map.proofs.Looking.{looked}
use Rattle.collapse_map.proofs.looks.look.Goals as goal

pub returns : goal.returns
returns c = λ seen are.
    subst (λ (own : Looks). AreLooks (seen ++ c.args.net ∷ []) (set c.args.looks.now c.args.net.0 own)) (sym c.one_more.ensures) (looked c.args.looks.now c.args.net seen c.requires are)
