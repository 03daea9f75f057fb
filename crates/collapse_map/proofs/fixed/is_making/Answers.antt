use Rattle.std.proofs.Common.{◌≡◌, ◌<◌, ◌≤◌, ◌+◌, ◌∙◌, ℕ, List, [], ◌∷◌, ◌++◌, length, map, take, get_or, set, ap, sym, subst, arith, refl}
use Rattle.std.specs.Prelude.{◌==◌, ◌&&◌, not, if◌then◌else◌}
use Rattle.std.proofs.Common.{Bool, false, ap₂}
use Rattle.circuit.specs.declared.parts.Lit.{Lit}
use Rattle.collapse_map.specs.Fixed.{dashes_but, is_against, is_dash_literal, lit_at}
use Rattle.collapse_map.proofs.Wanted.{dashes_counted}
use Rattle.collapse_map.proofs.fixed.is_making.Goals as goal

made : (against : Bool) → against ≡ false → (dashes : Bool) → dashes ≡ (not against && dashes)
made against e dashes = rw e refl

pub returns-then-not-is_against : goal.returns-then-not-is_against
returns-then-not-is_against c =
    let place : ℕ = c.args.place in
    let own : c.own_wants.result ≡ (if is_dash_literal (lit_at c.args.row.now place) then 0 else 1) =
    c.own_wants.ensures ∙ ap (λ (lit : Lit). if is_dash_literal lit then 0 else 1) c.lit_at-lit.ensures in
    let against : is_against c.args.v (lit_at c.args.row.now place) ≡ false =
    ap (is_against c.args.v) (sym c.lit_at-lit.ensures) ∙ sym c.is_against.ensures ∙ c.if-not-is_against.true in
    ap₂ (λ m n. m == n) c.requires own
    ∙ sym (dashes_counted c.args.row.now place)
    ∙ made (is_against c.args.v (lit_at c.args.row.now place)) against (dashes_but place c.args.row.now)
