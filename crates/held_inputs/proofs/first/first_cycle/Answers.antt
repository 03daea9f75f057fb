use Rattle.std.proofs.Common.{sym, subst, ℕ, ◌≤◌, arith}
use Rattle.std.specs.List.{All}
use Rattle.coverage_claim.specs.declared.parts.Held.{Held}
use Rattle.held_inputs.specs.First.{first_cycle}
use Rattle.held_inputs.proofs.Greatest.{is_after, is_small}
use Rattle.held_inputs.proofs.first.first_cycle.Goals as goal

pub returns-clause-after : goal.returns-clause-after
returns-clause-after c =
    let P : ℕ → Type 0 = λ first. All (λ (h : Held). h.from ≤ first) c.args.held.now in
    subst P (sym c.greatest_from.ensures) (is_after c.args.held.now 0).1

pub returns-clause-small : goal.returns-clause-small
returns-clause-small c =
    λ most all.
    (let P : ℕ → Type 0 = λ first. first ≤ most in
    subst P (sym c.greatest_from.ensures) (is_small c.args.held.now 0 most (omega arith) all))
