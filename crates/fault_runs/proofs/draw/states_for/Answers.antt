use Rattle.std.proofs.Common.{List, [], ◌∷◌, inl, inr, length, ap, ◌∙◌, arith}
use Rattle.std.proofs.lemmas.Bool.{cases_lt}
use Rattle.std.proofs.lemmas.List.{get_or_append_left, get_or_push, length_push}
use Rattle.place_set.specs.Places.{Places}
use Rattle.fault_runs.specs.Stretch.{state_at}
use Rattle.fault_runs.proofs.draw.states_for.Goals as goal

pub loop-preserved : goal.loop-preserved
loop-preserved c =
    let inv = c.loop.invariant in
    let now = c.in_ok-push.ensures.items in
    let old : List Places = c.loop.states.items in
    let own : Places = c.in_ok-new.field-0 in
    let none : Places = state_at [] 0 in
    record {
      count = ap length now ∙ length_push old own ∙ omega (arith, inv.count);
      bound = λ i lt.
          ap (λ (ss : List Places). (state_at ss i).bound) now
          ∙ elim (cases_lt i (length old)) [
            | inl less ↦ ap (λ (s : Places). s.bound) (get_or_append_left old (own ∷ []) none i less) ∙ inv.bound i (omega (arith, less, inv.count))
            | inr most ↦ ap (λ (s : Places). s.bound) (get_or_push old own none i (omega (arith, lt, most, inv.count))) ∙ c.in_ok-new.ensures.bound
          ];
    }
