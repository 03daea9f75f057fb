use Rattle.std.proofs.Common.{◌≡◌, List, [], ◌∷◌, inl, inr, length, ap, ◌∙◌, arith}
use Rattle.std.proofs.lemmas.Bool.{cases_lt}
use Rattle.std.proofs.lemmas.List.{get_or_append_left, get_or_push, length_push}
use Rattle.campaign_plan.specs.declared.Outcome.{Outcome}
use Rattle.metric_coverage.specs.Turns.{turn_at}
use Rattle.metric_coverage.proofs.worker.room_for_turns.Goals as goal

pub loop-preserved : goal.loop-preserved
loop-preserved c =
    let inv = c.loop.invariant in
    let now = c.in_ok-push.ensures.items in
    let old : List (List Outcome) = c.loop.kept.items in
    let turn : List Outcome = c.in_ok-filled.field-0.items in
    let long : length turn ≡ c.args.readings = omega (arith, c.in_ok-filled.ensures.len, c.in_ok-filled.field-0.ok.0) in
    record {
      count = ap length now ∙ length_push old turn ∙ omega (arith, inv.count);
      room = λ t lt.
          ap (λ (ts : List (List Outcome)). length (turn_at ts t)) now
          ∙ elim (cases_lt t (length old)) [
            | inl less ↦ ap length (get_or_append_left old (turn ∷ []) [] t less) ∙ inv.room t (omega (arith, less, inv.count))
            | inr most ↦ ap length (get_or_push old turn [] t (omega (arith, lt, most, inv.count))) ∙ long
          ];
    }
