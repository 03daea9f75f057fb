use Rattle.std.proofs.Common.{◌≡◌, List, [], ◌∷◌, inl, inr, length, ap, ◌∙◌, arith}
use Rattle.std.proofs.lemmas.Bool.{cases_lt}
use Rattle.std.proofs.lemmas.List.{get_or_append_left, get_or_push, length_push}
use Rattle.latency_table.specs.declared.latency.Latency.{Latency}
use Rattle.latency_table.specs.Work.{group_at}
use Rattle.latency_table.proofs.worker.groups_for.Goals as goal

pub loop-preserved : goal.loop-preserved
loop-preserved c =
    let inv = c.loop.invariant in
    let now = c.in_ok-push.ensures.items in
    let old : List (List Latency) = c.loop.groups.items in
    let group : List Latency = c.in_ok-filled.field-0.items in
    let long : length group ≡ 1024 = omega (arith, c.in_ok-filled.ensures.len, c.in_ok-filled.field-0.ok.0) in
    record {
      count = ap length now ∙ length_push old group ∙ omega (arith, inv.count);
      room = λ round lt.
          ap (λ (gs : List (List Latency)). length (group_at gs round)) now
          ∙ elim (cases_lt round (length old)) [
            | inl less ↦ ap length (get_or_append_left old (group ∷ []) [] round less) ∙ inv.room round (omega (arith, less, inv.count))
            | inr most ↦ ap length (get_or_push old group [] round (omega (arith, lt, most, inv.count))) ∙ long
          ];
    }
