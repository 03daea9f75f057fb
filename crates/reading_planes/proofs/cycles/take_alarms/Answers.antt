use Rattle.std.proofs.Common.{◌≢◌, ◌<◌, ℕ, List, [], Option, None, length, ap, ◌∙◌, arith, below_more, get_or-set_other, get_or-set_same}
use Rattle.std.proofs.lemmas.List.{get_or_default}
use Rattle.fault_runs.specs.First.{FirstCycles, first_of}
use Rattle.fault_runs.specs.Records.{alarm_cycles}
use Rattle.fault_runs.specs.declared.record.AlarmCycles.{AlarmCycles}
use Rattle.reading_planes.proofs.cycles.take_alarms.Goals as goal

pub loop-a-preserved : goal.loop-a-preserved
loop-a-preserved c =
    let i = c.loop-a.a in
    let taken : List (Option ℕ) = c.loop-a.alarms in
    let new : Option ℕ = c.first.result in
    let within : i < length taken = omega (arith, c.loop-a-test.true, c.loop-a.auto.alarms, c.requires) in
    below_more _ _
    (λ h before. let apart : h ≢ i = omega (arith, before) in get_or-set_other taken i h new None apart ∙ c.loop-a.invariant h before)
    (get_or-set_same taken i new None within ∙ c.first.ensures ∙ ap (λ (f : FirstCycles). first_of f c.args.fault) c.raised.ensures
    ∙ ap (λ (p : AlarmCycles). first_of p.raised c.args.fault) (c.index-points-a.is ∙ get_or_default c.args.points.now i c.index-points-a.result (alarm_cycles [] 0) c.loop-a-test.true))
