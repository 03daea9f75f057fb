use Rattle.std.proofs.Common.{◌≢◌, ◌<◌, ◌||◌, ◌&&◌, Bool, List, [], false, is_some, length, ap, ◌∙◌, arith, below_more, get_or-set_other, get_or-set_same}
use Rattle.std.proofs.lemmas.List.{get_or_default}
use Rattle.workload.specs.Runs.{is_test}
use Rattle.fault_runs.specs.First.{first_of}
use Rattle.fault_runs.specs.Records.{alarm_cycles}
use Rattle.fault_runs.specs.declared.record.AlarmCycles.{AlarmCycles}
use Rattle.reading_planes.proofs.cycles.take_notices.Goals as goal

pub loop-a-preserved : goal.loop-a-preserved
loop-a-preserved c =
    let i = c.loop-a.a in
    let taken : List Bool = c.loop-a.notices in
    let new : Bool = c.gives_notice.result in
    let within : i < length taken = omega (arith, c.loop-a-test.true, c.loop-a.auto.notices, c.requires) in
    below_more _ _
    (λ h before. let apart : h ≢ i = omega (arith, before) in get_or-set_other taken i h new false apart ∙ c.loop-a.invariant h before)
    (get_or-set_same taken i new false within ∙ c.gives_notice.ensures
    ∙ ap (λ (p : AlarmCycles). is_some (first_of p.raised c.args.fault) || (is_test c.args.kind && is_some (first_of p.silenced c.args.fault)))
    (c.index-points-a.is ∙ get_or_default c.args.points.now i c.index-points-a.result (alarm_cycles [] 0) c.loop-a-test.true))
