use Rattle.std.proofs.Common.{◌<◌, length, ◌∙◌}
use Rattle.std.specs.Prelude.{if◌then◌else◌}
use Rattle.first_cycles.specs.FirstCycles.{earlier}
use Rattle.reading_planes.proofs.Earliest.{others_more}
use Rattle.reading_planes.proofs.late.first_of_others.Goals as goal

pub loop-a-preserved : goal.loop-a-preserved
loop-a-preserved c = λ alarm same.
    let nets = c.args.nets.now in
    let i = c.loop-a.a in
    let lt : i < length nets = c.loop-a-test.true in
    c.earlier_if-first.ensures
    ∙ (λ j. if c.is_other.ensures j then earlier (c.loop-a.invariant alarm same j) (same i lt j) else c.loop-a.invariant alarm same j)
    ∙ others_more alarm c.args.out nets i (record { 0 = 0 }) lt
