use Rattle.wave_dump.specs.Steps.{AreMarks, HasLanes, HasRunTo}
use Rattle.wave_dump.proofs.changed.marks_by.Given as goal

abbrev pub invariant-loop-t : goal.invariant-loop-t
invariant-loop-t g l = record {
  lanes : HasLanes l.scene l.order l.lanes;
  behind : HasRunTo l.scene l.t l.lanes;
  marks : AreMarks l.scene l.t l.marks.items;
}
