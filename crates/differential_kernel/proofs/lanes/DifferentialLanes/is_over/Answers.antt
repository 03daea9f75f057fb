use Rattle.std.proofs.Common.{sym, ◌∙◌, subst, arith}
use Rattle.golden_difference.specs.Beside.{AreBeside, DoNothing, IsOver}
use Rattle.golden_difference.specs.Lanes.{Lanes}
use Rattle.golden_difference.proofs.Over.{is_over_after}
use Rattle.lane_words.specs.Loads.{loaded_faults}
use Rattle.differential_kernel.specs.Kernel.{lanes_of}
use Rattle.differential_kernel.proofs.lanes.DifferentialLanes.is_over.Goals as goal

pub returns-then-is_calm : goal.returns-then-is_calm
returns-then-is_calm g c = λ vectors k is beside lane.
    let s = c.self.inside in
    let stands : AreBeside g.W.Word.lanes g.W.Word.lane_bit vectors (lanes_of g.W.Word.lanes g.W.Word.lane_bit s) =
    subst (λ (lanes : Lanes g.row.W.Denot). AreBeside g.W.Word.lanes g.W.Word.lane_bit vectors lanes) (sym c.self.view_is) beside in
    subst (λ (lanes : Lanes g.row.W.Denot). IsOver lanes.circuit (loaded_faults lanes.in_force k) vectors 65536) c.self.view_is
    (is_over_after s.circuit.value (loaded_faults s.in_force.items k) vectors 65536
    (λ l lt. sym ((stands k lane).between.raw l lt) ∙ c.self.invariant.latches.live.same l (c.is_empty_from.ensures is l (omega arith)) k lane)
    (λ t from lt.
    subst (λ (lanes : Lanes g.row.W.Denot). DoNothing (loaded_faults lanes.in_force k) t) (sym c.self.view_is)
    (c.is_calm.ensures k t c.if-is_calm.true (omega (arith, (beside k lane).between.cycle, from)) lt)))
