use Rattle.std.proofs.Common.{◌≡◌, ◌<◌, length, sym, subst, ◌∙◌}
use Rattle.golden_difference.specs.Beside.{AreBetween, state_differs}
use Rattle.golden_difference.specs.Lanes.{Lanes}
use Rattle.lane_words.specs.Loads.{loaded_faults}
use Rattle.place_set.specs.Places.{has}
use Rattle.differential_kernel.specs.Kernel.{lanes_of}
use Rattle.differential_kernel.proofs.lanes.DifferentialLanes.keep.Goals as goal

pub returns-clause-state : goal.returns-clause-state
returns-clause-state g c = λ vectors stood latch lt.
    let lanes = g.W.Word.lanes in
    let bit = g.W.Word.lane_bit in
    let lane = c.args.lane in
    let between : AreBetween lanes bit vectors (lanes_of lanes bit c.self.inside) =
    subst (λ (ls : Lanes g.row.W.Denot). AreBetween lanes bit vectors ls) (sym c.self.view_is) stood in
    subst (λ (ls : Lanes g.row.W.Denot). latch < length ls.circuit.latches
    → has c.keep_state.new.state latch ≡ state_differs ls.circuit (loaded_faults ls.in_force lane) vectors (length vectors) latch) c.self.view_is
    (λ within. c.keep_state.ensures.state latch ∙ (between lane c.requires.lane).raw latch within) lt
