use Rattle.std.proofs.Common.{◌<◌, [], length, get_or, ap, sym, subst, ◌∙◌}
use Rattle.circuit.specs.Value.{bit_at}
use Rattle.golden_difference.specs.Lanes.{Lanes}
use Rattle.differential_kernel.proofs.Told.{at_shown}
use Rattle.differential_kernel.proofs.lanes.DifferentialLanes.difference.Goals as goal

pub difference-requires : goal.difference-requires
difference-requires g c = c.self.invariant.nets.own.touched.same

pub returns : goal.returns
returns g c = λ vectors t k beside last lt within.
    c.difference.ensures k lt
    ∙ sym
    (at_shown g.W.Word.lanes g.W.Word.lane_bit (length c.self.inside.circuit.value.drivers) c.self.inside.nets k c.args.net.0 lt
    (subst (λ (lanes : Lanes g.row.W.Denot). c.args.net.0 < length lanes.circuit.drivers) (sym c.self.view_is) within))
    ∙ ap (λ (lanes : Lanes g.row.W.Denot). bit_at (get_or lanes.shown k []) c.args.net.0) c.self.view_is
    ∙ (beside k lt).values t c.args.net.0 last within
