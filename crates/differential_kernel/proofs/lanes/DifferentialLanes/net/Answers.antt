use Rattle.std.proofs.Common.{◌+◌, ◌*◌, ◌<◌, [], length, get_or, ap, ap₂, sym, subst, ◌∙◌, arith}
use Rattle.circuit.specs.Value.{bit_at}
use Rattle.golden_difference.specs.Lanes.{Lanes}
use Rattle.lane_words.specs.Bits.{either}
use Rattle.differential_kernel.proofs.Stepped.{read_value}
use Rattle.differential_kernel.proofs.Told.{at_shown}
use Rattle.differential_kernel.proofs.lanes.DifferentialLanes.net.Goals as goal

pub difference-requires : goal.difference-requires
difference-requires g c = c.self.invariant.nets.own.touched.same

pub returns : goal.returns
returns g c = λ vectors t k beside golden last lt within.
    let lane = c.args.word * 64 + k in
    let low : lane < g.W.Word.lanes = omega (arith, c.requires, lt, g.met.W.Word.whole) in
    c.part.ensures k lt ∙ c.xor.ensures lane low
    ∙ ap₂ either (c.golden_word-golden.ensures lane low)
    (c.difference.ensures lane low
    ∙ sym
    (at_shown g.W.Word.lanes g.W.Word.lane_bit (length c.self.inside.circuit.value.drivers) c.self.inside.nets lane c.args.net.0 low
    (subst (λ (lanes : Lanes g.row.W.Denot). c.args.net.0 < length lanes.circuit.drivers) (sym c.self.view_is) within))
    ∙ ap (λ (lanes : Lanes g.row.W.Denot). bit_at (get_or lanes.shown lane []) c.args.net.0) c.self.view_is)
    ∙ read_value g.W.Word.lanes g.W.Word.lane_bit c.args.self.now vectors c.args.row.now t lane c.args.net.0 beside golden last low within
