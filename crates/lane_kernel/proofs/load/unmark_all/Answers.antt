use Rattle.std.proofs.Common.{◌+◌, false, cond, drop, get_or, [], ap, sym, ◌∙◌, arith}
use Rattle.circuit.specs.Value.{bit_at}
use Rattle.lane_words.specs.Loads.{some_names, names}
use Rattle.lane_words.proofs.Armed.{armed}
use Rattle.lane_kernel.proofs.Marking.{merged, named_more}
use Rattle.lane_kernel.proofs.load.unmark_all.Goals as goal

pub loop-faults-init : goal.loop-faults-init
loop-faults-init c = λ n within. armed (some_names c.args.loads.now n) false (bit_at c.args.marks.now n) (λ e. c.requires n within ∙ e)

pub loop-faults-preserved : goal.loop-faults-preserved
loop-faults-preserved c = λ n within.
    let b = bit_at c.loop-faults.marks n in
    let i = c.loop-faults.faults-index in
    let rest = some_names (drop (i + 1) c.args.loads.now) n in
    let size = c.unmark_lane.auto.marks in
    ap (cond rest false) (c.unmark_lane.ensures n (omega (arith, size, within)))
    ∙ merged (names (get_or c.args.loads.now i []) n) rest false b
    ∙ ap (λ t. cond t false b) (sym (named_more c.args.loads.now i n (omega arith)))
    ∙ c.loop-faults.invariant n (omega (arith, size, within))
