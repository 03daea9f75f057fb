use Rattle.std.proofs.Common.{◌+◌, cond, drop, get_or, [], ap, sym, ◌∙◌, arith}
use Rattle.lane_words.specs.Forces.{force_value}
use Rattle.lane_words.specs.Loads.{some_names, names}
use Rattle.lane_words.proofs.Armed.{armed, lane_unnamed}
use Rattle.lane_kernel.proofs.Marking.{merged, named_more}
use Rattle.lane_kernel.proofs.load.disarm_all.Goals as goal

pub loop-faults-init : goal.loop-faults-init
loop-faults-init g c = λ k n d own lt within.
    armed (some_names c.args.loads.now n) own (force_value g.W.Word.lane_bit k (get_or c.args.forces.now n d) own)
    (λ e. c.requires k n d own lt within (lane_unnamed c.args.loads.now k n e))

pub loop-faults-preserved : goal.loop-faults-preserved
loop-faults-preserved g c = λ k n d own lt within.
    let f = force_value g.W.Word.lane_bit k (get_or c.loop-faults.forces n d) own in
    let i = c.loop-faults.faults-index in
    let rest = some_names (drop (i + 1) c.args.loads.now) n in
    let size = c.disarm_lane.auto.forces in
    ap (cond rest own) (c.disarm_lane.ensures k n d own lt (omega (arith, size, within)))
    ∙ merged (names (get_or c.args.loads.now i []) n) rest own f
    ∙ ap (λ b. cond b own f) (sym (named_more c.args.loads.now i n (omega arith)))
    ∙ c.loop-faults.invariant k n d own lt (omega (arith, size, within))
