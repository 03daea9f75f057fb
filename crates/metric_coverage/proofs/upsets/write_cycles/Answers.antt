use Rattle.std.proofs.Common.{ℕ, ap, arith, take_all}
use Rattle.std.specs.List.{flat_map}
use Rattle.std.proofs.lemmas.Result.{err_from_is_err_and}
use Rattle.fm_base.specs.Names.{Bytes}
use Rattle.fm_shelf.proofs.Sending.{sends_as, sends_more, sends_none, sends_torn}
use Rattle.metric_coverage.specs.Cycles.{cycle_at}
use Rattle.metric_coverage.specs.Text.{cycle_by}
use Rattle.metric_coverage.proofs.upsets.write_cycles.Goals as goal

pub loop-cycle-init : goal.loop-cycle-init
loop-cycle-init g c = sends_none _

pub bounds-weights-cycle : goal.bounds-weights-cycle
bounds-weights-cycle g c = c.requires.room c.loop-cycle.cycle-index 0 c.loop-cycle-test.true

pub write_cycle-requires : goal.write_cycle-requires
write_cycle-requires g c = c.requires.light c.loop-cycle.cycle-index 0 c.loop-cycle-test.true

pub loop-cycle-preserved : goal.loop-cycle-preserved
loop-cycle-preserved g c =
    let text : ℕ → Bytes = λ cycle. cycle_by cycle (cycle_at c.args.weights.now cycle) in
    sends_more text c.args.cycles.now c.loop-cycle.cycle-index 0 c.loop-cycle-test.true c.loop-cycle.invariant c.in_ok-write_cycle.ensures

pub returns-in_err-write_cycle : goal.returns-in_err-write_cycle
returns-in_err-write_cycle g c =
    let e = err_from_is_err_and c.from_residual.result c.from_residual.ensures.1 in
    let text : ℕ → Bytes = λ cycle. cycle_by cycle (cycle_at c.args.weights.now cycle) in
    rw e.1 (sends_torn text c.args.cycles.now c.loop-cycle.cycle-index 0 c.loop-cycle-test.true e.0 c.loop-cycle.invariant c.in_err-write_cycle.ensures)

pub returns : goal.returns
returns g c =
    let text : ℕ → Bytes = λ cycle. cycle_by cycle (cycle_at c.args.weights.now cycle) in
    sends_as (ap (flat_map text) (take_all c.loop-cycle.cycle-index c.args.cycles.now (omega (arith, c.loop-cycle-test.false)))) c.loop-cycle.invariant
