use Rattle.std.proofs.Common.{arith}
use Rattle.std.proofs.lemmas.Result.{err_from_is_err_and}
use Rattle.fm_shelf.proofs.Sending.{sends_no_number, sends_number, sends_number_torn}
use Rattle.workload.specs.Runs.{cycles_of}
use Rattle.wave_dump.specs.Dump.{cycle_values}
use Rattle.wave_dump.proofs.Running.{holds_none, starts_behind, still_has}
use Rattle.wave_dump.proofs.values.write_cycles.Goals as goal

pub loop-t-init : goal.loop-t-init
loop-t-init g c = record {
  lanes = still_has c.args.scene.now c.args.order.now c.args.lanes.now c.start.new.self c.start.ensures.keeps c.requires.lanes;
  behind = starts_behind c.args.scene.now c.args.order.now c.args.lanes.now c.start.new.self c.requires.lanes c.start.ensures.keeps c.start.ensures.cycle c.start.ensures.start;
  held = holds_none c.args.scene.now c.args.held.now c.requires.held;
  sent = sends_no_number (cycle_values c.args.scene.now) _;
}

pub loop-t-preserved : goal.loop-t-preserved
loop-t-preserved g c = record {
  lanes = still_has c.args.scene.now c.args.order.now c.loop-t.lanes c.run_next.new.lanes c.run_next.ensures.keeps c.loop-t.invariant.lanes;
  behind = c.run_next.ensures.behind;
  held = c.hold.ensures c.loop-t.t c.run_next.ensures.now;
  sent = sends_number (cycle_values c.args.scene.now) c.loop-t.t c.loop-t.invariant.sent c.in_ok-write_cycle.ensures;
}

pub returns-in_err-write_cycle : goal.returns-in_err-write_cycle
returns-in_err-write_cycle g c =
    let w = c.args.scene.now in
    let p = err_from_is_err_and c.from_residual.result c.from_residual.ensures.1 in
    record {
      lanes = still_has w c.args.order.now c.loop-t.lanes c.run_next.new.lanes c.run_next.ensures.keeps c.loop-t.invariant.lanes;
      sends = rw p.1 (sends_number_torn (cycle_values w) (cycles_of w.run) c.loop-t.t p.0 (omega (arith, c.loop-t-test.true, c.cycles-t-end.ensures.count))
          c.loop-t.invariant.sent c.in_err-write_cycle.ensures);
    }
