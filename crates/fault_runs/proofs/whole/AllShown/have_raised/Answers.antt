use Rattle.std.proofs.Common.{◌≡◌, ◌<◌, ◌⊎◌, true, is_some, length, ap, ◌∙◌, arith, below_more}
use Rattle.alarm_points.specs.declared.Points.{Points}
use Rattle.lane_words.specs.Loads.{somes}
use Rattle.fault_runs.specs.First.{first_of}
use Rattle.fault_runs.specs.Records.{alarm_cycles}
use Rattle.fault_runs.specs.Whole.{NeverChange}
use Rattle.testbench.specs.Points.{alarm_at}
use Rattle.fault_runs.proofs.whole.AllShown.have_raised.Goals as goal

pub loop-a-preserved : goal.loop-a-preserved
loop-a-preserved c =
    let bench = c.args.self.now.bench.now in
    below_more (λ b. b < length bench.points.alarm
    → (is_some (first_of (alarm_cycles c.args.alarms.now b).raised c.args.fault) ≡ true) ⊎ NeverChange bench.circuit (somes c.args.faults.now) (alarm_at bench.points.alarm b)) c.loop-a.a
    c.loop-a.invariant (c.is_closed.ensures c.if-not-is_closed.false)

pub returns : goal.returns
returns c = λ is a lt.
    let count : length c.as_slice-nets.result.now ≡ length c.args.self.now.bench.now.points.alarm =
    ap length c.as_slice-nets.ensures ∙ ap (λ (ps : Points). length ps.alarm) c.points.ensures.points in
    c.loop-a.invariant a (omega (arith, lt, c.loop-a-test.false, count)) lt
