use Rattle.std.proofs.Common.{take}
use Rattle.blif_model.proofs.FirstFaults.{fault_step, fault_nowhere, up_to_here}
use Rattle.blif_model.proofs.faults.first_fault.Goals as goal

pub returns-in-Some : goal.returns-in-Some
returns-in-Some c =
    let i = c.loop-line.line-index in
    let kind =
    c.line_kind.ensures (take i c.args.lines.now) c.line-item.result c.loop-line.invariant.here c.says-says.ensures c.is_wide.ensures in
    let step =
    fault_step c.args.lines.now i c.line-item.result c.line_kind.result _ c.loop-line-test.true c.line-item.is kind
    c.loop-line.invariant.told in
    rw c.number.ensures (rw c.in-Some.is at step)

pub loop-line-preserved : goal.loop-line-preserved
loop-line-preserved c =
    let i = c.loop-line.line-index in
    let kind =
    c.line_kind.ensures (take i c.args.lines.now) c.line-item.result c.loop-line.invariant.here c.says-says.ensures c.is_wide.ensures in
    let step =
    fault_step c.args.lines.now i c.line-item.result c.line_kind.result _ c.loop-line-test.true c.line-item.is kind
    c.loop-line.invariant.told in
    record {
      here = rw (up_to_here c.args.lines.now i c.line-item.result c.loop-line-test.true c.line-item.is)
          (c.after-position.ensures (take i c.args.lines.now) c.line-item.result c.loop-line.invariant.here c.says-says.ensures);
      told = rw c.in-None.is at step;
    }

pub returns : goal.returns
returns c = fault_nowhere c.args.lines.now c.loop-line.line-index _ c.loop-line-test.false c.loop-line.invariant.told
