use Rattle.std.specs.Prelude.{codes, decimal}
use Rattle.refusals.proofs.Saying.{row_said}
use Rattle.refusals.proofs.lines.refuse_bad_row.Goals as goal

pub returns-in-Form : goal.returns-in-Form
returns-in-Form g c = row_said (g.O.Sink.seen c.args.out.now) (g.O.Sink.seen c.refuse_row.new.out) (codes "result row") (decimal c.args.number) c.args.why _ c.in-Form.is c.refuse_row.ensures

pub returns-in-Range : goal.returns-in-Range
returns-in-Range g c = row_said (g.O.Sink.seen c.args.out.now) (g.O.Sink.seen c.refuse_row-in-Range.new.out) (codes "result row") (decimal c.args.number) c.args.why _ c.in-Range.is c.refuse_row-in-Range.ensures

pub returns-in-Repeated : goal.returns-in-Repeated
returns-in-Repeated g c = row_said (g.O.Sink.seen c.args.out.now) (g.O.Sink.seen c.refuse_row-in-Repeated.new.out) (codes "result row") (decimal c.args.number) c.args.why _ c.in-Repeated.is c.refuse_row-in-Repeated.ensures

pub returns-in-UnusedLane : goal.returns-in-UnusedLane
returns-in-UnusedLane g c = row_said (g.O.Sink.seen c.args.out.now) (g.O.Sink.seen c.refuse_row-in-UnusedLane.new.out) (codes "result row") (decimal c.args.number) c.args.why _ c.in-UnusedLane.is c.refuse_row-in-UnusedLane.ensures

pub returns-in-Sums : goal.returns-in-Sums
returns-in-Sums g c = row_said (g.O.Sink.seen c.args.out.now) (g.O.Sink.seen c.refuse_sums.new.out) (codes "result row") (decimal c.args.number) c.args.why _ c.in-Sums.is c.refuse_sums.ensures
