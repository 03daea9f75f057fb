use Rattle.std.proofs.Common.{◌∙◌, sym}
use Rattle.fmeda_report.specs.Tallies.{planes_in_order}
use Rattle.fmeda_report.proofs.Naming.{named_line, unnamed_line}
use Rattle.fm_shelf.proofs.Sending.{sends_as, sends_none}
use Rattle.fmeda_report.proofs.faults.write_fault.Goals as goal

pub returns-then-is_named : goal.returns-then-is_named
returns-then-is_named g c =
    sends_as (sym (named_line c.args.plan.now (planes_in_order c.args.planes.now) c.args.i c.class_of_fault-class.result c.class_of_fault-class.ensures
    (sym c.is_named.ensures ∙ c.if-is_named.true))) c.write_named.ensures

pub returns-else-is_named : goal.returns-else-is_named
returns-else-is_named g c =
    sends_as (sym (unnamed_line c.args.plan.now (planes_in_order c.args.planes.now) c.args.i c.class_of_fault-class.result c.class_of_fault-class.ensures
    (sym c.is_named.ensures ∙ c.if-is_named.false))) (sends_none _)
