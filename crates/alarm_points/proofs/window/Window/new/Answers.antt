use Rattle.std.proofs.Common.{refl}
use Rattle.alarm_points.specs.Watch.{Watch}
use Rattle.alarm_points.proofs.Rings.{after_none}
use Rattle.alarm_points.proofs.window.Window.new.Goals as goal

pub returns-clause-start : goal.returns-clause-start
returns-clause-start c =
    let fresh : Watch = record { ftti = c.args.ftti; recent = c.in_ok-filled.field-0.items; place = 0; count = 0; differed = 0; raised = 0; settled = 0 } in
    after_none fresh refl refl refl refl refl
