use Rattle.std.proofs.Common.{map, ap, sym, ◌∙◌}
use Rattle.alarm_points.specs.Interval.{interval_of}
use Rattle.row_audit.proofs.Views.{unwatched}
use Rattle.row_audit.proofs.watcher.Watcher.start.Goals as goal

pub returns-clause-seen : goal.returns-clause-seen
returns-clause-seen c = λ circuit points run faults made.
    let keeps = c.start.ensures.keeps in
    unwatched circuit points run faults c.args.self.now.batch c.start.new.self c.args.self.now.planes
    (keeps.intervals ∙ made ∙ ap (λ f. map (interval_of f) points.goals) (sym keeps.ftti)) c.start.ensures.start
