use Rattle.std.proofs.Common.{ℕ, Bool, List, ap, sym, ◌∙◌}
use Rattle.circuit.specs.declared.parts.Fault.{Fault}
use Rattle.circuit.specs.Circuit.{Circuit}
use Rattle.workload.specs.declared.run.Run.{Run}
use Rattle.workload.specs.Runs.{cycles_of, is_mission}
use Rattle.alarm_points.specs.declared.Goal.{Goal}
use Rattle.alarm_points.specs.declared.Points.{Points}
use Rattle.alarm_points.specs.Interval.{goes_unalarmed, interval_of}
use Rattle.alarm_points.proofs.Planes.{bit_of_none}
use Rattle.campaign_plan.specs.Danger.{differs, is_raised}
use Rattle.classifier.proofs.Ends.{list_any_nowhere, list_any_where}
use Rattle.row_audit.proofs.Ends.{end_says}
use Rattle.row_audit.proofs.watcher.shown.Goals as goal

abbrev unalarmed : Circuit → Points → ℕ → List Fault → Run → Goal → Bool
unalarmed c points ftti x run goal = goes_unalarmed (interval_of ftti goal) (cycles_of run) (differs c goal x run) (is_raised c points x run)

pub returns-in-Mission-clause-danger : goal.returns-in-Mission-clause-danger
returns-in-Mission-clause-danger c = λ circuit points run faults k kind seen lane.
    end_says circuit points run faults c.args.watcher.now k lane seen c.end.result c.end.ensures
    ∙ list_any_where (is_mission run.kind) (unalarmed circuit points c.args.watcher.now.windows.ftti (faults k) run) points.goals (ap is_mission (kind ∙ c.in-Mission.is))

pub returns-in-Test-clause-danger : goal.returns-in-Test-clause-danger
returns-in-Test-clause-danger c = λ circuit points run faults k kind seen lane.
    bit_of_none k
    ∙ sym (list_any_nowhere (is_mission run.kind) (unalarmed circuit points c.args.watcher.now.windows.ftti (faults k) run) points.goals (ap is_mission (kind ∙ c.in-Test.is)))
