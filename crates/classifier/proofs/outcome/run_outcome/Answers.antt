use Rattle.std.proofs.Common.{◌≡◌, ◌<◌, ◌&&◌, ℕ, Bool, true, false, not, List, ap, sym, ◌∙◌}
use Rattle.circuit.specs.declared.parts.Fault.{Fault}
use Rattle.circuit.specs.Circuit.{Circuit}
use Rattle.workload.specs.declared.run.Run.{Run}
use Rattle.workload.specs.Runs.{cycles_of, is_mission}
use Rattle.alarm_points.specs.declared.Goal.{Goal}
use Rattle.alarm_points.specs.declared.Points.{Points}
use Rattle.alarm_points.specs.Interval.{goes_unalarmed, interval_of}
use Rattle.alarm_points.proofs.Planes.{bit_of_none}
use Rattle.campaign_plan.specs.Danger.{differs, is_noticed_in, is_raised}
use Rattle.alarm_points.specs.Watch.{Watches}
use Rattle.fm_base.specs.Planes.{bit}
use Rattle.classifier.specs.Seen.{HaveSeenRun}
use Rattle.std.proofs.Math.Bool.{and-false, and-true}
use Rattle.classifier.proofs.Leaving.{open_stays}
use Rattle.classifier.proofs.Views.{noticed_still}
use Rattle.classifier.proofs.Ends.{end_says, list_any_nowhere, list_any_where}
use Rattle.classifier.proofs.outcome.run_outcome.Goals as goal

abbrev unalarmed : Circuit → Points → ℕ → List Fault → Run → Goal → Bool
unalarmed c points ftti x run goal = goes_unalarmed (interval_of ftti goal) (cycles_of run) (differs c goal x run) (is_raised c points x run)

-- the lanes that have left, of those whose notice is open
notice : (c : Circuit) (points : Points) (run : Run) (faults : ℕ → List Fault) (windows : Watches) (left known noticed k : ℕ) → k < 64
    → bit noticed k ≡ (bit left k && not (bit known k)) → HaveSeenRun c points run faults known windows left → bit known k ≡ false
    → bit noticed k ≡ is_noticed_in c points (faults k) run
notice c points run faults windows left known noticed k lane is done free =
    is ∙ ap (λ b. bit left k && not b) free ∙ and-true (bit left k) ∙ done.seen.noticed_is k lane free
    ∙ noticed_still c points run (faults k) done.n done.within (λ none t from late.
    let still = done.still k t lane (open_stays c points windows.ftti (bit known k) (faults k) run done.n free none) from late in
    (still.raise, still.silence))

-- of the others none
nothing_new : (left known noticed k : ℕ) → bit noticed k ≡ (bit left k && not (bit known k)) → bit known k ≡ true → bit noticed k ≡ false
nothing_new left known noticed k is before = is ∙ ap (λ b. bit left k && not b) before ∙ and-false (bit left k)

pub returns-in-Mission-clause-noticed : goal.returns-in-Mission-clause-noticed
returns-in-Mission-clause-noticed c = λ circuit points run faults k kind seen lane free.
    notice circuit points run faults c.args.windows.now c.args.left c.args.known c.lanes_without-noticed.result k lane (c.lanes_without-noticed.ensures k lane) seen free

pub returns-in-Test-clause-noticed : goal.returns-in-Test-clause-noticed
returns-in-Test-clause-noticed c = λ circuit points run faults k kind seen lane free.
    notice circuit points run faults c.args.windows.now c.args.left c.args.known c.lanes_without-noticed.result k lane (c.lanes_without-noticed.ensures k lane) seen free

pub returns-in-Mission-clause-known : goal.returns-in-Mission-clause-known
returns-in-Mission-clause-known c = λ k lane before. nothing_new c.args.left c.args.known c.lanes_without-noticed.result k (c.lanes_without-noticed.ensures k lane) before

pub returns-in-Test-clause-known : goal.returns-in-Test-clause-known
returns-in-Test-clause-known c = λ k lane before. nothing_new c.args.left c.args.known c.lanes_without-noticed.result k (c.lanes_without-noticed.ensures k lane) before

pub returns-in-Mission-clause-danger : goal.returns-in-Mission-clause-danger
returns-in-Mission-clause-danger c = λ circuit points run faults k kind seen lane.
    end_says circuit points run faults c.args.known c.args.windows.now c.args.left k lane (ap is_mission (kind ∙ c.in-Mission.is)) seen c.end.result c.end.ensures
    ∙ list_any_where (is_mission run.kind) (unalarmed circuit points c.args.windows.now.ftti (faults k) run) points.goals (ap is_mission (kind ∙ c.in-Mission.is))

pub returns-in-Test-clause-danger : goal.returns-in-Test-clause-danger
returns-in-Test-clause-danger c = λ circuit points run faults k kind seen lane.
    bit_of_none k
    ∙ sym (list_any_nowhere (is_mission run.kind) (unalarmed circuit points c.args.windows.now.ftti (faults k) run) points.goals (ap is_mission (kind ∙ c.in-Test.is)))
