-- A part that stands whole.
use Rattle.std.proofs.Common.{◌≡◌, ℕ, ◌≤◌, get_or, List, arith}
use Rattle.std.specs.List.{All}
use Rattle.alarm_points.specs.Interval.{interval_of}
use Rattle.alarm_points.specs.declared.Goal.{Goal}
use Rattle.always_answers.specs.Answers.{IsWhole, with_part}
use Rattle.always_answers.specs.declared.answers.PartAnswer.TheVariants.{Whole}
use Rattle.circuit.specs.declared.parts.Latch.{Latch}
use Rattle.claim_laws.specs.Laws.{DangerIsLeftOpen, FaultsLieWithin, IsLeftOpen, Stands}
use Rattle.claim_search.specs.Question.{with_pairs}
use Rattle.coverage_claim.specs.Claim.{Claim}
use Rattle.coverage_claim.specs.Laws.{with_window}
use Rattle.always.specs.Laws.{WholePartIsCovered, claim_of}
use Rattle.always.proofs.Standing.{admitted_again}

pub covered : DangerIsLeftOpen → FaultsLieWithin → WholePartIsCovered
covered left lie p terms part_of answers fit right supposed k few window at faults acts danger =
    let whole : IsWhole (claim_of p terms) part_of answers.open.items k few window = right.parts_are k (Whole few window) at in
    let claim : Claim = with_pairs (with_window (with_part (claim_of p terms) part_of answers.open.items k) window) whole.proved.0 in
    let stands : Stands claim fit.order = record { netlist = fit.netlist; ordered = fit.ordered; settled = fit.settled; proved = whole.proved.1 } in
    let fits : All (λ (goal : Goal). window ≤ interval_of p.settings.ftti goal) p.points.goals = λ i d lt. omega (arith, fit.fits i d lt, whole.within) in
    let found = left claim fit.order stands faults (lie p.circuit _ faults acts) p.settings.ftti fits p.runs
    (admitted_again (claim_of p terms) claim.region whole.proved.0 window p.runs supposed) danger in
    record {
      run = found.run;
      is_of = found.is_of;
      mission = found.mission;
      goal = found.goal;
      goal_of = found.goal_of;
      outside = record { t = found.outside.t; within = found.outside.within; differs_at = found.outside.differs_at; outside = found.outside.outside };
    }
