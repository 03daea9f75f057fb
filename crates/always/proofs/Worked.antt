-- The text of a small plan, by answers that were made up. Its weights, sums and counts were worked out by hand.
use Rattle.std.proofs.Common.{◌≡◌, ℕ, true, false, List, [], ◌∷◌, refl, codes}
use Rattle.std.specs.Prelude.{None, Some}
use Rattle.std.specs.Fmt.{digits}
use Rattle.always_answers.specs.declared.answers.PartAnswer.{PartAnswer}
use Rattle.always_answers.specs.declared.answers.PartAnswer.TheVariants.{Alone, Whole}
use Rattle.campaign_plan.specs.Analysis.{Analysis}
use Rattle.campaign_plan.specs.Weights.{weight}
use Rattle.circuit.specs.declared.parts.Driver.TheVariants.{Input}
use Rattle.claim_search.specs.declared.answer.Answer.TheVariants as answer
use Rattle.claim_search.specs.declared.faults.FaultAnswer.{FaultAnswer}
use Rattle.claim_search.specs.declared.faults.FaultAnswer.TheVariants.{NoPath, OfClaim}
use Rattle.fault_list.specs.Faults.{faults_for}
use Rattle.fm_base.specs.Lists.{below}
use Rattle.metric_sums.specs.declared.Asil.TheVariants.{B}
use Rattle.metric_sums.specs.declared.Role.TheVariants.{Mechanism, Mission}
use Rattle.always.specs.Text.{always_with, least_lines, named_line, part_line, sizes_line, terms_lines}
use Rattle.always.specs.Verdict.{Terms, verdict_at}

-- two nets, each of a part of its own; a pulse on each of them in cycle 5
plan : Analysis
plan = record {
  circuit = record {
    names = codes "a" ∷ codes "y" ∷ [];
    drivers = Input 0 ∷ Input 1 ∷ [];
    tables = [];
    latches = [];
    inputs = record { 0 = 0 } ∷ record { 0 = 1 } ∷ [];
    outputs = [];
  };
  runs = [];
  rates = record {
    patterns = record { name = codes "a"; star = false; part = 0 } ∷ record { name = codes "y"; star = false; part = 1 } ∷ [];
    parts = record { name = codes "in"; role = Mission; covered = true; permanent = 2; transient = 3 }
        ∷ record { name = codes "out"; role = Mechanism; covered = false; permanent = 198; transient = 0 } ∷ [];
  };
  points = record { goals = []; alarm = [] };
  settings = record { ftti = 3; flips = []; stretch = None; pulses = 5 ∷ []; asil = B };
}

terms : Terms
terms = record { held = record { net = record { 0 = 0 }; from = 2; before = Some true; value = false } ∷ []; from = 2; window = 3; ahead = 1 }

-- a/0, a/1, y/0, y/1, and the pulses, which wait until the first cycle, so that of y isn't early
answers : List FaultAnswer
answers = OfClaim answer.Open ∷ OfClaim answer.Alarmed ∷ NoPath ∷ OfClaim answer.Early ∷ OfClaim answer.Open ∷ OfClaim answer.Early ∷ []

parts : List PartAnswer
parts = Whole 1 2 ∷ Alone ∷ []

worked : always_with plan terms (verdict_at plan 2 answers) parts ≡ codes "fmeda-always 1\nnets 2 latches 0 faults 6 ftti 3 asil B\nheld a 0 from 2 and 1 before\nwindow 3 ahead 1\nassumes no alarm without a fault from cycle 2 on\npart in mission covered whole but 1 window 2 faults 3 no-path 0 alarmed 1 early 0 open 2\npart out mechanism uncovered whole no window - faults 3 no-path 1 alarmed 1 early 1 open 0\nspfm permanent since 0 at-least 100/200 target open\nspfm transient since 0 at-least 0/3 target open\nspfm permanent since 2 at-least 199/200 target met\nspfm transient since 2 at-least 0/3 target open\nearly y/1 99\nopen a/0 1\nopen a~5 3\nend\n"
unfolding plan terms answers parts always_with least_lines named_line part_line sizes_line terms_lines weight faults_for below digits
worked = refl
