-- What may be answered for every workload: to each fault of a list, and to each part of a netlist.
use Rattle.std.specs.Prelude.{◌≡◌, ◌≢◌, ◌⊎◌, ◌<◌, ◌≤◌, ⊤, ℕ, Bool, true, false, List, length, All, Some, Result, Ok, Err, slice_index}
use Rattle.std.specs.List.{slice_get}
use Rattle.circuit.specs.Circuit.{Circuit}
use Rattle.circuit.specs.Value.{bit_at}
use Rattle.circuit.specs.declared.parts.Fault.{Fault}
use Rattle.circuit.specs.declared.parts.NetId.{NetId}
use Rattle.claim_search.specs.Answer.{IsNeverProvedSimply, IsProvedWithSome}
use Rattle.claim_search.specs.Faults.{IsFaultAnswer}
use Rattle.claim_search.specs.Hypotheses.{Contradict, ContradictSimply, nowhere}
use Rattle.claim_search.specs.Question.{with_region}
use Rattle.claim_search.specs.declared.answer.Answer.TheVariants.{NoRuns}
use Rattle.claim_search.specs.declared.faults.FaultAnswer.{FaultAnswer}
use Rattle.claim_search.specs.declared.faults.FaultAnswer.TheVariants.{OfClaim}
use Rattle.coverage_claim.specs.Claim.{Claim}
use Rattle.coverage_claim.specs.Laws.{with_window}
use Rattle.fault_list.specs.Faults.{fault_at, net_of_fault}
use Rattle.always_answers.specs.Nets.{AreOpen, IsSeen, all_but, is_of_part, marked_nets}
use Rattle.always_answers.specs.declared.answers.Answers.{Answers}
use Rattle.always_answers.specs.declared.answers.NoAnswers.{NoAnswers}
use Rattle.always_answers.specs.declared.answers.NoAnswers.TheVariants.{Contradiction, Memory}
use Rattle.always_answers.specs.declared.answers.PartAnswer.{PartAnswer}
use Rattle.always_answers.specs.declared.answers.PartAnswer.TheVariants.{Alone, NoPath, Whole}
use Rattle.always_answers.specs.declared.inquiry.Inquiry.{Inquiry}

-- ---- a part

-- with anything at all nets of the part but those that are open alone
abbrev pub with_part : Claim → (part_of : ℕ → ℕ) → (open_nets : List Bool) → (part : ℕ) → Claim
with_part claim part_of open_nets part = with_region claim (all_but claim.circuit part_of part open_nets)

-- a net of the part leads to an observation net, and these marks have it so
abbrev pub SomeSeen : Claim → (part_of : ℕ → ℕ) → (open_nets : List Bool) → (part : ℕ) → Bool → Type 0
SomeSeen claim part_of open_nets part mark =
    (net : NetId) × (is_of_part claim.circuit part_of part net.0 ≡ true) × IsSeen claim net × (bit_at open_nets net.0 ≡ mark)

-- THE PART IS COVERED AS A WHOLE, but for its nets that are open alone
-- some: it has others that lead to an observation net
-- count: the number of those that are open alone
-- proved, least: an alarm comes in this window, and in no shorter one is that proved simply
pub record IsWhole (claim : Claim) (part_of : ℕ → ℕ) (open_nets : List Bool) (part count window : ℕ) : Type 0 where
  pub some : SomeSeen claim part_of open_nets part false
  pub count_is : count ≡ marked_nets claim.circuit part_of part open_nets
  pub within : window ≤ claim.window
  pub proved : IsProvedWithSome (with_window (with_part claim part_of open_nets part) window)
  pub least : (shorter : ℕ) → shorter < window → IsNeverProvedSimply (with_window (with_part claim part_of open_nets part) shorter)

-- THE ANSWER TO A PART
abbrev pub IsPartAnswer : Claim → (part_of : ℕ → ℕ) → (open_nets : List Bool) → (part : ℕ) → PartAnswer → Type 0
IsPartAnswer claim part_of open_nets part NoPath = (net : NetId) → is_of_part claim.circuit part_of part net.0 ≡ true → ¬ (IsSeen claim net)
IsPartAnswer claim part_of open_nets part (Whole count window) = IsWhole claim part_of open_nets part count window
IsPartAnswer claim part_of open_nets part Alone =
    (SomeSeen claim part_of open_nets part true × (¬ (SomeSeen claim part_of open_nets part false)))
    ⊎ (SomeSeen claim part_of open_nets part false × IsNeverProvedSimply (with_part claim part_of open_nets part))

-- ---- all of them

-- THE ANSWERS to a claim, whatever its region and pairs, of these faults and of so many parts
-- possible: held inputs and silent alarms don't contradict each other simply
-- faults, runs: each fault has its answer, with the claim's window, and that isn't that no two runs are so
-- open_nets: those that are open alone
-- parts: each part has its answer
pub record AreAnswers (claim : Claim) (faults : List Fault) (part_of : ℕ → ℕ) (part_count : ℕ) (answers : Answers) : Type 0 where
  pub possible : ¬ (ContradictSimply claim)
  pub fault_count : length answers.faults.items ≡ length faults
  pub faults_are : (i : ℕ) (fault : Fault) (answer : FaultAnswer) → slice_get faults i ≡ Some fault → slice_get answers.faults.items i ≡ Some answer
      → IsFaultAnswer claim.circuit claim fault answer
  pub runs : All (λ answer. answer ≢ OfClaim NoRuns) answers.faults.items
  pub open_nets : AreOpen claim answers.open.items
  pub part_count_is : length answers.parts.items ≡ part_count
  pub parts_are : (part : ℕ) (answer : PartAnswer) → slice_get answers.parts.items part ≡ Some answer → IsPartAnswer claim part_of answers.open.items part answer

-- each fault acts on a net of the netlist
abbrev pub AreOn : Circuit → List Fault → Type 0
AreOn c faults = (i : ℕ) → i < length faults → net_of_fault c (fault_at faults i) < length c.drivers

-- the claim that is asked of, where nothing is done anywhere
abbrev pub claim_of : Inquiry → Claim
claim_of asked = record {
  circuit = asked.netlist.now;
  points = asked.points.now;
  held = asked.held.now;
  from = asked.from;
  region = nowhere;
  window = asked.window;
  ahead = asked.ahead;
  apart = λ latch golden faulty. true;
}

-- THE ANSWERS TO AN INQUIRY: a contradiction of what is supposed, or an answer to each fault and each part
abbrev pub AreAnswersTo : Inquiry → Result Answers NoAnswers → Type 0
AreAnswersTo asked (Ok answers) = AreAnswers (claim_of asked) asked.faults.now (slice_index asked.parts.now) asked.part_count answers
AreAnswersTo asked (Err (Contradiction why)) = Contradict (claim_of asked) why
AreAnswersTo asked (Err (Memory no_room)) = ⊤
