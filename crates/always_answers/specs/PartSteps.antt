-- Private steps towards the answers to parts, which the public contracts don't cite.
use Rattle.std.specs.Prelude.{◌≡◌, ◌⊎◌, ◌+◌, ◌<◌, ◌≤◌, ⊤, ℕ, Bool, true, false, List, length, Result, Ok, Err, Vec, slice_index, slice_index_or}
use Rattle.std.specs.declared.alloc.Global.{Global}
use Rattle.circuit.specs.Circuit.{Circuit}
use Rattle.circuit.specs.Value.{bit_at}
use Rattle.claim_search.specs.Answer.{IsNeverProvedSimply, IsProvedWithSome}
use Rattle.claim_search.specs.Question.{IsPosed}
use Rattle.claim_search.specs.declared.question.Posed.{Posed}
use Rattle.coverage_claim.specs.Claim.{Claim}
use Rattle.coverage_claim.specs.Laws.{with_window}
use Rattle.always_answers.specs.Answers.{IsPartAnswer, SomeSeen, with_part}
use Rattle.always_answers.specs.Nets.{marked_nets}
use Rattle.always_answers.specs.declared.answers.NoAnswers.{NoAnswers}
use Rattle.always_answers.specs.declared.answers.PartAnswer.{PartAnswer}
use Rattle.always_answers.specs.declared.answers.PartAnswer.TheVariants.{Alone, NoPath as NoPathOfPart, Whole}
use Rattle.always_answers.specs.declared.parts.Parts.{Parts}
use Rattle.always_answers.specs.Steps.{AreSeen, HasCause}

-- the numbers of parts, and the marks of nets, are those of a netlist
pub record AreParts (c : Circuit) (p : Posed) (parts : Parts) : Type 0 where
  pub count : length parts.of_nets.now ≡ length c.drivers
  pub seen : AreSeen c p.observed.now parts.seen.now
  pub open_count : length parts.open.now ≡ length c.drivers
  pub open_seen : (n : ℕ) → bit_at parts.open.now n ≡ true → bit_at parts.seen.now n ≡ true

-- THE PART IS COVERED AS A WHOLE, where windows below one were tried
pub record IsWholeSoFar (claim : Claim) (part_of : ℕ → ℕ) (open_nets : List Bool) (part count window tried : ℕ) : Type 0 where
  pub some : SomeSeen claim part_of open_nets part false
  pub count_is : count ≡ marked_nets claim.circuit part_of part open_nets
  pub found : (window ≡ claim.window) ⊎ (window ≤ tried)
  pub within : window ≤ claim.window
  pub proved : IsProvedWithSome (with_window (with_part claim part_of open_nets part) window)
  pub least : (shorter : ℕ) → shorter < window → shorter < tried → IsNeverProvedSimply (with_window (with_part claim part_of open_nets part) shorter)

abbrev pub IsPartSoFar : Claim → (part_of : ℕ → ℕ) → (open_nets : List Bool) → (part tried : ℕ) → PartAnswer → Type 0
IsPartSoFar claim part_of open_nets part tried NoPathOfPart = IsPartAnswer claim part_of open_nets part NoPathOfPart
IsPartSoFar claim part_of open_nets part tried (Whole count window) = IsWholeSoFar claim part_of open_nets part count window tried
IsPartSoFar claim part_of open_nets part tried Alone = IsPartAnswer claim part_of open_nets part Alone

abbrev pub part_answer_at : List PartAnswer → ℕ → PartAnswer
part_answer_at answers i = slice_index_or answers i NoPathOfPart

-- the first parts have their answers, where windows below one were tried
pub record ArePartsSoFar (c : Circuit) (p : Posed) (parts : Parts) (count tried : ℕ) (answers : List PartAnswer) : Type 0 where
  pub size : length answers ≡ count
  pub each : (claim : Claim) → IsPosed c p claim → (i : ℕ) → i < count → IsPartSoFar claim (slice_index parts.of_nets.now) parts.open.now i tried (part_answer_at answers i)

-- what is answered to one
abbrev pub AnswersPart : Circuit → Posed → Parts → (part : ℕ) → Result PartAnswer NoAnswers → Type 0
AnswersPart c p parts part (Ok answer) = (claim : Claim) → IsPosed c p claim → IsPartSoFar claim (slice_index parts.of_nets.now) parts.open.now part 0 answer
AnswersPart c p parts part (Err why) = HasCause c p why

-- and to all of them
abbrev pub AnswersParts : Circuit → Posed → Parts → (count tried : ℕ) → Result (Vec PartAnswer Global) NoAnswers → Type 0
AnswersParts c p parts count tried (Ok answers) = ArePartsSoFar c p parts count tried answers.items
AnswersParts c p parts count tried (Err why) = HasCause c p why

-- the same with a shorter window
abbrev pub with_shorter : Posed → ℕ → Posed
with_shorter p window = record p { window = window }

-- WHERE ONE MORE WINDOW WAS TRIED for a part
abbrev pub IsTried : Circuit → Posed → (greatest : ℕ) → Parts → (part : ℕ) → PartAnswer → Result PartAnswer NoAnswers → Type 0
IsTried c shorter greatest parts part old (Ok new) = (claim : Claim) → IsPosed c (with_shorter shorter greatest) claim
    → IsPartSoFar claim (slice_index parts.of_nets.now) parts.open.now part shorter.window old
    → IsPartSoFar claim (slice_index parts.of_nets.now) parts.open.now part (shorter.window + 1) new
IsTried c shorter greatest parts part old (Err why) = HasCause c (with_shorter shorter greatest) why

-- and for all of them
abbrev pub TriesAll : Circuit → Posed → Parts → (tried : ℕ) → (answers : List PartAnswer) → Result ⊤ NoAnswers → Type 0
TriesAll c p parts tried answers (Ok done) = ArePartsSoFar c p parts (length answers) tried answers
TriesAll c p parts tried answers (Err why) = HasCause c p why
