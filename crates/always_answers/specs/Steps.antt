-- Private steps, which the public contracts don't cite.
use Rattle.std.specs.Prelude.{◌≡◌, ◌≢◌, ◌⊎◌, ◌==◌, ◌<◌, ⊤, ℕ, Bool, true, false, ◌&&◌, List, length, Result, Ok, Err, Vec, slice_index, slice_index_or}
use Rattle.std.specs.declared.alloc.Global.{Global}
use Rattle.circuit.specs.Circuit.{Circuit}
use Rattle.circuit.specs.Order.{net_at}
use Rattle.circuit.specs.Value.{bit_at}
use Rattle.circuit.specs.declared.parts.Fault.{Fault}
use Rattle.circuit.specs.declared.parts.NetId.{NetId}
use Rattle.claim_search.specs.Faults.{IsFaultAnswer}
use Rattle.claim_search.specs.Hypotheses.{Contradict}
use Rattle.claim_search.specs.Question.{IsPosed}
use Rattle.claim_search.specs.Sites.{IsAnswerAt, answer_at}
use Rattle.claim_search.specs.declared.answer.Answer.{Answer}
use Rattle.claim_search.specs.declared.answer.Answer.TheVariants.{NoRuns, Open}
use Rattle.claim_search.specs.declared.faults.FaultAnswer.{FaultAnswer}
use Rattle.claim_search.specs.declared.faults.FaultAnswer.TheVariants.{OfClaim, NoPath}
use Rattle.claim_search.specs.declared.hypotheses.Contradiction.TheVariants.{Alarms, Held}
use Rattle.claim_search.specs.declared.question.Posed.{Posed}
use Rattle.coverage_claim.specs.Claim.{Claim}
use Rattle.coverage_claim.specs.declared.parts.Site.TheVariants.{Free}
use Rattle.fault_list.specs.Faults.{fault_at}
use Rattle.fm_base.specs.Lists.{same_bit}
use Rattle.reach.specs.Paths.{LeadsToSome}
use Rattle.always_answers.specs.declared.answers.NoAnswers.{NoAnswers}
use Rattle.always_answers.specs.declared.answers.NoAnswers.TheVariants.{Contradiction, Memory}

-- ---- nets of a part

-- the net of a number
abbrev pub net : ℕ → NetId
net n = record { 0 = n }

-- a mark for each net that leads to some of these
pub record AreSeen (c : Circuit) (goals : List NetId) (seen : List Bool) : Type 0 where
  pub count : length seen ≡ length c.drivers
  pub leads : (n : ℕ) → bit_at seen n ≡ true → LeadsToSome c (net n) goals
  pub none : (n : ℕ) → n < length c.drivers → bit_at seen n ≡ false → ¬ (LeadsToSome c (net n) goals)

-- the net is one of the part, and has this mark
abbrev pub is_picked : (parts : List ℕ) (part : ℕ) (marks : List Bool) (mark : Bool) → ℕ → Bool
is_picked parts part marks mark n = slice_index parts n == part && same_bit (bit_at marks n) mark

-- THESE ARE THE NETS that pass a test, of so many
pub record ArePicked (test : ℕ → Bool) (count : ℕ) (nets : List NetId) : Type 0 where
  pub each : (i : ℕ) → i < length nets → ((net_at nets i).0 < count) × (test (net_at nets i).0 ≡ true)
  pub all : (n : ℕ) → n < count → test n ≡ true → (i : ℕ) × (i < length nets) × ((net_at nets i).0 ≡ n)

-- ---- each net alone

-- WHAT IS WRITTEN at the numbers of the first nets of a list stands there, and elsewhere what stood before
abbrev pub IsSpread : ℕ → List NetId → (found old new : List Answer) → ℕ → Type 0
IsSpread count nets found old new n =
    ((i : ℕ) × (i < count) × ((net_at nets i).0 ≡ n) × (answer_at new n ≡ answer_at found i))
    ⊎ (((i : ℕ) → i < count → (net_at nets i).0 ≢ n) × (answer_at new n ≡ answer_at old n))

-- each net of the first parts that leads to an observation net has its answer
abbrev pub AreAlone : Circuit → Posed → (parts : List ℕ) (seen : List Bool) → ℕ → List Answer → Type 0
AreAlone c p parts seen count free = (claim : Claim) → IsPosed c p claim → (n : ℕ) → slice_index parts n < count → bit_at seen n ≡ true
    → IsAnswerAt claim (net n) Free (answer_at free n)

-- and of all parts
abbrev pub AreFree : Circuit → Posed → (seen : List Bool) → List Answer → Type 0
AreFree c p seen free = (claim : Claim) → IsPosed c p claim → (n : ℕ) → bit_at seen n ≡ true → IsAnswerAt claim (net n) Free (answer_at free n)

abbrev pub is_open : Answer → Bool
is_open = elim [ Open ↦ true | _ ↦ false ]

abbrev pub is_none : Answer → Bool
is_none = elim [ NoRuns ↦ true | _ ↦ false ]

-- the first nets that are open have a mark, and none has no runs
pub record AreMarked (free : List Answer) (seen : List Bool) (count : ℕ) (open_nets : List Bool) : Type 0 where
  pub size : length open_nets ≡ count
  pub each : (n : ℕ) → n < count → bit_at open_nets n ≡ (bit_at seen n && is_open (answer_at free n))
  pub runs : (n : ℕ) → n < count → bit_at seen n ≡ true → is_none (answer_at free n) ≡ false

-- all of them, or one has no runs
abbrev pub MarksOpen : (free : List Answer) (seen : List Bool) → Result (Vec Bool Global) NoAnswers → Type 0
MarksOpen free seen (Ok open_nets) = AreMarked free seen (length seen) open_nets.items
MarksOpen free seen (Err (Contradiction Held)) = (n : ℕ) × (bit_at seen n ≡ true) × (is_none (answer_at free n) ≡ true)
MarksOpen free seen (Err (Contradiction Alarms)) = ⊥
MarksOpen free seen (Err (Memory no_room)) = ⊤

-- ---- faults

abbrev pub is_runless : FaultAnswer → Bool
is_runless = elim [ OfClaim answer ↦ is_none answer | _ ↦ false ]

abbrev pub fault_answer_at : List FaultAnswer → ℕ → FaultAnswer
fault_answer_at answers i = slice_index_or answers i NoPath

-- the first faults have their answers
pub record AreFirstAnswers (c : Circuit) (p : Posed) (faults : List Fault) (count : ℕ) (answers : List FaultAnswer) : Type 0 where
  pub size : length answers ≡ count
  pub runs : (i : ℕ) → i < count → is_runless (fault_answer_at answers i) ≡ false
  pub each : (claim : Claim) → IsPosed c p claim → (i : ℕ) → i < count → IsFaultAnswer c claim (fault_at faults i) (fault_answer_at answers i)

-- why there are none
abbrev pub HasCause : Circuit → Posed → NoAnswers → Type 0
HasCause c p (Contradiction why) = (claim : Claim) → IsPosed c p claim → Contradict claim why
HasCause c p (Memory no_room) = ⊤

abbrev pub AnswersFaults : Circuit → Posed → List Fault → Result (Vec FaultAnswer Global) NoAnswers → Type 0
AnswersFaults c p faults (Ok answers) = AreFirstAnswers c p faults (length faults) answers.items
AnswersFaults c p faults (Err why) = HasCause c p why
