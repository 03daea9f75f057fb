-- Batches of faults in lanes, and their marks.
use Rattle.std.proofs.Common.{◌≡◌, ◌≢◌, inl, inr, ℕ, ◌+◌, ◌<◌, ◌≤◌, Bool, true, false, List, [], ◌∷◌, length, get_or, set, ap, sym, subst, ◌∙◌, arith, below_more, get_or-set_other, get_or-set_same}
use Rattle.std.specs.Prelude.{Option, Some, None, slice_index, replicate}
use Rattle.std.proofs.lemmas.Bool.{cases_eq, cases_lt}
use Rattle.std.proofs.lemmas.List.{get_or-replicate, get_or_past, length-replicate}
use Rattle.fm_base.specs.Planes.{bit}
use Rattle.fm_base.proofs.Tests.{clash}
use Rattle.circuit.specs.Circuit.{Circuit}
use Rattle.circuit.specs.Value.{bit_at}
use Rattle.circuit.specs.declared.parts.Fault.{Fault}
use Rattle.circuit.specs.declared.parts.NetId.{NetId}
use Rattle.claim_search.specs.declared.question.Posed.{Posed}
use Rattle.fault_list.specs.Faults.{fault_at}
use Rattle.lane_words.specs.Bank.{Bank, IsBankFor, KeepsBankLoads}
use Rattle.lane_words.specs.Loads.{loaded_faults, somes}
use Rattle.counterexamples.specs.Contradicted.{AreContradicted, MarksContradicted}
use Rattle.counterexamples.specs.Runs.{AreLoaded, LanesContradicted}

-- ---- lanes that keep what they were loaded with

pub kept_on : (a b c : Bank ℕ) → KeepsBankLoads a b → KeepsBankLoads b c → KeepsBankLoads a c
kept_on a b c first second = record { circuit = second.circuit ∙ first.circuit; order = second.order ∙ first.order; loads = second.loads ∙ first.loads }

pub still_made : (c : Circuit) (order : List NetId) (old new : Bank ℕ) → KeepsBankLoads old new → IsBankFor c order old → IsBankFor c order new
still_made c order old new keeps made = record { circuit = keeps.circuit ∙ made.circuit; order = keeps.order ∙ made.order }

-- ---- loads

pub record AreLoadedTo (faults : List Fault) (batch : List ℕ) (loads : List (List (Option Fault))) (count : ℕ) : Type 0 where
  pub size : length loads ≡ 64
  pub golden : loaded_faults loads 0 ≡ []
  pub each : (k : ℕ) → k < count → loaded_faults loads (k + 1) ≡ fault_at faults (slice_index batch k) ∷ []

-- one fault more is in its lane
pub loaded_more : (faults : List Fault) (batch : List ℕ) (loads : List (List (Option Fault))) (k : ℕ) (fault : Fault) → AreLoadedTo faults batch loads k → k < 63
    → fault ≡ fault_at faults (slice_index batch k) → length (set loads (k + 1) (Some fault ∷ None ∷ [])) ≡ 64 → AreLoadedTo faults batch (set loads (k + 1) (Some fault ∷ None ∷ [])) (k + 1)
loaded_more faults batch loads k fault so few is size = record {
  size = size;
  golden = (let apart : 0 ≢ k + 1 = omega arith in ap somes (get_or-set_other loads (k + 1) 0 own [] apart) ∙ so.golden);
  each = below_more (λ j. loaded_faults (set loads (k + 1) own) (j + 1) ≡ fault_at faults (slice_index batch j) ∷ []) k
      (λ j lt. (let apart : j + 1 ≢ k + 1 = omega (arith, lt) in ap somes (get_or-set_other loads (k + 1) (j + 1) own [] apart) ∙ so.each j lt))
      (ap somes (get_or-set_same loads (k + 1) own [] (let all = so.size in omega (arith, few, all))) ∙ ap (λ (each : Fault). each ∷ []) is);
}
  where
    own : List (Option Fault)
    own = Some fault ∷ None ∷ []

-- ---- marks

-- the fault of a lane that is found has a mark too
pub mark_one : (c : Circuit) (p : Posed) (faults : List Fault) (batch : List ℕ) (loads : ℕ → List Fault) (found k : ℕ) (marks : List Bool) → AreLoaded faults batch loads
    → LanesContradicted c p loads found → k < length batch → k < 63 → bit found (k + 1) ≡ true → MarksContradicted c p faults marks
    → MarksContradicted c p faults (set marks (slice_index batch k) true)
mark_one c p faults batch loads found k marks loaded contradicted within few here old i e = elim (cases_eq i (slice_index batch k)) as (λ _. AreContradicted c p (fault_at faults i ∷ [])) [
  | inl same ↦ subst (λ n. AreContradicted c p (fault_at faults n ∷ [])) (sym same)
      (subst (AreContradicted c p) (loaded.each k within) (contradicted (k + 1) (omega (arith, few)) here))
  | inr apart ↦ old i (sym (get_or-set_other marks (slice_index batch k) i true false apart) ∙ e)
]

-- no fault has a mark at first
pub no_marks : (c : Circuit) (p : Posed) (faults : List Fault) (n : ℕ) → MarksContradicted c p faults (replicate n false)
no_marks c p faults n i e = absurd (clash (bit_at (replicate n false) i) e (elim (cases_lt i n) as (λ _. bit_at (replicate n false) i ≡ false) [
  | inl lt ↦ get_or-replicate n i false false lt
  | inr out ↦ behind n i out
]))
  where
    behind : (m j : ℕ) → m ≤ j → get_or (replicate m false) j false ≡ false
    behind m j out = get_or_past (replicate m false) j false (omega (arith, out, length-replicate m false))
