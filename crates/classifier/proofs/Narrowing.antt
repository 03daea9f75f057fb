-- Lanes that are picked, and the words that they come from.
use Rattle.std.proofs.Common.{◌≡◌, ◌&&◌, ℕ, zero, suc, Bool, true, false, not, List, [], ◌∷◌, ◌++◌, get_or, refl, ap, sym, ◌∙◌, arith}
use Rattle.std.specs.Prelude.{Option, None, Some}
use Rattle.std.specs.List.{list_any}
use Rattle.std.proofs.lemmas.List.Folds.{list_any_none}
use Rattle.circuit.specs.declared.parts.Fault.{Fault}
use Rattle.circuit.specs.declared.parts.NetId.{NetId}
use Rattle.circuit.specs.Circuit.{Circuit}
use Rattle.circuit.specs.Trace.{trace}
use Rattle.workload.specs.declared.run.Run.{Run}
use Rattle.campaign_plan.specs.Danger.{golden, with_faults}
use Rattle.fm_base.specs.Lists.{same_bit}
use Rattle.fm_base.specs.Planes.{bit}
use Rattle.differential_kernel.specs.Picked.{bit_at_place}
use Rattle.golden_difference.specs.Beside.{IsOver}
use Rattle.golden_difference.specs.Lanes.{IsMadeFor}
use Rattle.golden_difference.proofs.Exclusive.{either_same}
use Rattle.lane_words.specs.Loads.{loaded_faults}
use Rattle.testbench.specs.Load.{in_lane}
use Rattle.classifier.specs.Narrowed.{AreNarrowFor, faults_at}
use Rattle.classifier.specs.declared.narrow.Narrow.{Narrow}
use Rattle.classifier.proofs.Stillness.{same_bits}

-- a bit that tells something of the faults at its place tells it of the lane; without faults it isn't so
pub tells_of : (in_force : List (List (Option Fault))) (truth : List Fault → Bool) (bits : ℕ) (place : Option ℕ) → truth [] ≡ false
    → ((own : ℕ) → place ≡ Some own → bit bits own ≡ truth (loaded_faults in_force own)) → bit_at_place bits place ≡ truth (faults_at in_force place)
tells_of in_force truth bits None bare each = sym bare
tells_of in_force truth bits (Some own) bare each = each own refl

-- what holds of the faults at each place, and without faults, holds in the lane
pub holds_at : (in_force : List (List (Option Fault))) (P : List Fault → Type 0) (place : Option ℕ) → P [] → ((own : ℕ) → place ≡ Some own → P (loaded_faults in_force own)) → P (faults_at in_force place)
holds_at in_force P None bare each = bare
holds_at in_force P (Some own) bare each = each own refl

-- so of two lists at the same place
pub same_at : (old new : List (List (Option Fault))) (place : Option ℕ) → ((own : ℕ) → place ≡ Some own → loaded_faults new own ≡ loaded_faults old own) → faults_at new place ≡ faults_at old place
same_at old new None each = refl
same_at old new (Some own) each = each own refl

-- the faults at a place are those of another lane
pub faults_from : (in_force : List (List (Option Fault))) (faults : List Fault) (place : Option ℕ) → (place ≡ None → faults ≡ []) → ((own : ℕ) → place ≡ Some own → loaded_faults in_force own ≡ faults)
    → faults_at in_force place ≡ faults
faults_from in_force faults None none each = sym (none refl)
faults_from in_force faults (Some own) none each = each own refl

-- the lanes of the one word are those of its places
pub in_first : (in_force : List (List (Option Fault))) (k : ℕ) → in_lane in_force 0 k ≡ loaded_faults in_force k
in_first in_force k = ap (loaded_faults in_force) (omega arith)

-- ---- without faults nothing shows

pub bare_same : (c : Circuit) (run : Run) (t : ℕ) (nets : List NetId) → list_any (λ net. not (same_bit (with_faults c [] run t net) (golden c run t net))) nets ≡ false
bare_same c run t nets = list_any_none (λ net. not (same_bit (golden c run t net) (golden c run t net))) nets (λ j e less. same_bits (golden c run t (get_or nets j e)) _ refl)

not_both : (b : Bool) → (b && not b) ≡ false
not_both true = refl
not_both false = refl

nor_both : (b : Bool) → (not b && b) ≡ false
nor_both true = refl
nor_both false = refl

pub bare_quiet : (c : Circuit) (run : Run) (t : ℕ) (nets : List NetId) → list_any (λ net. with_faults c [] run t net && not (golden c run t net)) nets ≡ false
bare_quiet c run t nets = list_any_none (λ net. golden c run t net && not (golden c run t net)) nets (λ j e less. not_both (golden c run t (get_or nets j e)))

pub bare_loud : (c : Circuit) (run : Run) (t : ℕ) (nets : List NetId) → list_any (λ net. not (with_faults c [] run t net) && golden c run t net) nets ≡ false
bare_loud c run t nets = list_any_none (λ net. not (golden c run t net) && golden c run t net) nets (λ j e less. nor_both (golden c run t (get_or nets j e)))

pub bare_over : (c : Circuit) (vectors : List (List Bool)) (most : ℕ) → IsOver c [] vectors most
bare_over c vectors most more t net from late inside = either_same (trace c [] (vectors ++ more) t net)

-- ---- the words that may go on

pub one_narrow : (c : Circuit) (order : List NetId) (s : Narrow) → IsMadeFor c order s.lanes → AreNarrowFor c order (s ∷ [])
one_narrow c order s made zero none lt = made
one_narrow c order s made (suc i) none lt = absurd (omega (arith, lt))

-- for the same circuit and order
pub narrow_for : (c d : Circuit) (old new : List NetId) (narrow : List Narrow) → c ≡ d → old ≡ new → AreNarrowFor c old narrow → AreNarrowFor d new narrow
narrow_for c d old new narrow same nets are i none lt = record { circuit = (are i none lt).circuit ∙ same; order = (are i none lt).order ∙ nets }
