-- Faults that act in no cycle from one on.
use Rattle.std.proofs.Common.{◌≡◌, ◌<◌, ◌≤◌, ℕ, suc, Bool, false, List, [], ◌∷◌, Some, None, length, get_or, refl, arith}
use Rattle.std.specs.Prelude.{Option}
use Rattle.std.specs.List.{list_any}
use Rattle.std.proofs.lemmas.Bool.{ne_eqb}
use Rattle.circuit.specs.declared.parts.Fault.{Fault}
use Rattle.circuit.specs.declared.parts.Fault.TheVariants.{Stuck, Flip, Pulse}
use Rattle.circuit.specs.Effects.{is_permanent}
use Rattle.golden_difference.specs.Beside.{DoNothing}
use Rattle.lane_words.specs.Loads.{somes}
use Rattle.differential_kernel.specs.Forces.{is_act_in}
use Rattle.differential_kernel.proofs.Acting.{nothing_now}
use Rattle.fm_base.proofs.Tests.{both_false}
use Rattle.fault_runs.specs.Over.{IsIdleFrom}

-- no stuck-at fault, and none that acts in a later cycle
idle_parts : (cycle u : ℕ) (f : Fault) → cycle ≤ u → IsIdleFrom cycle (Some f) → (is_permanent f ≡ false) × (is_act_in u f ≡ false)
idle_parts cycle u (Stuck net value) le idle = absurd idle
idle_parts cycle u (Flip latch own) le idle = (refl, ne_eqb own u (omega (arith, idle, le)))
idle_parts cycle u (Pulse net own) le idle = (refl, ne_eqb own u (omega (arith, idle, le)))

-- none of a list passes a test that none passes which is idle
none_of : (cycle : ℕ) (test : Fault → Bool) → ((f : Fault) → IsIdleFrom cycle (Some f) → test f ≡ false) → (faults : List (Option Fault))
    → ((i : ℕ) → i < length faults → IsIdleFrom cycle (get_or faults i None)) → list_any test (somes faults) ≡ false
none_of cycle test fails [] idle = refl
none_of cycle test fails (None ∷ faults) idle = none_of cycle test fails faults (λ i lt. idle (suc i) (omega (arith, lt)))
none_of cycle test fails (Some f ∷ faults) idle =
    both_false (test f) (list_any test (somes faults)) (fails f (idle 0 (omega arith))) (none_of cycle test fails faults (λ i lt. idle (suc i) (omega (arith, lt))))

-- SUCH FAULTS do nothing
pub all_idle : (faults : List (Option Fault)) (cycle u : ℕ) → cycle ≤ u → ((i : ℕ) → i < length faults → IsIdleFrom cycle (get_or faults i None)) → DoNothing (somes faults) u
all_idle faults cycle u le idle =
    nothing_now (faults ∷ []) 0 u
    (both_false _ false (none_of cycle is_permanent (λ f is. (idle_parts cycle u f le is).0) faults idle) refl)
    (both_false _ false (none_of cycle (is_act_in u) (λ f is. (idle_parts cycle u f le is).1) faults idle) refl)
