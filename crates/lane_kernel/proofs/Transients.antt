-- Loads in which no fault is a flip or a pulse.
use Rattle.std.proofs.Common.{◌≡◌, ℕ, Bool, false, not, List, refl, Option}
use Rattle.std.proofs.lemmas.Bool.{true≢false}
use Rattle.std.specs.List.{list_any}
use Rattle.circuit.specs.declared.parts.Fault.{Fault}
use Rattle.circuit.specs.declared.parts.Fault.TheVariants.{Stuck, Flip, Pulse}
use Rattle.circuit.specs.Effects.{is_flip_of, is_permanent}
use Rattle.circuit.specs.Trace.{flipped}
use Rattle.lane_words.specs.Loads.{somes, loaded_faults, is_pulse_in, has_pulses}
use Rattle.lane_words.proofs.Armed.{flipped_same, lane_fails, none_passes}
use Rattle.lane_kernel.specs.Marks.{has_transients}

stays_unpulsed : (t : ℕ) (fault : Fault) → not (is_permanent fault) ≡ false → is_pulse_in t fault ≡ false
stays_unpulsed t (Stuck net value) e = refl
stays_unpulsed t (Flip latch cycle) e = refl
stays_unpulsed t (Pulse net cycle) e = absurd (true≢false e)

stays_unflipped : (latch t : ℕ) (fault : Fault) → not (is_permanent fault) ≡ false → is_flip_of latch t fault ≡ false
stays_unflipped latch t (Stuck net value) e = refl
stays_unflipped latch t (Flip l cycle) e = absurd (true≢false e)
stays_unflipped latch t (Pulse net cycle) e = refl

-- without transient faults no cycle has a pulse
pub no_pulses : (loads : List (List (Option Fault))) (t : ℕ) → has_transients loads ≡ false → has_pulses loads t ≡ false
no_pulses loads t e =
    none_passes (λ faults. list_any (is_pulse_in t) (somes faults)) (λ faults. list_any (λ fault. not (is_permanent fault)) (somes faults))
    (λ faults none. none_passes (is_pulse_in t) (λ fault. not (is_permanent fault)) (stays_unpulsed t) (somes faults) none) loads e

-- and the latches stay as they are
pub flipped_free : (loads : List (List (Option Fault))) (k t : ℕ) (bits : List Bool) → has_transients loads ≡ false → flipped (loaded_faults loads k) t bits ≡ bits
flipped_free loads k t bits e =
    flipped_same (loaded_faults loads k) t 0 bits
    (λ l. none_passes (is_flip_of l t) (λ fault. not (is_permanent fault)) (stays_unflipped l t) (loaded_faults loads k)
    (lane_fails (λ faults. list_any (λ fault. not (is_permanent fault)) (somes faults)) refl loads k e))
