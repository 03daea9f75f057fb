-- Cycles in which no flip and no pulse acts.
use Rattle.std.proofs.Common.{◌≡◌, ℕ, ◌==◌, ◌&&◌, Bool, false, List, [], ◌∷◌, refl, ap, ◌∙◌, Option}
use Rattle.std.proofs.Math.Bool.{and-false}
use Rattle.std.proofs.lemmas.Bool.{true≢false}
use Rattle.std.specs.List.{list_any}
use Rattle.circuit.specs.declared.parts.Fault.{Fault}
use Rattle.circuit.specs.declared.parts.Fault.TheVariants.{Stuck, Flip, Pulse}
use Rattle.circuit.specs.Effects.{forced, inverted, is_flip_of, is_permanent, is_pulse_on}
use Rattle.circuit.specs.Trace.{flipped}
use Rattle.golden_difference.specs.Beside.{DoNothing}
use Rattle.lane_words.specs.Loads.{loaded_faults, has_pulses, is_pulse_in, somes}
use Rattle.lane_words.proofs.Armed.{flipped_same, lane_fails, none_passes}
use Rattle.differential_kernel.specs.Forces.{acts, has_acts, has_stuck, is_act_in}

unpulsed : (t : ℕ) (fault : Fault) → is_act_in t fault ≡ false → is_pulse_in t fault ≡ false
unpulsed t (Stuck net value) e = refl
unpulsed t (Flip latch cycle) e = refl
unpulsed t (Pulse net cycle) e = e

unflipped : (latch t : ℕ) (fault : Fault) → is_act_in t fault ≡ false → is_flip_of latch t fault ≡ false
unflipped latch t (Stuck net value) e = refl
unflipped latch t (Flip l cycle) e = ap (λ b. (l == latch) && b) e ∙ and-false (l == latch)
unflipped latch t (Pulse net cycle) e = refl

-- no pulse
pub no_pulses_now : (loads : List (List (Option Fault))) (t : ℕ) → has_acts loads t ≡ false → has_pulses loads t ≡ false
no_pulses_now loads t e =
    none_passes (λ faults. list_any (is_pulse_in t) (somes faults)) (λ faults. acts faults t)
    (λ faults none. none_passes (is_pulse_in t) (is_act_in t) (unpulsed t) (somes faults) none) loads e

-- and no flip
pub no_flips_now : (loads : List (List (Option Fault))) (k t : ℕ) (bits : List Bool) → has_acts loads t ≡ false → flipped (loaded_faults loads k) t bits ≡ bits
no_flips_now loads k t bits e =
    flipped_same (loaded_faults loads k) t 0 bits
    (λ l. none_passes (is_flip_of l t) (is_act_in t) (unflipped l t) (loaded_faults loads k) (lane_fails (λ faults. acts faults t) refl loads k e))

-- without a stuck-at fault no net is forced
unforced : (faults : List Fault) (net : ℕ) (own : Bool) → list_any is_permanent faults ≡ false → forced faults net own ≡ own
unforced [] net own e = refl
unforced (Stuck n value ∷ faults) net own e = absurd (true≢false e)
unforced (Flip latch cycle ∷ faults) net own e = unforced faults net own e
unforced (Pulse n cycle ∷ faults) net own e = unforced faults net own e

off_net : (net t : ℕ) (fault : Fault) → is_act_in t fault ≡ false → is_pulse_on net t fault ≡ false
off_net net t (Stuck n value) e = refl
off_net net t (Flip latch cycle) e = refl
off_net net t (Pulse n cycle) e = ap (λ b. (n.0 == net) && b) e ∙ and-false (n.0 == net)

-- and no net is changed
pub nothing_now : (loads : List (List (Option Fault))) (k t : ℕ) → has_stuck loads ≡ false → has_acts loads t ≡ false → DoNothing (loaded_faults loads k) t
nothing_now loads k t loose quiet = record {
  nets = λ net own.
      ap (λ b. forced (loaded_faults loads k) net (inverted b own))
      (none_passes (is_pulse_on net t) (is_act_in t) (off_net net t) (loaded_faults loads k) (lane_fails (λ faults. acts faults t) refl loads k quiet))
      ∙ unforced (loaded_faults loads k) net own (lane_fails (λ faults. list_any is_permanent (somes faults)) refl loads k loose);
  latches = λ bits. no_flips_now loads k t bits quiet;
}
