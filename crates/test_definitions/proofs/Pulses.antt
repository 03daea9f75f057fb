-- Pulses: a net inverted during one cycle.
use Rattle.std.proofs.Common.{◌≡◌, ℕ, List, [], ◌∷◌, map, refl, codes}
use Rattle.std.specs.Prelude.{Bool, true, false, Some, None, flat_map}
use Rattle.test_definitions.specs.Opened.{opened}
use Rattle.circuit.specs.declared.parts.Fault.{Fault}
use Rattle.circuit.specs.declared.parts.Fault.TheVariants.{Stuck, Flip, Pulse}
use Rattle.circuit.specs.declared.parts.Driver.TheVariants.{Input, Latch as FromLatch}
use Rattle.circuit.specs.Circuit.{Circuit}
use Rattle.circuit.specs.Trace.{trace}
use Rattle.metric_sums.specs.declared.Class.TheVariants.{Detected, Residual}
use Rattle.metric_sums.specs.Metrics.{spfm_transient, term}
use Rattle.fm_base.specs.Lists.{below}
use Rattle.fault_list.specs.Faults.{fault_name, faults_of, batches_for, used_plane}
use Rattle.fault_list.specs.Stretch.{cycles_within}
use Rattle.campaign_plan.specs.Analysis.{Analysis, fault_numbered}
use Rattle.campaign_plan.specs.PlanFaults.{plan_refusal}
use Rattle.campaign_plan.specs.Batches.{true_planes, class_of_fault, own_sums, in_order}
use Rattle.result_file.specs.ResultText.{row_text, result_rows, settings_line}
use Rattle.test_definitions.specs.Circuits.{dup, latch, net, nets}
use Rattle.test_definitions.specs.Files.{plan_with, dup_workload, dup_points}

-- ---- a campaign with pulses

abbrev rates : List ℕ
rates = codes "pattern,part,role,covered,permanent,transient\na,in,mission,yes,4,2\nb,in,mission,yes,4,2\ny,out,mission,yes,2,1\nal,dup,mechanism,no,4,2\nz,dup,mechanism,no,4,2\n"

pub plan : Analysis
unfolding opened
plan = plan_with dup dup_workload rates dup_points 0 [] (3 ∷ [])

pub is_plan : plan_refusal plan ≡ None
unfolding plan opened
is_plan = refl

pub names : map (λ i. fault_name dup (fault_numbered plan i)) (10 ∷ 11 ∷ 12 ∷ 13 ∷ 14 ∷ []) ≡ codes "a~3" ∷ codes "b~3" ∷ codes "y~3" ∷ codes "al~3" ∷ codes "z~3" ∷ []
unfolding plan opened
names = refl

pub planes : true_planes plan 0 ≡ record { danger = 0xc0f; noticed = 0x73b0 }
unfolding plan opened
planes = refl

pub classes : map (class_of_fault plan (true_planes plan)) (10 ∷ 11 ∷ 12 ∷ 13 ∷ 14 ∷ []) ≡ Residual ∷ Residual ∷ Detected ∷ Detected ∷ Detected ∷ []
unfolding plan opened
classes = refl

pub row_of_pulses : flat_map row_text (result_rows plan (in_order plan (true_planes plan))) ≡ codes "r 00000000 0000000000000c0f 00000000000073b0 0000000000989680 00000000003d0900 00000000000f4240 00000000004c4b40 00000000001e8480\n"
unfolding plan opened
row_of_pulses = refl

pub spfm : spfm_transient (own_sums plan 0 (true_planes plan 0)) ≡ Some (record { num = 3000000; den = 5000000 })
unfolding plan opened
spfm = refl

pub whole_term : term (own_sums plan 0 (true_planes plan 0)) ≡ 6000000
unfolding plan opened
whole_term = refl

-- the three forms of the settings
pub settings : settings_line (plan.settings) ≡ codes "fmeda-settings 2 0 none 3\n"
unfolding plan opened
settings = refl

pub settings_both : settings_line (record plan.settings { ftti = 12; flips = 1 ∷ 30 ∷ []; pulses = 0 ∷ 7 ∷ [] }) ≡ codes "fmeda-settings 2 12 1,30 0,7\n"
unfolding plan opened
settings_both = refl

pub settings_none : settings_line (record plan.settings { ftti = 12; flips = 1 ∷ 30 ∷ []; pulses = [] }) ≡ codes "fmeda-settings 1 12 1,30\n"
unfolding plan opened
settings_none = refl

pub settings_stretch : settings_line (record plan.settings { ftti = 12; stretch = Some (record { first = 3; last = 40; step = 5 }); pulses = 0 ∷ 7 ∷ [] }) ≡ codes "fmeda-settings 3 12 3-40/5 0,7\n"
unfolding plan opened
settings_stretch = refl

-- and the cycles of a stretch
pub stretch_cycles : cycles_within (record { first = 3; last = 14; step = 5 }) ≡ 3 ∷ 8 ∷ 13 ∷ []
unfolding below
stretch_cycles = refl

-- ---- an input d and a latch from d to q, cycle by cycle

abbrev pub delay : Circuit
delay = record {
  names = codes "d" ∷ codes "q" ∷ [];
  drivers = Input 0 ∷ FromLatch 0 ∷ [];
  tables = [];
  latches = latch 0 1 ∷ [];
  inputs = nets (0 ∷ []);
  outputs = nets (1 ∷ []);
}

-- the values of d, or of q, in three cycles in which the input is 0
pub values : List Fault → ℕ → List Bool
unfolding opened
values faults n = map (λ t. trace delay faults ((false ∷ []) ∷ (false ∷ []) ∷ (false ∷ []) ∷ []) t n) (below 3)

-- a pulse on a latch's output net leaves what is stored alone
pub pulse_q : values (Pulse (net 1) 1 ∷ []) 1 ≡ false ∷ true ∷ false ∷ []
unfolding values
pulse_q = refl

-- a pulse on what a latch reads is stored for a cycle
pub pulse_d : values (Pulse (net 0) 0 ∷ []) 0 ≡ true ∷ false ∷ false ∷ []
unfolding values
pulse_d = refl

pub pulse_d_stored : values (Pulse (net 0) 0 ∷ []) 1 ≡ false ∷ true ∷ false ∷ []
unfolding values
pulse_d_stored = refl

-- two pulses on a net in one cycle invert it once
pub pulse_twice : values (Pulse (net 1) 1 ∷ Pulse (net 1) 1 ∷ []) 1 ≡ false ∷ true ∷ false ∷ []
unfolding values
pulse_twice = refl

-- a stuck-at fault decides over a pulse, wherever they stand in the list; and of two the first
pub stuck_over_pulse : values (Stuck (net 1) false ∷ Pulse (net 1) 1 ∷ []) 1 ≡ false ∷ false ∷ false ∷ []
unfolding values
stuck_over_pulse = refl

pub pulse_under_stuck : values (Pulse (net 1) 1 ∷ Stuck (net 1) true ∷ Stuck (net 1) false ∷ []) 1 ≡ true ∷ true ∷ true ∷ []
unfolding values
pulse_under_stuck = refl

-- a flip inverts what is stored, for this cycle; with a pulse on the output net in the same cycle nothing is seen
pub flip_q : values (Flip 0 1 ∷ []) 1 ≡ false ∷ true ∷ false ∷ []
unfolding values
flip_q = refl

pub flip_and_pulse : values (Flip 0 1 ∷ Pulse (net 1) 1 ∷ []) 1 ≡ false ∷ false ∷ false ∷ []
unfolding values
flip_and_pulse = refl

-- a stuck output net leaves the latch alone, and a cycle that no run has has no effect
pub stuck_q : values (Stuck (net 1) true ∷ []) 0 ≡ false ∷ false ∷ false ∷ []
unfolding values
stuck_q = refl

pub pulse_late : values (Pulse (net 1) 7 ∷ []) 1 ≡ false ∷ false ∷ false ∷ []
unfolding values
pulse_late = refl

-- the fault list: stuck-at faults, then flips, then pulses
pub listed : map (fault_name delay) (faults_of delay (1 ∷ 3 ∷ []) (0 ∷ 2 ∷ [])) ≡ codes "d/0" ∷ codes "d/1" ∷ codes "q/0" ∷ codes "q/1" ∷ codes "q^1" ∷ codes "q^3" ∷ codes "d~0" ∷ codes "d~2" ∷ codes "q~0" ∷ codes "q~2" ∷ []
unfolding opened
listed = refl

pub one_batch : batches_for 6 ≡ 1
one_batch = refl

pub six_lanes : used_plane 6 0 ≡ 0x3f
unfolding opened
six_lanes = refl
