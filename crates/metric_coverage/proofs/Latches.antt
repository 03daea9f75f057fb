-- The part of a latch is that of the first fault on its output net.
use Rattle.std.proofs.Common.{◌≡◌, ◌∙◌, ap, ℕ, ◌*◌, ◌/◌, ◌<◌, Bool, length, arith}
use Rattle.std.specs.Prelude.{slice_get, Some, true, false, unwrap_or}
use Rattle.std.proofs.lemmas.Option.{slice_get-get_or, slice_get_within}
use Rattle.circuit.specs.declared.parts.Driver.TheVariants.{Latch as FromLatch}
use Rattle.circuit.specs.declared.parts.Fault.{Fault}
use Rattle.circuit.specs.declared.parts.Fault.TheVariants.{Flip}
use Rattle.circuit.specs.declared.parts.Latch.{Latch}
use Rattle.circuit.specs.Circuit.{Circuit}
use Rattle.circuit.specs.Names.{net_name}
use Rattle.circuit.specs.Sound.{IsNetlist}
use Rattle.fault_list.specs.Faults.{latch_numbered, net, net_of_fault}
use Rattle.fault_list.proofs.Numbers.{length_faults, stuck_at}
use Rattle.metric_sums.specs.declared.Role.{Role}
use Rattle.metric_sums.specs.declared.Role.TheVariants.{Other}
use Rattle.rate_table.specs.Table.{part_named}
use Rattle.campaign_plan.specs.Analysis.{Analysis, fault_count, fault_numbered, part_numbered}
use Rattle.coverage.specs.Upsets.{counts}

-- a latch's output net is one of the netlist
pub output_net : (c : Circuit) → IsNetlist c → (k : ℕ) → k < length c.latches → (latch_numbered c k).to.0 < length c.drivers
output_net c sound k lt =
    let latch : Latch = latch_numbered c k in
    let there : slice_get c.latches k ≡ Some latch = slice_get-get_or c.latches k latch_none lt in
    slice_get_within c.drivers latch.to.0 (FromLatch k) (sound.latches k latch there)
  where
    latch_none : Latch
    latch_none = record { from = net 0; to = net 0; start = false }

module _ (p : Analysis) (n : ℕ) (lt : n < length p.circuit.drivers) where
  -- the first fault on a net has twice its number
  pub first_listed : n * 2 < fault_count p
  first_listed =
      omega (arith, length_faults (length p.circuit.drivers) (length p.circuit.latches) p.settings.flips p.settings.pulses, lt)

  first_on : net_of_fault p.circuit (fault_numbered p (n * 2)) ≡ n
  first_on =
      let place : n * 2 / 2 ≡ n = omega arith in
      ap (net_of_fault p.circuit) (stuck_at (length p.circuit.drivers) (length p.circuit.latches) p.settings.flips p.settings.pulses (n * 2) (omega (arith, lt)))
      ∙ place

-- faults on one net are of one part, so both count or neither does
role_counts : Role → Bool
role_counts = elim [ Other ↦ false | _ ↦ true ]

counts_alike : (p : Analysis) (a b : Fault) → net_of_fault p.circuit a ≡ net_of_fault p.circuit b → counts p a ≡ counts p b
unfolding role_counts
counts_alike p a b same = ap (λ (n : ℕ). role_counts (part_numbered p (unwrap_or (part_named p.rates (net_name p.circuit n)) 0)).role) same

pub latch_counts : (p : Analysis) (k : ℕ) → (lt : (latch_numbered p.circuit k).to.0 < length p.circuit.drivers)
    → counts p (fault_numbered p ((latch_numbered p.circuit k).to.0 * 2)) ≡ counts p (Flip k 0)
latch_counts p k lt = counts_alike p (fault_numbered p ((latch_numbered p.circuit k).to.0 * 2)) (Flip k 0) (first_on p (latch_numbered p.circuit k).to.0 lt)
