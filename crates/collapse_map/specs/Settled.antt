-- The numbers of representatives, as they are found in one pass over an order of the tables from its end.
use Rattle.std.specs.Prelude.{◌≡◌, ℕ, ◌+◌, ◌*◌, ◌<◌, ◌≤◌, ◌⊎◌, Bool, List, length, map, if◌then◌else◌, Option, Some, Contains, slice_index, slice_set}
use Rattle.std.specs.List.{position_or_len}
use Rattle.std.specs.Option.{option_map_or}
use Rattle.circuit.specs.declared.parts.Fault.{Fault}
use Rattle.circuit.specs.declared.parts.Fault.TheVariants.{Stuck}
use Rattle.circuit.specs.declared.parts.NetId.{NetId}
use Rattle.circuit.specs.declared.parts.Table.{Table}
use Rattle.circuit.specs.Circuit.{Circuit}
use Rattle.circuit.specs.Order.{IsOrder, net_at}
use Rattle.fault_list.specs.Faults.{fault_at}
use Rattle.fm_base.specs.Lists.{below}
use Rattle.collapse_map.specs.Collapsed.{AreFaultsOf, Collapsed, number_in_list, rep_of}
use Rattle.collapse_map.specs.Fixed.{fixed_value}
use Rattle.collapse_map.specs.Looks.{AreLooks, looked_at}
use Rattle.collapse_map.specs.Next.{is_net, next_fault}
use Rattle.collapse_map.specs.declared.looks.Looks.{Looks}

-- the first place of a net in a list
abbrev pub net_place : List NetId → ℕ → ℕ
net_place nets n = position_or_len (is_net n) nets

-- the number of a net's stuck-at fault in each fault list
abbrev pub stuck_number : ℕ → Bool → ℕ
stuck_number n v = 2 * n + (if v then 1 else 0)

-- the number of each fault, which is that of the first like it
abbrev pub own_numbers : List Fault → List ℕ
own_numbers faults = map (λ i. number_in_list faults (fault_at faults i)) (below (length faults))

-- where the value at a place of a table fixes it, the fault there takes the number of the fault behind the table
abbrev pub linked : Table → ℕ → NetId → Bool → List ℕ → List ℕ
linked table place to v reps =
    option_map_or (λ u. slice_set reps (stuck_number (net_at table.ins place).0 v) (slice_index reps (stuck_number to.0 u))) (fixed_value table place v) reps

-- the number of a fault's representative is right where the next fault is on a net that was reached for it, or there is none
pub record AreRight (s : Collapsed) (IsReached : NetId → Bool → NetId → Type 0) (reps : List ℕ) : Type 0 where
  pub size : length reps ≡ length s.faults
  pub stuck : (n : NetId) (v : Bool) → n.0 < length s.circuit.drivers
      → ((m : NetId) (u : Bool) → next_fault s.circuit s.watched (Stuck n v) ≡ Some (Stuck m u) → IsReached n v m)
      → slice_index reps (stuck_number n.0 v) ≡ rep_of s (stuck_number n.0 v)
  pub others : (i : ℕ) → 2 * length s.circuit.drivers ≤ i → i < length s.faults → slice_index reps i ≡ rep_of s i

-- all nets from a place of the order on were reached
abbrev pub AreAllReached : Collapsed → List NetId → ℕ → List ℕ → Type 0
AreAllReached s order from reps = AreRight s (λ n v m. from ≤ net_place order m.0) reps

-- all nets behind a place of the order were reached, and the net at that place for the nets that were seen
abbrev pub AreSeen : Collapsed → List NetId → ℕ → List NetId → List ℕ → Type 0
AreSeen s order at seen reps = AreRight s (λ n v m. (at < net_place order m.0) ⊎ ((net_place order m.0 ≡ at) × Contains seen n)) reps

-- the faults are those of the netlist, the looks are those at its nets, and the tables have this order
pub record AreGiven (s : Collapsed) (looks : List Looks) (order : List NetId) : Type 0 where
  pub listed : AreFaultsOf s.circuit s.faults
  pub looked : AreLooks (looked_at s.circuit s.watched) looks
  pub ordered : IsOrder s.circuit order

-- a netlist with its faults and points
abbrev pub collapsed : Circuit → List Fault → List NetId → Collapsed
collapsed c faults watched = record { circuit = c; faults = faults; watched = watched }
