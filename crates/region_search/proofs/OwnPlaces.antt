-- The net of each table and of each latch has a place of its own.
use Rattle.std.proofs.Common.{◌≡◌, ◌≢◌, inl, inr, ℕ, ◌+◌, ◌^◌, ◌<◌, ◌≤◌, List, Some, length, get_or, set, ap, sym, ◌∙◌, below_more, arith, get_or-set_other, get_or-set_same}
use Rattle.std.specs.Prelude.{All}
use Rattle.std.specs.List.{slice_get}
use Rattle.std.proofs.lemmas.Bool.{cases_eq}
use Rattle.std.proofs.lemmas.Option.{get_or_from_slice_get, slice_get-get_or, slice_get_within}
use Rattle.circuit.proofs.FewTables.{few_tables}
use Rattle.circuit.specs.Circuit.{Circuit}
use Rattle.circuit.specs.Order.{IsOrder, net_at}
use Rattle.circuit.specs.Sound.{IsNetlist}
use Rattle.circuit.specs.Value.{driver_at}
use Rattle.circuit.specs.declared.parts.Driver.TheVariants.{Input, Table as FromTable, Latch as FromLatch}
use Rattle.circuit.specs.declared.parts.Latch.{Latch}
use Rattle.circuit.specs.declared.parts.NetId.{NetId}

-- what is behind a place that was looked at is at it, or was looked at before
pub latch_at : (latches : List Latch) (l : ℕ) (latch d : Latch) → slice_get latches l ≡ Some latch → get_or latches l d ≡ latch
latch_at latches l latch d at = get_or_from_slice_get latches l latch d at

-- ---- what a loop notes

-- one table more
pub more_tables : (order : List NetId) (own : List ℕ) (i : ℕ) (d : NetId) → i < length order → All (λ (net : NetId). net.0 < length own) order
    → ((p : ℕ) → p < i → (net_at order p).0 ≢ (net_at order i).0) → ((p : ℕ) → p < i → get_or own (net_at order p).0 0 ≡ p)
    → (p : ℕ) → p < i + 1 → get_or (set own (net_at order i).0 i) (net_at order p).0 0 ≡ p
more_tables order own i d lt nets apart before =
    below_more _ _
    (λ p less. get_or-set_other own (net_at order i).0 (net_at order p).0 i 0 (apart p less) ∙ before p less)
    (get_or-set_same own (net_at order i).0 i 0 (nets i (record { 0 = 0 }) lt))

-- one latch more
pub more_latches : (first : ℕ) (latches : List Latch) (own : List ℕ) (i : ℕ) (d : Latch) → i < length latches → All (λ (latch : Latch). latch.to.0 < length own) latches
    → ((j k : ℕ) (latch other : Latch) → slice_get latches j ≡ Some latch → slice_get latches k ≡ Some other → j ≢ k → latch.to.0 ≢ other.to.0)
    → ((l : ℕ) (latch : Latch) → l < i → slice_get latches l ≡ Some latch → get_or own latch.to.0 0 ≡ first + l)
    → (l : ℕ) (latch : Latch) → l < i + 1 → slice_get latches l ≡ Some latch → get_or (set own (get_or latches i d).to.0 (first + i)) latch.to.0 0 ≡ first + l
more_latches first latches own i d lt nets apart before l latch less at =
    elim (cases_eq l i) as (λ _. get_or (set own (get_or latches i d).to.0 (first + i)) latch.to.0 0 ≡ first + l) [
      | inl same ↦ (
          let here : get_or latches i d ≡ latch = ap (λ k. get_or latches k d) (sym same) ∙ latch_at latches l latch d at in
          ap (λ (each : Latch). get_or (set own (get_or latches i d).to.0 (first + i)) each.to.0 0) (sym here)
          ∙ get_or-set_same own (get_or latches i d).to.0 (first + i) 0 (nets i d lt) ∙ ap (λ k. first + k) (sym same))
      | inr other ↦
          get_or-set_other own (get_or latches i d).to.0 latch.to.0 (first + i) 0 (apart l i latch (get_or latches i d) at (slice_get-get_or latches i d lt) other)
          ∙ before l latch (omega (arith, less, other)) at
    ]

-- ---- a netlist with an order

module _ (c : Circuit) (sound : IsNetlist c) where
  pub few_places : (order : List NetId) → IsOrder c order → length order + length c.latches ≤ 2 ^ 19
  few_places order is = omega (arith, is.count, few_tables c sound, sound.few, sound.few_latches)

  -- two latches have two nets
  pub latches_apart : (j k : ℕ) (latch other : Latch) → slice_get c.latches j ≡ Some latch → slice_get c.latches k ≡ Some other → j ≢ k → latch.to.0 ≢ other.to.0
  latches_apart j k latch other at there apart same =
      let one : Some (FromLatch j) ≡ Some (FromLatch k) = sym (sound.latches j latch at) ∙ ap (slice_get c.drivers) same ∙ sound.latches k other there in
      apart (cc)

  pub latch_nets : All (λ (latch : Latch). latch.to.0 < length c.drivers) c.latches
  latch_nets l d lt = slice_get_within c.drivers (get_or c.latches l d).to.0 (FromLatch l) (sound.latches l (get_or c.latches l d) (slice_get-get_or c.latches l d lt))

  -- and none is that of a table
  pub tables_apart : (order : List NetId) → IsOrder c order → (p : ℕ) → p < length order → All (λ (latch : Latch). latch.to.0 ≢ (net_at order p).0) c.latches
  tables_apart order is p lt l d less same =
      let latch = get_or c.latches l d in
      let driver = is.tables p lt in
      let here : driver_at c latch.to.0 ≡ FromLatch l = get_or_from_slice_get c.drivers latch.to.0 (FromLatch l) (Input 0) (sound.latches l latch (slice_get-get_or c.latches l d less)) in
      let clash : FromTable driver.0 ≡ FromLatch l = sym driver.1 ∙ ap (driver_at c) (sym same) ∙ here in
      absurd (cc)
