-- Which places read a net: those of tables and latches, and no others.
use Rattle.std.proofs.Common.{◌≡◌, inl, inr, ℕ, ◌+◌, ◌-◌, ◌<◌, List, [], ◌∷◌, Some, length, map, get_or, ap, sym, refl, subst, ◌∙◌, arith}
use Rattle.std.specs.List.{Contains, slice_get}
use Rattle.std.proofs.lemmas.Bool.{cases_lt}
use Rattle.std.proofs.lemmas.List.{get_or-append_right, get_or-map, get_or_append_left, get_or_past, length-append, length-map}
use Rattle.std.proofs.lemmas.Option.{get_or_from_slice_get, slice_get_within}
use Rattle.circuit.specs.Order.{net_at}
use Rattle.circuit.specs.Value.{driver_at, table_at}
use Rattle.circuit.specs.declared.parts.Driver.TheVariants.{Table as FromTable}
use Rattle.circuit.specs.declared.parts.Latch.{Latch}
use Rattle.circuit.specs.declared.parts.NetId.{NetId}
use Rattle.fanout.specs.Readers.{IsReadAt, Ordered, all_reads, driver_reads}

-- a table's place reads what the table reads
pub table_read : (o : Ordered) (j k : ℕ) (m : NetId) → j < length o.order → driver_at o.circuit (net_at o.order j).0 ≡ FromTable k
    → Contains (table_at o.circuit.tables k).ins m → IsReadAt o m.0 j
table_read o j k m lt driver there =
    subst (λ (nets : List NetId). Contains nets (record { 0 = m.0 })) (sym reads) there
  where
    reads : get_or (all_reads o) j [] ≡ (table_at o.circuit.tables k).ins
    reads =
        get_or_append_left (map (λ (net : NetId). driver_reads o.circuit (driver_at o.circuit net.0)) o.order) (map (λ (latch : Latch). latch.from ∷ []) o.circuit.latches) [] j
        (omega (arith, length-map o.order (λ (net : NetId). driver_reads o.circuit (driver_at o.circuit net.0)), lt))
        ∙ get_or-map (λ (net : NetId). driver_reads o.circuit (driver_at o.circuit net.0)) o.order j (record { 0 = 0 }) [] lt
        ∙ ap (driver_reads o.circuit) driver

-- a latch's place reads the net that the latch takes
pub latch_read : (o : Ordered) (l : ℕ) (latch : Latch) → slice_get o.circuit.latches l ≡ Some latch → IsReadAt o latch.from.0 (length o.order + l)
latch_read o l latch at =
    subst (λ (nets : List NetId). Contains nets latch.from) (sym reads) (0, omega arith, refl)
  where
    size : length (map (λ (net : NetId). driver_reads o.circuit (driver_at o.circuit net.0)) o.order) ≡ length o.order
    size = length-map o.order (λ (net : NetId). driver_reads o.circuit (driver_at o.circuit net.0))

    reads : get_or (all_reads o) (length o.order + l) [] ≡ latch.from ∷ []
    reads =
        let back : length o.order + l - length o.order ≡ l = omega arith in
        get_or-append_right (map (λ (net : NetId). driver_reads o.circuit (driver_at o.circuit net.0)) o.order) (map (λ (each : Latch). each.from ∷ []) o.circuit.latches)
        (length o.order) (length o.order + l) [] size (omega arith)
        ∙ ap (λ i. get_or (map (λ (each : Latch). each.from ∷ []) o.circuit.latches) i []) back
        ∙ get_or-map (λ (each : Latch). each.from ∷ []) o.circuit.latches l latch [] (slice_get_within o.circuit.latches l latch at)
        ∙ ap (λ (each : Latch). each.from ∷ []) (get_or_from_slice_get o.circuit.latches l latch latch at)

-- what reads a net is the place of a table or a latch
pub read_within : (o : Ordered) (net place : ℕ) → IsReadAt o net place → place < length o.order + length o.circuit.latches
read_within o net place reads = elim (cases_lt place (length o.order + length o.circuit.latches)) as (λ _. place < length o.order + length o.circuit.latches) [
  | inl lt ↦ lt
  | inr out ↦ (
      let none : get_or (all_reads o) place [] ≡ [] = get_or_past (all_reads o) place [] (omega (arith, size, out)) in
      let there : Contains {X = NetId} [] (record { 0 = net }) = subst (λ (nets : List NetId). Contains nets (record { 0 = net })) none reads in
      absurd (omega (arith, there.1)))
]
  where
    size : length (all_reads o) ≡ length o.order + length o.circuit.latches
    size =
        length-append (map (λ (net : NetId). driver_reads o.circuit (driver_at o.circuit net.0)) o.order) (map (λ (latch : Latch). latch.from ∷ []) o.circuit.latches)
        ∙ omega (arith, length-map o.order (λ (net : NetId). driver_reads o.circuit (driver_at o.circuit net.0)), length-map o.circuit.latches (λ (latch : Latch). latch.from ∷ []))
