-- The table of a net with its truth table, and that of each place in an order.
use Rattle.std.proofs.Common.{◌≡◌, ◌≢◌, inl, inr, ℕ, ◌<◌, ◌≤◌, List, [], ◌∷◌, ◌++◌, Some, length, get_or, take, refl, ap, sym, subst, ◌∙◌, arith}
use Rattle.std.specs.Prelude.{All}
use Rattle.std.specs.List.{slice_get}
use Rattle.std.proofs.lemmas.Bool.{cases_lt}
use Rattle.std.proofs.lemmas.List.{get_or-take, get_or_append_left, get_or_default, get_or_push, length-append, length-take-le}
use Rattle.std.proofs.lemmas.List.Elements.{All-contains}
use Rattle.std.proofs.lemmas.Option.{get_or_from_slice_get, slice_get-get_or, slice_get_within}
use Rattle.golden_difference.proofs.Apart.{order_apart}
use Rattle.circuit.specs.Circuit.{Circuit}
use Rattle.circuit.specs.Order.{IsOrder, net_at}
use Rattle.circuit.specs.Sound.{IsNet, IsNetlist, IsTable}
use Rattle.circuit.specs.Value.{driver_at, table_at}
use Rattle.circuit.specs.declared.parts.Driver.TheVariants.{Table as FromTable}
use Rattle.circuit.specs.declared.parts.NetId.{NetId}
use Rattle.circuit.specs.declared.parts.Table.{Table}
use Rattle.region_search.specs.Going.{IsPlacedTable}
use Rattle.region_search.specs.Truth.{AreReads, IsTruthOf}
use Rattle.region_search.specs.declared.search.TablePlace.{TablePlace}

-- A TABLE BY ITS TRUTH TABLE
pub is_placed_table : (c : Circuit) (own : NetId) (k count truth : ℕ) (table : Table) (nets : List NetId) → IsNet c own
    → ((j : ℕ) → driver_at c own.0 ≡ FromTable j → All (λ (net : NetId). net.0 ≢ own.0) (table_at c.tables j).ins)
    → FromTable k ≡ driver_at c own.0 → table ≡ table_at c.tables k → IsTable c table → AreReads table.ins count nets → (count ≤ 6 → IsTruthOf table (take count nets) truth)
    → IsPlacedTable c own (record { own = own; count = count; reads = nets; truth = truth })
is_placed_table c own k count truth table nets within apart drives is sound reads gives = record {
  own = refl;
  nets = λ i d lt. All-contains (IsNet c) table.ins (get_or (take count nets) i d) sound.ins (reads.among i d lt);
  truth = λ j driver few. (
      let same = reads_of j driver in
      record {
        net = within;
        driver = driver;
        once = reads.once;
        apart = λ i d lt. All-contains (λ (net : NetId). net.0 ≢ own.0) (table_at c.tables j).ins (get_or (take count nets) i d) (apart j driver) (same.among i d lt);
        whole = same.whole few;
        among = same.among;
        gives = subst (λ (t : Table). IsTruthOf t (take count nets) truth) (table_of j driver) (gives few);
      });
  wide = λ j driver many. (reads_of j driver).wide many;
}
  where
    table_of : (j : ℕ) → driver_at c own.0 ≡ FromTable j → table ≡ table_at c.tables j
    table_of j driver =
        let one : FromTable k ≡ FromTable j = drives ∙ driver in
        let number : k ≡ j = cc in
        is ∙ ap (table_at c.tables) number

    reads_of : (j : ℕ) → driver_at c own.0 ≡ FromTable j → AreReads (table_at c.tables j).ins count nets
    reads_of j driver = subst (λ (t : Table). AreReads t.ins count nets) (table_of j driver) reads

-- no table of an order reads its own net
pub own_apart : (c : Circuit) (order : List NetId) → IsNetlist c → IsOrder c order → (place : ℕ) → place < length order
    → (k : ℕ) → driver_at c (net_at order place).0 ≡ FromTable k → All (λ (net : NetId). net.0 ≢ (net_at order place).0) (table_at c.tables k).ins
own_apart c order sound is place lt k driver i d less same =
    let read = get_or (table_at c.tables k).ins i d in
    let before = is.after place k lt driver i d less k (ap (driver_at c) same ∙ driver) in
    let size : length (take place order) ≡ place = length-take-le place order (omega (arith, lt)) in
    let early : before.0 < place = omega (arith, before.1, size) in
    let there : net_at order before.0 ≡ read =
    get_or_default order before.0 (record { 0 = 0 }) read (omega (arith, early, lt)) ∙ sym (get_or-take place order before.0 read early) ∙ before.2 in
    order_apart c order sound is before.0 place (omega (arith, early, lt)) lt (omega (arith, early)) (ap (λ (net : NetId). net.0) there ∙ same)

-- one table more
pub each_more : (P : ℕ → TablePlace → Type 0) (tables : List TablePlace) (table : TablePlace) → ((p : ℕ) (each : TablePlace) → slice_get tables p ≡ Some each → P p each)
    → P (length tables) table → (p : ℕ) (each : TablePlace) → slice_get (tables ++ table ∷ []) p ≡ Some each → P p each
each_more P tables table before last p each at =
    let within = slice_get_within (tables ++ table ∷ []) p each at in
    let here : get_or (tables ++ table ∷ []) p each ≡ each = get_or_from_slice_get (tables ++ table ∷ []) p each each at in
    elim (cases_lt p (length tables)) as (λ _. P p each) [
      | inl less ↦ before p each
          (slice_get-get_or tables p each less ∙ ap Some (sym (get_or_append_left tables (table ∷ []) each p less) ∙ here))
      | inr most ↦ (
          let same : length tables ≡ p = omega (arith, most, within, length-append tables (table ∷ [])) in
          subst (P p) (sym (get_or_push tables table each p same) ∙ here) (subst (λ n. P n table) same last))
    ]
