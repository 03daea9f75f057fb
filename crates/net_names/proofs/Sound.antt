-- ONE LAW FOR ALL READERS: where each net is driven once, the netlist of named nets is one.
use Rattle.std.proofs.Common.{◌≡◌, ℕ, ◌≤◌, ◌<◌, ◌^◌, Bool, true, false, List, [], ap, sym, ◌∙◌, length, get_or, arith}
use Rattle.std.specs.Prelude.{map, Some, All}
use Rattle.std.specs.List.{AllByRecursion, list_all, slice_get}
use Rattle.std.specs.Option.{option_map}
use Rattle.std.proofs.lemmas.List.{length-map}
use Rattle.std.proofs.lemmas.List.Elements.{All-from_recursion, All-map}
use Rattle.std.proofs.lemmas.List.Sums.{AllPass-from_list_all}
use Rattle.std.proofs.lemmas.Option.{slice_get-map, slice_get_within, slice_get-get_or, get_or_from_slice_get}
use Rattle.circuit.specs.declared.parts.Driver.{Driver}
use Rattle.circuit.specs.declared.parts.Driver.TheVariants.{Input, Table as FromTable, Latch as FromLatch}
use Rattle.circuit.specs.declared.parts.Latch.{Latch}
use Rattle.circuit.specs.declared.parts.Lit.{Lit}
use Rattle.circuit.specs.declared.parts.NetId.{NetId}
use Rattle.circuit.specs.declared.parts.Table.{Table}
use Rattle.circuit.specs.Circuit.{Circuit}
use Rattle.circuit.specs.Value.{driver_at}
use Rattle.circuit.specs.Sound.{AreApart, IsNet, IsNetOf, IsTable, IsNetlist}
use Rattle.fm_base.specs.Names.{Name, is_one_of, has_repeat}
use Rattle.net_names.specs.Nets.{driver_of, net_id}
use Rattle.net_names.specs.Driven.{all_drivers, AreAligned, circuit_with, IsDrivenBy, IsDrivenOnce}
use Rattle.net_names.proofs.Driven.{driver-is}
use Rattle.net_names.proofs.Once.{driver-by, driven-net, few-latches, one-name}
use Rattle.net_names.proofs.Times.{at-found, image-at, names-apart, place, place-at, place-found}

-- ---- the numbers of nets

module _ (nets : List Name) (c : Circuit) (size : length c.drivers ≡ length nets) where
  pub is-net : (name : Name) → is_one_of nets name ≡ true → IsNet c (net_id nets name)
  is-net name e = omega (arith, slice_get_within nets (place nets name) name (place-found nets name e))

  -- a table that reads nets, with rows of as many literals
  pub is-table : (ins : List Name) (rows : List (List Lit)) (on : Bool) → list_all (is_one_of nets) ins ≡ true
      → AllByRecursion (λ row. length row ≡ length ins) rows → IsTable c (record { ins = map (net_id nets) ins; rows = rows; on = on })
  is-table ins rows on e fit = record {
    ins = All-map (IsNet c) (net_id nets) ins (λ k d lt. is-net (get_or ins k d) (AllPass-from_list_all (is_one_of nets) ins e k d lt));
    rows = rw (length-map ins (net_id nets)) (All-from_recursion (λ (row : List Lit). length row ≡ length ins) rows fit);
  }

-- each of these names is one of the others
abbrev AreAmong : List Name → List Name → Type 0
AreAmong names others = (name : Name) → is_one_of names name ≡ true → is_one_of others name ≡ true

-- the numbers of different nets differ
ids_apart : (nets names : List Name) → has_repeat names ≡ false → AreAmong names nets → AreApart (map (net_id nets) names)
ids_apart nets names e among i j id f g =
    let a = image-at (net_id nets) names i id f in
    let b = image-at (net_id nets) names j id g in
    let first = place-found nets a.0 (among a.0 (at-found names i a.0 a.1)) in
    let second = place-found nets b.0 (among b.0 (at-found names j b.0 b.1)) in
    let same : place nets a.0 ≡ place nets b.0 = ap (λ (n : NetId). n.0) (a.2 ∙ sym b.2) in
    names-apart names e i j a.0 a.1 (b.1 ∙ sym second ∙ ap (slice_get nets) (sym same) ∙ first)

abbrev numbered : ℕ → NetId
numbered k = record { 0 = k }

-- ---- the netlist

module _ (nets ins tabs lats outs : List Name) (tables : List Table) (latches : List Latch) (once : IsDrivenOnce nets ins tabs lats)
    (beside : AreAligned nets tabs lats tables latches) where
  abbrev drivers : List (Name × Driver)
  drivers = all_drivers ins tabs lats

  abbrev made : Circuit
  made = circuit_with nets ins tabs lats outs tables latches

  pub size-of-drivers : length made.drivers ≡ length nets
  size-of-drivers = length-map nets (driver_of drivers)

  -- the driver of the net at a place
  driver_there : (n : ℕ) (name : Name) → slice_get nets n ≡ Some name → slice_get made.drivers n ≡ Some (driver_of drivers name)
  driver_there n name e = slice_get-map (driver_of drivers) nets n ∙ ap (option_map (driver_of drivers)) e

  -- the number of a net is its place
  id_at : (n : ℕ) (name : Name) → slice_get nets n ≡ Some name → net_id nets name ≡ record { 0 = n }
  id_at n name e = ap numbered (place-at nets n name once.apart e)

  -- the net of a latch is that of its number
  latch_at : (k : ℕ) → option_map (λ (latch : Latch). latch.to) (slice_get latches k) ≡ option_map (net_id nets) (slice_get lats k)
  latch_at k = rw (← slice_get-map (λ (latch : Latch). latch.to) latches k, ← slice_get-map (net_id nets) lats k, beside.ordered)

  net_of_driver : (n : ℕ) (name : Name) (d : Driver) → slice_get nets n ≡ Some name → IsDrivenBy ins tabs lats name d → IsNetOf made n d
  net_of_driver n name (Input k) e by = rw (slice_get-map (net_id nets) ins k, by, id_at n name e)
  net_of_driver n name (FromTable k) e by = omega (arith, slice_get_within tabs k name by, beside.counted)
  net_of_driver n name (FromLatch k) e by =
      let there : slice_get (map (λ (latch : Latch). latch.to) latches) k ≡ Some (net_id nets name) =
      slice_get-map (λ (latch : Latch). latch.to) latches k ∙ latch_at k ∙ ap (option_map (net_id nets)) by in
      let found = image-at (λ (latch : Latch). latch.to) latches k (net_id nets name) there in
      (found.0, found.1, ap (λ (id : NetId). id.0) (found.2 ∙ id_at n name e))

  -- a net of the list is driven
  driven_there : (n : ℕ) (name : Name) → slice_get nets n ≡ Some name → IsDrivenBy ins tabs lats name (driver_of drivers name)
  driven_there n name there = driver-by nets ins tabs lats once name (at-found nets n name there)

  nets_sound : (n : ℕ) → n < length made.drivers → IsNetOf made n (driver_at made n)
  nets_sound n h =
      let name : Name = get_or nets n [] in
      let there = slice_get-get_or nets n [] (omega (arith, size-of-drivers, h)) in
      rw (get_or_from_slice_get made.drivers n _ (Input 0) (driver_there n name there))
      (net_of_driver n name _ there (driven_there n name there))

  drivers_apart : AreApart made.drivers
  drivers_apart i j d e f =
      let a = image-at (driver_of drivers) nets i d e in
      let b = image-at (driver_of drivers) nets j d f in
      let one = one-name nets ins tabs lats once a.0 b.0 d (rw a.2 at (driven_there i a.0 a.1)) (rw b.2 at (driven_there j b.0 b.1)) in
      names-apart nets once.apart i j a.0 a.1 (b.1 ∙ ap Some (sym one))

  -- the driver at the place of a name that it drives
  driver_put : (name : Name) (d : Driver) → IsDrivenBy ins tabs lats name d → slice_get made.drivers (place nets name) ≡ Some d
  driver_put name d by =
      let there = place-found nets name (driven-net nets ins tabs lats once name d by) in
      driver_there (place nets name) name there ∙ ap Some (driver-is ins tabs lats name d (once.most name) by)

  inputs_sound : (k : ℕ) (net : NetId) → slice_get made.inputs k ≡ Some net → slice_get made.drivers net.0 ≡ Some (Input k)
  inputs_sound k net e = let found = image-at (net_id nets) ins k net e in rw (← found.2) (driver_put found.0 (Input k) found.1)

  latches_sound : (k : ℕ) (latch : Latch) → slice_get latches k ≡ Some latch → slice_get made.drivers latch.to.0 ≡ Some (FromLatch k)
  latches_sound k latch e =
      let there = slice_get-map (net_id nets) lats k ∙ sym (latch_at k) ∙ ap (option_map (λ (l : Latch). l.to)) e in
      let found = image-at (net_id nets) lats k latch.to there in rw (← found.2) (driver_put found.0 (FromLatch k) found.1)

  tables_driven : (k : ℕ) → k < length tables → (net : ℕ) × (slice_get made.drivers net ≡ Some (FromTable k))
  tables_driven k h =
      let name : Name = get_or tabs k [] in
      (place nets name, driver_put name (FromTable k) (slice_get-get_or tabs k [] (omega (arith, h, beside.counted))))

  latches_few : length latches ≤ length nets
  latches_few =
      let same = ap length beside.ordered in
      let few = few-latches nets ins tabs lats once in
      omega (arith, length-map latches (λ (latch : Latch). latch.to), length-map lats (net_id nets))

  outputs_sound : AreAmong outs nets → All (IsNet made) made.outputs
  outputs_sound among = All-map (IsNet made) (net_id nets) outs (λ k d lt.
      let name = get_or outs k d in
      is-net nets made size-of-drivers name (among name (at-found outs k name (slice_get-get_or outs k d lt))))

  -- WHERE EACH NET IS DRIVEN ONCE, tables and latches read nets, outputs are nets and differ, and nets are few, it is a netlist
  pub netlist-of-names : length nets ≤ 2 ^ 18 → AllByRecursion (IsTable made) tables
      → AllByRecursion (λ latch. IsNet made latch.from) latches → has_repeat outs ≡ false → AreAmong outs nets → IsNetlist made
  netlist-of-names small fit sources apart among = record {
    few = omega (arith, small, size-of-drivers);
    few_latches = omega (arith, small, latches_few);
    named = sym size-of-drivers;
    names = names-apart nets once.apart;
    nets = nets_sound;
    drivers = drivers_apart;
    inputs = inputs_sound;
    latches = latches_sound;
    driven = tables_driven;
    tables = λ k h. All-from_recursion (IsTable made) tables fit k _ h;
    sources = All-from_recursion (λ (latch : Latch). IsNet made latch.from) latches sources;
    outputs = outputs_sound among;
    outputs_apart = ids_apart nets outs apart among;
  }
