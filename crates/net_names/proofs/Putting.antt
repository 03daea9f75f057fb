-- The drivers that are put one by one are those of the nets.
use Rattle.std.proofs.Common.{◌≡◌, ◌≢◌, ℕ, zero, suc, ◌+◌, ◌≤◌, ◌<◌, true, false, List, [], ◌∷◌, length, fold, get_or, map, set, replicate}
use Rattle.std.proofs.Common.{refl, sym, ◌∙◌, arith}
use Rattle.std.specs.Prelude.{bytes_eq, Some}
use Rattle.std.specs.List.{slice_get}
use Rattle.std.proofs.lemmas.Bool.Decides.{nat_tests}
use Rattle.std.proofs.lemmas.List.{length-map, same_lists, get_or-map, get_or-set_other, get_or-set_same, length-set, length-replicate}
use Rattle.std.proofs.lemmas.List.Sums.{fold-append}
use Rattle.std.proofs.lemmas.Option.{slice_get-get_or}
use Rattle.circuit.specs.declared.parts.Driver.{Driver}
use Rattle.circuit.specs.declared.parts.Driver.TheVariants.{Input, Table as FromTable, Latch as FromLatch}
use Rattle.fm_base.specs.Names.{Name, has_repeat}
use Rattle.fm_base.proofs.Distinct.{is_same}
use Rattle.net_names.specs.Nets.{net_id, driver_of}
use Rattle.net_names.specs.Driven.{all_drivers, name_count, IsDrivenOnce}
use Rattle.net_names.specs.Drivers.{drivers_by, put_drivers}
use Rattle.net_names.proofs.Driven.{driver-listed, drives-counted, entries, entry_names}
use Rattle.net_names.proofs.Once.{driver-by}
use Rattle.net_names.proofs.Times.{at-found, place, place-at}

module _ (nets : List Name) where
  -- names beside drivers are put where the names stand among the nets
  abbrev put : List Driver → Name × Driver → List Driver
  put drivers p = set drivers (place nets p.0) p.1

  put-entries : (driver : ℕ → Driver) (n : ℕ) (names : List Name) (drivers : List Driver)
      → put_drivers driver n (map (net_id nets) names) drivers ≡ fold put drivers (entries n driver names)
  put-entries driver n [] drivers = refl
  put-entries driver n (x ∷ xs) drivers = put-entries driver (n + 1) xs (put drivers (x, driver n))

  put-length : (pairs : List (Name × Driver)) (drivers : List Driver) → length (fold put drivers pairs) ≡ length drivers
  put-length [] drivers = refl
  put-length (p ∷ ps) drivers = put-length ps (put drivers p) ∙ rw length-set refl

-- a name stands at its place alone
place-is : (nets : List Name) (x name : Name) → slice_get nets (place nets x) ≡ Some name → bytes_eq name x ≡ true
place-is [] x name e = cc
place-is (y ∷ nets) x name e = grind (arith, nat_tests, place-is nets x name)

module _ (nets : List Name) (k : ℕ) (name : Name) (there : slice_get nets k ≡ Some name) (z : Driver) where
  put-others : (pairs : List (Name × Driver)) (drivers : List Driver) → name_count name (entry_names pairs) ≡ 0
      → get_or (fold (put nets) drivers pairs) k z ≡ get_or drivers k z
  put-others [] drivers none = refl
  put-others (p ∷ ps) drivers none =
      let other : k ≢ place nets p.0 = λ same. let here = place-is nets p.0 name (rw (← same) there) in grind (arith, nat_tests) in
      put-others ps (put nets drivers p) (omega arith) ∙ get_or-set_other drivers (place nets p.0) k p.1 z other

  put-once : (pairs : List (Name × Driver)) (drivers : List Driver) (j : ℕ) (d : Driver) → has_repeat nets ≡ false → k < length drivers
      → slice_get pairs j ≡ Some (name, d) → name_count name (entry_names pairs) ≤ 1 → get_or (fold (put nets) drivers pairs) k z ≡ d
  put-once [] drivers j d apart lt e h = cc
  put-once (p ∷ ps) drivers zero d apart lt e h =
      let is : p ≡ (name, d) = cc in
      let none : name_count name (entry_names ps) ≡ 0 = grind (arith, nat_tests, is_same name) in
      put-others ps (put nets drivers p) none ∙ rw (is, place-at nets k name apart there) (get_or-set_same drivers k d z lt)
  put-once (p ∷ ps) drivers (suc j) d apart lt e h =
      put-once ps (put nets drivers p) j d apart (rw length-set lt) e (omega arith)

-- nets that are driven once, by inputs, tables and latches
module _ (nets inputs tables latches : List Name) (once : IsDrivenOnce nets inputs tables latches) where
  abbrev all : List (Name × Driver)
  all = all_drivers inputs tables latches

  abbrev first : List Driver
  first = replicate (length nets) (Input 0)

  at : (k : ℕ) (z : Driver) → k < length nets → get_or (fold (put nets) first all) k z ≡ get_or (map (driver_of all) nets) k z
  at k z h =
      let name : Name = get_or nets k [] in
      let there : slice_get nets k ≡ Some name = slice_get-get_or nets k [] h in
      let by = driver-by nets inputs tables latches once name (at-found nets k name there) in
      let listed = driver-listed inputs tables latches name (driver_of all name) by in
      let most : name_count name (entry_names all) ≤ 1 = rw (drives-counted inputs tables latches name) (once.most name) in
      put-once nets k name there z all first listed.0 (driver_of all name) once.apart (rw length-replicate h) listed.1 most
      ∙ sym (get_or-map (driver_of all) nets k [] z h)

  -- the drivers that are put are those of the nets
  pub drivers-put : drivers_by (map (net_id nets) inputs) (map (net_id nets) tables) (map (net_id nets) latches) (length nets)
      ≡ map (driver_of all) nets
  drivers-put =
      rw (put-entries nets Input 0 inputs first, put-entries nets FromTable 0 tables, put-entries nets FromLatch 0 latches)
      (rw (← fold-append (put nets) first (entries 0 Input inputs), ← fold-append (put nets) first)
      (let size : length (fold (put nets) first all) ≡ length nets = put-length nets all first ∙ length-replicate (length nets) (Input 0) in
      same_lists _ _ (size ∙ sym (length-map nets (driver_of all))) (λ k z h. at k z (omega (arith, h, size)))))
