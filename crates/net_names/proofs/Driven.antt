-- The driver of a name, found by its place among the inputs, the nets of tables or those of latches.
use Rattle.std.proofs.Common.{◌≡◌, ℕ, zero, suc, ◌+◌, ◌≤◌, List, [], ◌∷◌, ◌++◌, refl, ap, arith}
use Rattle.std.specs.Prelude.{bytes_eq, map, flat_map, find, Some}
use Rattle.std.specs.List.{slice_get, enumerate_from}
use Rattle.std.proofs.lemmas.Bool.Decides.{nat_tests}
use Rattle.std.proofs.lemmas.List.{map-append}
use Rattle.std.proofs.lemmas.Option.{slice_get-map}
use Rattle.circuit.specs.declared.parts.Driver.{Driver}
use Rattle.circuit.specs.declared.parts.Driver.TheVariants.{Input, Table as FromTable, Latch as FromLatch}
use Rattle.fm_base.specs.Names.{Name}
use Rattle.fm_base.proofs.Distinct.{is_same, bytes_eq-sym}
use Rattle.net_names.specs.Nets.{driver_of}
use Rattle.net_names.specs.Driven.{all_drivers, drives, name_count, IsDrivenBy}
use Rattle.net_names.proofs.Times.{times-append, times-found, at-found}

-- ---- names beside drivers

-- they are numbered from n
abbrev pub entries : ℕ → (ℕ → Driver) → List Name → List (Name × Driver)
entries n driver names = map (λ p. (p.1, driver p.0)) (enumerate_from n names)

abbrev pub entry_names : List (Name × Driver) → List Name
entry_names pairs = map (λ p. p.0) pairs

names-of-entries : (n : ℕ) (driver : ℕ → Driver) (names : List Name) → entry_names (entries n driver names) ≡ names
names-of-entries n driver [] = refl
names-of-entries n driver (x ∷ xs) = ap (λ (more : List Name). x ∷ more) (names-of-entries (n + 1) driver xs)

entry-at : (n m : ℕ) (driver : ℕ → Driver) (names : List Name) (k : ℕ) (name : Name) → n + k ≡ m → slice_get names k ≡ Some name
    → slice_get (entries n driver names) k ≡ Some (name, driver m)
entry-at n m driver [] k name h e = cc
entry-at n m driver (x ∷ xs) zero name h e = let here : n ≡ m = omega arith in cc
entry-at n m driver (x ∷ xs) (suc k) name h e = entry-at (n + 1) m driver xs k name (omega arith) e

-- a name beside a driver stands among the names
pub entry-counted : (pairs : List (Name × Driver)) (j : ℕ) (name : Name) (d : Driver) → slice_get pairs j ≡ Some (name, d)
    → 1 ≤ name_count name (entry_names pairs)
entry-counted pairs j name d e =
    times-found name (entry_names pairs) (at-found (entry_names pairs) j name (rw (slice_get-map (λ (p : Name × Driver). p.0) pairs j, e)))

-- where the name stands once, that driver is found
entry-found : (pairs : List (Name × Driver)) (j : ℕ) (name : Name) (d : Driver) → slice_get pairs j ≡ Some (name, d)
    → name_count name (entry_names pairs) ≤ 1 → find (λ p. bytes_eq p.0 name) pairs ≡ Some (name, d)
entry-found [] j name d e h = cc
entry-found (p ∷ ps) zero name d e h = grind (arith, nat_tests, is_same name)
entry-found (p ∷ ps) (suc j) name d e h =
    grind (arith, nat_tests, entry-found ps j name d, entry-counted ps j name d, bytes_eq-sym p.0 name)

get-left : {X : Type 0} (xs ys : List X) (k : ℕ) (x : X) → slice_get xs k ≡ Some x → slice_get (xs ++ ys) k ≡ Some x
get-left [] ys k x e = cc
get-left (y ∷ xs) ys zero x e = e
get-left (y ∷ xs) ys (suc k) x e = get-left xs ys k x e

get-right : {X : Type 0} (xs ys : List X) (k : ℕ) (x : X) → slice_get ys k ≡ Some x → (j : ℕ) × (slice_get (xs ++ ys) j ≡ Some x)
get-right [] ys k x e = (k, e)
get-right (y ∷ xs) ys k x e = let there = get-right xs ys k x e in (suc there.0, there.1)

-- ---- the nets of inputs, of tables and of latches

module _ (inputs tables latches : List Name) where
  abbrev all : List (Name × Driver)
  all = all_drivers inputs tables latches

  abbrev front : List (Name × Driver)
  front = entries 0 Input inputs ++ entries 0 FromTable tables

  pub drives-counted : (name : Name) → name_count name (entry_names all) ≡ drives inputs tables latches name
  drives-counted name =
      let ins = names-of-entries 0 Input inputs in
      simp (map-append, times-append) (rw (ins, names-of-entries 0 FromTable tables, names-of-entries 0 FromLatch latches))

  -- what a name is driven by stands beside it
  pub driver-listed : (name : Name) (d : Driver) → IsDrivenBy inputs tables latches name d → (j : ℕ) × (slice_get all j ≡ Some (name, d))
  driver-listed name (Input k) by =
      let there = get-left (entries 0 Input inputs) (entries 0 FromTable tables) k _ (entry-at 0 k Input inputs k name (omega arith) by) in
      (k, get-left front (entries 0 FromLatch latches) k _ there)
  driver-listed name (FromTable k) by =
      let at = entry-at 0 k FromTable tables k name (omega arith) by in
      let there = get-right (entries 0 Input inputs) (entries 0 FromTable tables) k _ at in
      (there.0, get-left front (entries 0 FromLatch latches) there.0 _ there.1)
  driver-listed name (FromLatch k) by =
      get-right front (entries 0 FromLatch latches) k (name, FromLatch k) (entry-at 0 k FromLatch latches k name (omega arith) by)

  pub driver-is : (name : Name) (d : Driver) → drives inputs tables latches name ≤ 1 → IsDrivenBy inputs tables latches name d
      → driver_of all name ≡ d
  driver-is name d h by =
      let at = driver-listed name d by in
      rw (entry-found all at.0 name d at.1 (rw (drives-counted name) h))

-- where each line drives what it has as inputs, as nets of tables and as nets of latches, all lines do
pub drives-of-lines : {S : Type 0} (driven inputs tables latches : S → List Name) (name : Name)
    → ((s : S) → name_count name (driven s) ≡ drives (inputs s) (tables s) (latches s) name) → (lines : List S)
    → name_count name (flat_map driven lines) ≡ drives (flat_map inputs lines) (flat_map tables lines) (flat_map latches lines) name
drives-of-lines driven inputs tables latches name each [] = refl
drives-of-lines driven inputs tables latches name each (s ∷ lines) =
    omega (arith, drives-of-lines driven inputs tables latches name each lines, each s, times-append)
