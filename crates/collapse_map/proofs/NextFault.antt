-- What it means that a fault has a next one.
use Rattle.std.proofs.Common.{◌≡◌, ◌≢◌, ℕ, zero, suc, ◌<◌, Bool, true, false, cond, ◌||◌, List, [], ◌∷◌, length, map, get_or, refl, ap, sym, subst, ◌∙◌, arith}
use Rattle.std.specs.Prelude.{Option, Some, None}
use Rattle.std.specs.Option.{option_map}
use Rattle.std.specs.List.{All, list_any, position_or_len, slice_get}
use Rattle.std.specs.Prelude.{◌==◌}
use Rattle.std.proofs.lemmas.Bool.{eq-eqb, eqb-true, eqb-false}
use Rattle.std.proofs.lemmas.Option.{get_or_from_slice_get, slice_get-get_or, slice_get_within}
use Rattle.circuit.specs.declared.parts.Driver.{Driver}
use Rattle.circuit.specs.declared.parts.Driver.TheVariants.{Input, Table as FromTable, Latch as FromLatch}
use Rattle.circuit.specs.declared.parts.Fault.{Fault}
use Rattle.circuit.specs.declared.parts.Fault.TheVariants.{Stuck, Flip, Pulse}
use Rattle.circuit.specs.declared.parts.Latch.{Latch}
use Rattle.circuit.specs.declared.parts.NetId.{NetId}
use Rattle.circuit.specs.Circuit.{Circuit}
use Rattle.circuit.specs.Order.{net_at}
use Rattle.circuit.specs.Sound.{IsNetlist}
use Rattle.circuit.specs.Value.{driver_at, table_at}
use Rattle.fm_base.specs.Lists.{below}
use Rattle.fm_base.proofs.Tests.{or_false}
use Rattle.collapse_map.specs.Fixed.{fixed_value}
use Rattle.collapse_map.specs.Next.{Reading, behind, is_latched, is_net, is_table, is_watched, net_of_table, next_fault, net_places, readings, readings_in}
use Rattle.collapse_map.proofs.OneCycle.{Collapses}
use Rattle.collapse_map.proofs.Places.{IsOnePart, first_kept, flat_one, from_below, in_below, none_kept, none_mapped}

-- no item passes where none does
pub none_any : {X : Type 0} (test : X → Bool) (xs : List X) → list_any test xs ≡ false → All (λ x. test x ≡ false) xs
none_any test [] e k d lt = absurd (omega arith)
none_any test (x ∷ xs) e zero d lt = (or_false (test x) (list_any test xs) e).0
none_any test (x ∷ xs) e (suc k) d lt = none_any test xs (or_false (test x) (list_any test xs) e).1 k d (omega arith)

-- the place of the first item that passes, where one does
first_place : {X : Type 0} (test : X → Bool) (xs : List X) (k : ℕ) (x : X) → slice_get xs k ≡ Some x → test x ≡ true
    → (y : X) × (slice_get xs (position_or_len test xs) ≡ Some y) × (test y ≡ true)
first_place test [] k x e p = cc
first_place {X} test (y ∷ xs) k x e p = by_cases (test y) refl k e (first_place test xs)
  where
    by_cases : (b : Bool) → test y ≡ b → (k : ℕ) → slice_get (y ∷ xs) k ≡ Some x
        → ((i : ℕ) (z : X) → slice_get xs i ≡ Some z → test z ≡ true → (w : X) × (slice_get xs (position_or_len test xs) ≡ Some w) × (test w ≡ true))
        → (w : X) × (slice_get (y ∷ xs) (position_or_len test (y ∷ xs)) ≡ Some w) × (test w ≡ true)
    by_cases true q k e more = (y, rw q refl, q)
    by_cases false q zero e more = let same : y ≡ x = cc in let clash : test y ≡ true = ap test same ∙ p in cc
    by_cases false q (suc k) e more =
        let found = more k x e p in
        let later : position_or_len test (y ∷ xs) ≡ suc (position_or_len test xs) = rw q (omega arith) in
        (found.0, ap (slice_get (y ∷ xs)) later ∙ found.1, found.2)

is_table-true : (k : ℕ) (d : Driver) → is_table k d ≡ true → d ≡ FromTable k
is_table-true k (FromTable j) e = ap FromTable (eqb-true j k e)
is_table-true k (Input j) e = cc
is_table-true k (FromLatch j) e = cc

module _ (c : Circuit) (sound : IsNetlist c) where
  -- the net of a table is driven by it
  pub table_net : (k : ℕ) → k < length c.tables → slice_get c.drivers (net_of_table c k).0 ≡ Some (FromTable k)
  table_net k lt =
      let some = sound.driven k lt in
      let found = first_place (is_table k) c.drivers some.0 (FromTable k) some.1 ((eq-eqb k k refl)) in
      found.1 ∙ ap Some (is_table-true k found.0 found.2)

  pub table_net_alone : (k : ℕ) → k < length c.tables → (x : ℕ) → x < length c.drivers → driver_at c x ≡ FromTable k → x ≡ (net_of_table c k).0
  table_net_alone k lt x within e = sound.drivers x (net_of_table c k).0 (FromTable k) (slice_get-get_or c.drivers x (Input 0) within ∙ ap Some e) (table_net k lt)

  -- one reading alone, and a value there that fixes its table
  reading_collapses : (n : ℕ) (r : Reading) (v u : Bool) → readings c n ≡ r ∷ [] → fixed_value (table_at c.tables r.table) r.place v ≡ Some u
      → Collapses c n v (net_of_table c r.table).0 u
  unfolding readings
  reading_collapses n r v u e fixed =
      let one : IsOnePart (readings_in c n) (below (length c.tables)) r = flat_one (readings_in c n) (below (length c.tables)) r e in
      let table_is : one.k ≡ r.table = (placed (net_places n (table_at c.tables one.k).ins) one.k r one.part).1 in
      let table : r.table < length c.tables = subst (λ k. k < length c.tables) table_is (from_below (length c.tables) one.k one.there) in
      let kept : net_places n (table_at c.tables r.table).ins ≡ r.place ∷ [] =
      subst (λ k. net_places n (table_at c.tables k).ins ≡ r.place ∷ []) table_is (placed (net_places n (table_at c.tables one.k).ins) one.k r one.part).0 in
      let here = first_kept (λ place. is_net n (net_at (table_at c.tables r.table).ins place)) (below (length (table_at c.tables r.table).ins)) [] r.place kept in
      record {
        k = r.table;
        place = r.place;
        table = table;
        net = slice_get_within c.drivers (net_of_table c r.table).0 (FromTable r.table) (table_net r.table table);
        driver = get_or_from_slice_get c.drivers (net_of_table c r.table).0 (FromTable r.table) (Input 0) (table_net r.table table);
        alone = table_net_alone r.table table;
        within = from_below (length (table_at c.tables r.table).ins) r.place here.0;
        reads = eqb-true (net_at (table_at c.tables r.table).ins r.place).0 n here.1;
        others = λ j lt apart i d within.
            let ins : List NetId = (table_at c.tables j).ins in
            let empty = none_mapped (λ place. record { table = j; place = place }) (net_places n ins) (one.others j (in_below (length c.tables) j lt) (λ same. apart (same ∙ table_is))) in
            let far = none_kept (λ place. is_net n (net_at ins place)) (below (length ins)) i empty (in_below (length ins) i within) in
            eqb-false (get_or ins i d).0 n (ap (λ (net : NetId). is_net n net) (same_default ins i d within) ∙ far);
        fixed = fixed;
      }
    where
      -- one reading of a table's places is that of its one place
      placed : (places : List ℕ) (k : ℕ) (r : Reading) → map (λ place. record { table = k; place = place }) places ≡ r ∷ [] → (places ≡ r.place ∷ []) × (k ≡ r.table)
      placed [] k r e = cc
      placed (p ∷ []) k r e =
          let same : record { table = k; place = p } ≡ r = cc in
          (ap (λ (x : Reading). x.place ∷ []) same, ap (λ (x : Reading). x.table) same)
      placed (p ∷ q ∷ places) k r e = cc

      same_default : (ins : List NetId) (i : ℕ) (d : NetId) → i < length ins → get_or ins i d ≡ net_at ins i
      same_default [] i d lt = absurd (omega arith)
      same_default (x ∷ ins) zero d lt = refl
      same_default (x ∷ ins) (suc i) d lt = same_default ins i d (omega arith)

-- what a fault and its next one are
pub record IsNext (c : Circuit) (watched : List NetId) (f g : Fault) : Type 0 where
  pub n : NetId
  pub v : Bool
  pub m : NetId
  pub u : Bool
  pub front : f ≡ Stuck n v
  pub back : g ≡ Stuck m u
  pub pair : Collapses c n.0 v m.0 u
  pub unwatched : All (λ (net : NetId). net.0 ≢ n.0) watched
  pub unlatched : All (λ (latch : Latch). latch.from.0 ≢ n.0) c.latches

pub next_is : (c : Circuit) (watched : List NetId) (f g : Fault) → IsNetlist c → next_fault c watched f ≡ Some g → IsNext c watched f g
unfolding next_fault
next_is c watched (Flip latch cycle) g sound e = cc
next_is c watched (Pulse n cycle) g sound e = cc
next_is c watched (Stuck n v) g sound e = by_test (is_watched watched n.0 || is_latched c n.0) refl e
  where
    is_some : (a b : Fault) → Some a ≡ Some b → a ≡ b
    is_some a b e = cc

    by_value : (r : Reading) → readings c n.0 ≡ r ∷ [] → (o : Option Bool) → fixed_value (table_at c.tables r.table) r.place v ≡ o
        → option_map (λ u. Stuck (net_of_table c r.table) u) o ≡ Some g → (is_watched watched n.0 || is_latched c n.0) ≡ false → IsNext c watched (Stuck n v) g
    by_value r p None q f test = cc
    by_value r p (Some u) q f test =
        let parts = or_false (is_watched watched n.0) (is_latched c n.0) test in
        record {
          n = n;
          v = v;
          m = net_of_table c r.table;
          u = u;
          front = refl;
          back = sym (is_some (Stuck (net_of_table c r.table) u) g f);
          pair = reading_collapses c sound n.0 r v u p q;
          unwatched = λ k d lt. eqb-false (get_or watched k d).0 n.0 (none_any (is_net n.0) watched parts.0 k d lt);
          unlatched = λ k d lt. eqb-false (get_or c.latches k d).from.0 n.0 (none_any (λ (latch : Latch). is_net n.0 latch.from) c.latches parts.1 k d lt);
        }

    by_readings : (rs : List Reading) → readings c n.0 ≡ rs → behind c rs v ≡ Some g → (is_watched watched n.0 || is_latched c n.0) ≡ false → IsNext c watched (Stuck n v) g
    by_readings [] p f test = cc
    by_readings (r ∷ []) p f test = by_value r p (fixed_value (table_at c.tables r.table) r.place v) refl f test
    by_readings (r ∷ s ∷ rs) p f test = cc

    by_test : (b : Bool) → (is_watched watched n.0 || is_latched c n.0) ≡ b → cond b None (behind c (readings c n.0) v) ≡ Some g → IsNext c watched (Stuck n v) g
    by_test true test f = cc
    by_test false test f = by_readings (readings c n.0) refl f test
