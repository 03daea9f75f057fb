-- What the number of those that look at a net says of the next fault.
use Rattle.std.proofs.Common.{◌≡◌, ◌≢◌, ◌⊎◌, inl, inr, ℕ, zero, suc, ◌+◌, ◌<◌, ◌≤◌, Bool, true, false, ◌||◌, cond, List, [], ◌∷◌, ◌++◌, length, map, get_or, refl, ap, ap₂, sym, subst, ◌∙◌, arith}
use Rattle.std.specs.Prelude.{count_by, filter, flat_map, Option, Some, None}
use Rattle.std.specs.Option.{option_map}
use Rattle.std.specs.List.{Contains, list_any, range_with_len, sum_by}
use Rattle.std.proofs.lemmas.Bool.{eq-eqb}
use Rattle.std.proofs.lemmas.List.{length-map}
use Rattle.std.proofs.lemmas.List.Concat.{flat_map-cons, length-flat_map}
use Rattle.std.proofs.lemmas.List.Sums.{length-filter, sum_by-append, sum_by-cons}
use Rattle.circuit.specs.declared.parts.Driver.TheVariants.{Table as FromTable}
use Rattle.circuit.specs.declared.parts.Fault.{Fault}
use Rattle.circuit.specs.declared.parts.Fault.TheVariants.{Stuck}
use Rattle.circuit.specs.declared.parts.Latch.{Latch}
use Rattle.circuit.specs.declared.parts.NetId.{NetId}
use Rattle.circuit.specs.declared.parts.Table.{Table}
use Rattle.circuit.specs.Circuit.{Circuit}
use Rattle.circuit.specs.Order.{net_at}
use Rattle.circuit.specs.Value.{table_at}
use Rattle.fm_base.specs.Lists.{below}
use Rattle.fm_base.proofs.Tests.{clash, or_false}
use Rattle.collapse_map.specs.Fixed.{fixed_value}
use Rattle.collapse_map.specs.Looks.{looked_at, looks_for}
use Rattle.collapse_map.specs.Next.{Reading, behind, is_latched, is_net, is_watched, net_of_table, next_fault, net_places, readings, readings_in}
use Rattle.collapse_map.specs.declared.looks.Looks.TheVariants.{Nobody, One, More}
use Rattle.collapse_map.proofs.Places.{IsOnePart, flat_none, flat_one, here_or_later, in_below, none_kept, none_mapped}

-- ---- counts

-- the places at which a test holds are as many as the items that pass
places_counted : {X : Type 0} (p : X → Bool) (q : ℕ → Bool) (xs : List X) (a : ℕ) (d : X)
    → ((i j : ℕ) → i < length xs → a + i ≡ j → q j ≡ p (get_or xs i d)) → count_by q (range_with_len a (length xs)) ≡ count_by p xs
places_counted p q [] a d same = refl
places_counted p q (x ∷ xs) a d same =
    sum_by-cons (λ k. cond (q k) 1 0) a (range_with_len (a + 1) (length xs))
    ∙ ap₂ (λ b n. cond b 1 0 + n) (same 0 a (omega arith) (omega arith)) (places_counted p q xs (a + 1) d (λ i j lt e. same (suc i) j (omega arith) (omega arith)))
    ∙ sym (sum_by-cons (λ y. cond (p y) 1 0) x xs)

tables_counted : (p : NetId → Bool) (g : ℕ → ℕ) (tables : List Table) (a : ℕ)
    → ((i j : ℕ) → i < length tables → a + i ≡ j → g j ≡ count_by p (table_at tables i).ins)
    → sum_by g (range_with_len a (length tables)) ≡ count_by p (flat_map (λ table. table.ins) tables)
tables_counted p g [] a same = refl
tables_counted p g (table ∷ tables) a same =
    sum_by-cons g a (range_with_len (a + 1) (length tables))
    ∙ ap₂ (λ m n. m + n) (same 0 a (omega arith) (omega arith)) (tables_counted p g tables (a + 1) (λ i j lt e. same (suc i) j (omega arith) (omega arith)))
    ∙ sym (sum_by-append (λ y. cond (p y) 1 0) table.ins (flat_map (λ t. t.ins) tables))
    ∙ ap (count_by p) (sym (flat_map-cons (λ t. t.ins) table tables))

latches_counted : (n : ℕ) (latches : List Latch) → count_by (is_net n) (map (λ latch. latch.from) latches) ≡ count_by (λ latch. is_net n latch.from) latches
latches_counted n [] = refl
latches_counted n (latch ∷ latches) =
    sum_by-cons (λ net. cond (is_net n net) 1 0) latch.from (map (λ l. l.from) latches)
    ∙ ap (λ k. cond (is_net n latch.from) 1 0 + k) (latches_counted n latches)
    ∙ sym (sum_by-cons (λ (l : Latch). cond (is_net n l.from) 1 0) latch latches)

none_counted : {X : Type 0} (p : X → Bool) (xs : List X) → list_any p xs ≡ false → count_by p xs ≡ 0
none_counted p [] e = refl
none_counted p (x ∷ xs) e =
    let parts = or_false (p x) (list_any p xs) e in
    sum_by-cons (λ y. cond (p y) 1 0) x xs ∙ ap₂ (λ b n. cond b 1 0 + n) parts.0 (none_counted p xs parts.1)

none_passes : {X : Type 0} (p : X → Bool) (xs : List X) → count_by p xs ≡ 0 → list_any p xs ≡ false
none_passes p [] e = refl
none_passes {X} p (x ∷ xs) e = by_cases (p x) refl (none_passes p xs)
  where
    by_cases : (b : Bool) → p x ≡ b → (count_by p xs ≡ 0 → list_any p xs ≡ false) → (p x || list_any p xs) ≡ false
    by_cases true q more =
        let sum : count_by p (x ∷ xs) ≡ 1 + count_by p xs = sum_by-cons (λ y. cond (p y) 1 0) x xs ∙ ap (λ b. cond b 1 0 + count_by p xs) q in
        absurd (omega (arith, sum, e))
    by_cases false q more =
        let sum : count_by p (x ∷ xs) ≡ 0 + count_by p xs = sum_by-cons (λ y. cond (p y) 1 0) x xs ∙ ap (λ b. cond b 1 0 + count_by p xs) q in
        rw q (more (omega (arith, sum, e)))

module _ (c : Circuit) (n : ℕ) where
  readings_counted : length (readings c n) ≡ count_by (is_net n) (flat_map (λ table. table.ins) c.tables)
  unfolding readings below
  readings_counted =
      length-flat_map (readings_in c n) (below (length c.tables))
      ∙ tables_counted (is_net n) (λ k. length (readings_in c n k)) c.tables 0 (λ i j lt e. in_table j ∙ ap (λ k. count_by (is_net n) (table_at c.tables k).ins) (omega arith))
    where
      in_table : (k : ℕ) → length (readings_in c n k) ≡ count_by (is_net n) (table_at c.tables k).ins
      in_table k =
          let nets : List NetId = (table_at c.tables k).ins in
          length-map (net_places n nets) (λ place. record { table = k; place = place })
          ∙ length-filter (λ place. is_net n (net_at nets place)) (below (length nets))
          ∙ places_counted (is_net n) (λ place. is_net n (net_at nets place)) nets 0 (record { 0 = 0 }) (λ i j lt e. ap (λ p. is_net n (net_at nets p)) (omega arith))

  -- the looks are those of places, of latches and of points
  looks_counted : (watched : List NetId) → count_by (is_net n) (looked_at c watched)
      ≡ length (readings c n) + count_by (λ latch. is_net n latch.from) c.latches + count_by (is_net n) watched
  looks_counted watched =
      let nets : List NetId = flat_map (λ table. table.ins) c.tables in
      let latched : List NetId = map (λ latch. latch.from) c.latches in
      let whole : count_by (is_net n) (nets ++ latched ++ watched) ≡ count_by (is_net n) (nets ++ latched) + count_by (is_net n) watched = sum_by-append (λ net. cond (is_net n net) 1 0) (nets ++ latched) watched in
      let first : count_by (is_net n) (nets ++ latched) ≡ count_by (is_net n) nets + count_by (is_net n) latched = sum_by-append (λ net. cond (is_net n net) 1 0) nets latched in
      omega (arith, whole, first, readings_counted, latches_counted n c.latches)

-- ---- a net that a place reads

-- what passes is kept
only_kept : {X : Type 0} (test : X → Bool) (xs : List X) (x y : X) → filter test xs ≡ x ∷ [] → Contains xs y → test y ≡ true → y ≡ x
only_kept test [] x y e (k, lt, at) p = absurd (omega arith)
only_kept {X} test (z ∷ xs) x y e there p = by_cases (test z) refl e (here_or_later y z xs there) (only_kept test xs x y)
  where
    by_cases : (b : Bool) → test z ≡ b → cond b (z ∷ filter test xs) (filter test xs) ≡ x ∷ [] → (z ≡ y) ⊎ Contains xs y
        → (filter test xs ≡ x ∷ [] → Contains xs y → test y ≡ true → y ≡ x) → y ≡ x
    by_cases true q f (inl same) more = let first : z ≡ x = cc in sym same ∙ first
    by_cases true q f (inr later) more =
        let rest : filter test xs ≡ [] = cc in
        absurd (clash (test y) p (none_kept test xs y rest later))
    by_cases false q f (inl same) more = absurd (clash (test y) p (ap test (sym same) ∙ q))
    by_cases false q f (inr later) more = more f later p

module _ (c : Circuit) (k place : ℕ) (table : k < length c.tables) (within : place < length (table_at c.tables k).ins) where
  abbrev ins : List NetId
  ins = (table_at c.tables k).ins

  abbrev read : NetId
  read = net_at ins place

  passes : is_net read.0 read ≡ true
  passes = eq-eqb read.0 read.0 refl

  -- the table has a reading
  some_in : readings_in c read.0 k ≢ []
  some_in e =
      clash (is_net read.0 read) passes
      (none_kept (λ p. is_net read.0 (net_at ins p)) (below (length ins)) place (none_mapped (λ p. record { table = k; place = p }) (net_places read.0 ins) e) (in_below (length ins) place within))

  some_reading : readings c read.0 ≢ []
  unfolding readings
  some_reading e = some_in (flat_none (readings_in c read.0) (below (length c.tables)) k e (in_below (length c.tables) k table))

  -- if there is one reading it is this
  one_reading : (r : Reading) → readings c read.0 ≡ r ∷ [] → (r.table ≡ k) × (r.place ≡ place)
  unfolding readings
  one_reading r e = by_table (grind arith)
    where
      one : IsOnePart (readings_in c read.0) (below (length c.tables)) r
      one = flat_one (readings_in c read.0) (below (length c.tables)) r e

      placed : (places : List ℕ) (j : ℕ) → map (λ p. record { table = j; place = p }) places ≡ r ∷ [] → (places ≡ r.place ∷ []) × (r.table ≡ j)
      placed [] j f = cc
      placed (p ∷ []) j f =
          let same : record { table = j; place = p } ≡ r = cc in
          (ap (λ (x : Reading). x.place ∷ []) same, ap (λ (x : Reading). x.table) (sym same))
      placed (p ∷ q ∷ places) j f = cc

      by_table : (k ≡ one.k) ⊎ (k ≢ one.k) → (r.table ≡ k) × (r.place ≡ place)
      by_table (inl same) =
          let kept = placed (net_places read.0 ins) k (ap (readings_in c read.0) same ∙ one.part) in (
            kept.1,
            sym (only_kept (λ p. is_net read.0 (net_at ins p)) (below (length ins)) r.place place kept.0 (in_below (length ins) place within) passes),
          )
      by_table (inr apart) = absurd (some_in (one.others k (in_below (length c.tables) k table) apart))

  module _ (watched : List NetId) where
    abbrev count : ℕ
    count = count_by (is_net read.0) (looked_at c watched)

    -- WHERE ONE LOOKS at the net, it is this place, and the value there decides on the next fault
    pub one_next : (v : Bool) → looks_for count ≡ One
        → next_fault c watched (Stuck read v) ≡ option_map (λ u. Stuck (net_of_table c k) u) (fixed_value (table_at c.tables k) place v)
    unfolding next_fault
    one_next v looks = by_readings (readings c read.0) refl
      where
        total : (m : ℕ) → looks_for m ≡ One → m ≡ 1
        total zero e = cc
        total (suc zero) e = refl
        total (suc (suc m)) e = cc

        latched : ℕ
        latched = count_by (λ latch. is_net read.0 latch.from) c.latches

        by_readings : (rs : List Reading) → readings c read.0 ≡ rs
            → cond (is_watched watched read.0 || is_latched c read.0) None (behind c (readings c read.0) v)
            ≡ option_map (λ u. Stuck (net_of_table c k) u) (fixed_value (table_at c.tables k) place v)
        by_readings [] e = absurd (some_reading e)
        by_readings (r ∷ []) e =
            let size : length (readings c read.0) ≡ 1 = ap length e in
            let whole = looks_counted c read.0 watched in
            let one = total count looks in
            let points : count_by (is_net read.0) watched ≡ 0 = omega (arith, size, whole, one) in
            let latches : count_by (λ latch. is_net read.0 latch.from) c.latches ≡ 0 = omega (arith, size, whole, one) in
            let this = one_reading r e in
            ap₂ (λ a b. cond (a || b) None (behind c (readings c read.0) v)) (none_passes (is_net read.0) watched points) (none_passes (λ latch. is_net read.0 latch.from) c.latches latches)
            ∙ ap (λ rs. behind c rs v) e
            ∙ ap₂ (λ t p. option_map (λ u. Stuck (net_of_table c t) u) (fixed_value (table_at c.tables t) p v)) this.0 this.1
        by_readings (r ∷ s ∷ rs) e =
            let size : length (readings c read.0) ≡ suc (suc (length rs)) = ap length e in
            let whole = looks_counted c read.0 watched in
            let one = total count looks in
            absurd (omega (arith, size, whole, one))

    -- WHERE MORE LOOK there is no next fault
    pub more_next : (v : Bool) → looks_for count ≢ One → next_fault c watched (Stuck read v) ≡ None
    unfolding next_fault
    more_next v looks = by_test (is_watched watched read.0) (is_latched c read.0) refl refl
      where
        by_readings : (rs : List Reading) → readings c read.0 ≡ rs → is_watched watched read.0 ≡ false → is_latched c read.0 ≡ false → behind c rs v ≡ None
        by_readings [] e p q = refl
        by_readings (r ∷ []) e p q =
            let size : length (readings c read.0) ≡ 1 = ap length e in
            let whole = looks_counted c read.0 watched in
            let one : count ≡ 1 = omega (arith, size, whole, none_counted (is_net read.0) watched p, none_counted (λ latch. is_net read.0 latch.from) c.latches q) in
            absurd (looks (ap looks_for one))
        by_readings (r ∷ s ∷ rs) e p q = refl

        by_test : (a b : Bool) → is_watched watched read.0 ≡ a → is_latched c read.0 ≡ b → cond (is_watched watched read.0 || is_latched c read.0) None (behind c (readings c read.0) v) ≡ None
        by_test true b p q = rw p refl
        by_test false true p q = rw (p, q) refl
        by_test false false p q = rw (p, q) (by_readings (readings c read.0) refl p q)
