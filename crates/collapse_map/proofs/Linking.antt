-- The numbers of representatives stay right as the pass comes to one table after the other.
use Rattle.std.proofs.Common.{◌≡◌, ◌≢◌, ◌⊎◌, inl, inr, ℕ, zero, suc, ◌+◌, ◌-◌, ◌*◌, ◌/◌, ◌%◌, ◌<◌, ◌≤◌, Bool, true, false, List, [], ◌∷◌, length, map, take, get_or, set, refl, ap, ap₂, sym, subst, ◌∙◌, arith, add-one}
use Rattle.std.specs.Prelude.{count_by, Option, Some, None, if◌then◌else◌, ◌==◌}
use Rattle.std.specs.Option.{option_map, option_map_or}
use Rattle.std.specs.List.{Contains}
use Rattle.std.proofs.lemmas.Grind.{same_number_lists}
use Rattle.std.proofs.lemmas.List.{get_or-set_other, get_or-set_same, length-set}
use Rattle.std.proofs.lemmas.List.FromFn.{get_or-map-range_with_len, length-map-range_with_len}
use Rattle.circuit.specs.declared.parts.Driver.{Driver}
use Rattle.circuit.specs.declared.parts.Driver.TheVariants.{Table as FromTable}
use Rattle.circuit.specs.declared.parts.Fault.{Fault}
use Rattle.circuit.specs.declared.parts.Fault.TheVariants.{Stuck, Flip, Pulse}
use Rattle.circuit.specs.declared.parts.NetId.{NetId}
use Rattle.circuit.specs.declared.parts.Table.{Table}
use Rattle.circuit.specs.Circuit.{Circuit}
use Rattle.circuit.specs.Order.{IsOrder, net_at}
use Rattle.circuit.specs.Sound.{IsNetlist}
use Rattle.circuit.specs.Value.{driver_at, table_at}
use Rattle.fault_list.specs.Faults.{fault_at, faults_of}
use Rattle.fault_list.specs.Kept.{count_for, flip_count, stuck_count}
use Rattle.fault_list.proofs.Numbers.{flip_at, length_faults, pulse_at, stuck_at}
use Rattle.fm_base.specs.Lists.{below}
use Rattle.collapse_map.specs.Collapsed.{AreFaultsOf, Collapsed, number_in_list, rep_of}
use Rattle.collapse_map.specs.Fixed.{fixed_value}
use Rattle.collapse_map.specs.Looks.{looked_at, looks_for}
use Rattle.collapse_map.specs.Next.{is_net, net_of_table, next_fault, representative}
use Rattle.collapse_map.specs.Settled.{AreRight, AreSeen, AreAllReached, linked, own_numbers, net_place, stuck_number}
use Rattle.collapse_map.specs.declared.looks.Looks.TheVariants.{One}
use Rattle.collapse_map.proofs.Chain.{at_place, next_behind, place_least, place_there, representative_next, representative_own}
use Rattle.collapse_map.proofs.Counted.{more_next, one_next}
use Rattle.collapse_map.proofs.NextFault.{IsNext, next_is, table_net_alone}
use Rattle.collapse_map.proofs.Numbered.{net_is}
use Rattle.collapse_map.proofs.Places.{here_or_later}
use Rattle.std.proofs.lemmas.List.Elements.{Contains-append_right}

-- ---- numbers

stuck_apart : (n m : ℕ) (v w : Bool) → stuck_number n v ≡ stuck_number m w → (n ≡ m) × (v ≡ w)
stuck_apart n m true true e = (omega arith, refl)
stuck_apart n m true false e = absurd (omega arith)
stuck_apart n m false true e = absurd (omega arith)
stuck_apart n m false false e = (omega arith, refl)

stuck_below : (n : ℕ) (v : Bool) (nets : ℕ) → n < nets → stuck_number n v < 2 * nets
stuck_below n true nets lt = omega arith
stuck_below n false nets lt = omega arith

-- an item among the first is among those before, or the last of them
pub taken_more : {X : Type 0} (xs : List X) (p : ℕ) (x d : X) → Contains (take (suc p) xs) x → Contains (take p xs) x ⊎ (x ≡ get_or xs p d)
taken_more [] p x d (k, lt, e) = absurd (omega arith)
taken_more (y ∷ ys) zero x d there = elim (here_or_later x y [] there) as (λ _. Contains (take zero (y ∷ ys)) x ⊎ (x ≡ y)) [
  | inl same ↦ inr (sym same)
  | inr after ↦ absurd (let lt = after.1 in omega arith)
]
taken_more {X} (y ∷ ys) (suc p) x d there = by_cases (here_or_later x y (take (suc p) ys) there) (taken_more ys p x d)
  where
    by_cases : (y ≡ x) ⊎ Contains (take (suc p) ys) x → (Contains (take (suc p) ys) x → Contains (take p ys) x ⊎ (x ≡ get_or ys p d))
        → Contains (y ∷ take p ys) x ⊎ (x ≡ get_or ys p d)
    by_cases (inl same) more = inl (0, omega arith, same)
    by_cases (inr after) more = elim (more after) as (λ _. Contains (y ∷ take p ys) x ⊎ (x ≡ get_or ys p d)) [
      | inl before ↦ inl (Contains-append_right (y ∷ []) (take p ys) x before)
      | inr last ↦ inr last
    ]

any_default : (nets : List NetId) (i : ℕ) (d e : NetId) → i < length nets → get_or nets i d ≡ get_or nets i e
any_default [] i d e lt = absurd (omega arith)
any_default (x ∷ nets) zero d e lt = refl
any_default (x ∷ nets) (suc i) d e lt = any_default nets i d e (omega arith)

some_stuck : (m n : NetId) (u v : Bool) → Stuck m u ≡ Stuck n v → m ≡ n
some_stuck m n u v e = cc

module _ (s : Collapsed) (order : List NetId) (sound : IsNetlist s.circuit) (ordered : IsOrder s.circuit order) (listed : AreFaultsOf s.circuit s.faults) where
  abbrev nets : ℕ
  nets = length s.circuit.drivers

  abbrev IsRight : List ℕ → NetId → Bool → Type 0
  IsRight reps n v = get_or reps (stuck_number n.0 v) 0 ≡ rep_of s (stuck_number n.0 v)

  abbrev HasNext : NetId → Bool → NetId → Bool → Type 0
  HasNext n v m u = next_fault s.circuit s.watched (Stuck n v) ≡ Some (Stuck m u)

  counted : length s.faults ≡ count_for nets (length s.circuit.latches) listed.flips listed.pulses
  counted = ap length listed.listed ∙ length_faults nets (length s.circuit.latches) listed.flips listed.pulses

  -- the stuck-at faults are the first
  pub stuck_first : 2 * nets ≤ length s.faults
  stuck_first = let total = counted in omega arith

  -- the fault of each number
  stuck_numbered : (n : NetId) (v : Bool) → n.0 < nets → fault_at s.faults (stuck_number n.0 v) ≡ Stuck n v
  stuck_numbered n v lt = ap (λ (faults : List Fault). fault_at faults (stuck_number n.0 v)) listed.listed ∙ of_value v
    where
      stuck_of : ℕ → Bool → Fault
      stuck_of k w = Stuck (record { 0 = k }) w

      of_value : (w : Bool) → fault_at (faults_of s.circuit listed.flips listed.pulses) (stuck_number n.0 w) ≡ Stuck n w
      of_value true =
          let half : (2 * n.0 + 1) / 2 ≡ n.0 = omega arith in
          let odd : (2 * n.0 + 1) % 2 ≡ 1 = omega arith in
          stuck_at nets (length s.circuit.latches) listed.flips listed.pulses (2 * n.0 + 1) (omega arith) ∙ ap₂ stuck_of half (ap (λ r. r == 1) odd)
      of_value false =
          let half : (2 * n.0 + 0) / 2 ≡ n.0 = omega arith in
          let odd : (2 * n.0 + 0) % 2 ≡ 0 = omega arith in
          stuck_at nets (length s.circuit.latches) listed.flips listed.pulses (2 * n.0 + 0) (omega arith) ∙ ap₂ stuck_of half (ap (λ r. r == 1) odd)

  -- a fault with a next one has the number of this
  same_rep : (n m : NetId) (v u : Bool) → n.0 < nets → m.0 < nets → HasNext n v m u → rep_of s (stuck_number m.0 u) ≡ rep_of s (stuck_number n.0 v)
  unfolding rep_of
  same_rep n m v u inside behind e =
      ap (λ (f : Fault). number_in_list s.faults (representative s.circuit s.watched f)) (stuck_numbered m u behind)
      ∙ ap (number_in_list s.faults) (sym (representative_next s.circuit order s.watched sound ordered (Stuck n v) (Stuck m u) e))
      ∙ sym (ap (λ (f : Fault). number_in_list s.faults (representative s.circuit s.watched f)) (stuck_numbered n v inside))

  -- what is reached by fewer faults is right where it is right for more
  reached_less : (A B : NetId → Bool → NetId → Type 0) (reps : List ℕ)
      → ((n m : NetId) (v u : Bool) → HasNext n v m u → B n v m → A n v m) → AreRight s A reps → AreRight s B reps
  reached_less A B reps less right = record {
    size = right.size;
    stuck = λ n v lt reached. right.stuck n v lt (λ m u e. less n m v u e (reached m u e));
    others = right.others;
  }

  -- ---- one place of a table

  module _ (k place : ℕ) (table : k < length s.circuit.tables) (within : place < length (table_at s.circuit.tables k).ins)
      (to : NetId) (inside : to.0 < nets) (driven : driver_at s.circuit to.0 ≡ FromTable k) where
    abbrev ins : List NetId
    ins = (table_at s.circuit.tables k).ins

    abbrev read : NetId
    read = net_at ins place

    abbrev looks : ℕ
    looks = count_by (is_net read.0) (looked_at s.circuit s.watched)

    read_inside : read.0 < nets
    read_inside = (sound.tables k table).ins place (record { 0 = 0 }) within

    to_is : net_of_table s.circuit k ≡ to
    to_is = net_is (net_of_table s.circuit k) to (sym (table_net_alone s.circuit sound k table to.0 inside driven))

    abbrev Reached : (NetId → Bool → NetId → Type 0) → NetId → Bool → Type 0
    Reached B n v = (m : NetId) (u : Bool) → HasNext n v m u → B n v m

    -- the fault at the place gets the number of its next one
    set_right : (A B : NetId → Bool → NetId → Type 0) (v u : Bool) (reps : List ℕ) → HasNext read v to u
        → ((n m : NetId) (w : Bool) → B n w m → A n w m ⊎ ((n ≡ read) × (w ≡ v))) → (B read v to → IsRight reps to u)
        → AreRight s A reps → AreRight s B (set reps (stuck_number read.0 v) (get_or reps (stuck_number to.0 u) 0))
    set_right A B v u reps has more ready right = record {
      size = length-set reps at found ∙ right.size;
      stuck = λ n w lt reached. by_number n w lt reached (decide (stuck_number n.0 w) at);
      others = λ i le within_faults. let apart : i ≢ at = omega (arith, low, le) in get_or-set_other reps at i found 0 apart ∙ right.others i le within_faults;
    }
      where
        at : ℕ
        at = stuck_number read.0 v

        found : ℕ
        found = get_or reps (stuck_number to.0 u) 0

        low : at < 2 * nets
        low = stuck_below read.0 v nets read_inside

        room : at < length reps
        room = let size = right.size in let total = counted in let few = low in omega arith

        decide : (a b : ℕ) → (a ≡ b) ⊎ (a ≢ b)
        decide a b = grind arith

        Here : NetId → Bool → Type 0
        Here n w = Reached B n w → get_or (set reps at found) (stuck_number n.0 w) 0 ≡ rep_of s (stuck_number n.0 w)

        own : Here read v
        own reached = get_or-set_same reps at found 0 room ∙ ready (reached to u has) ∙ same_rep read to v u read_inside inside has

        here : (n : NetId) (w : Bool) → (n.0 ≡ read.0) × (w ≡ v) → Here n w
        here n w same = subst (λ (x : NetId). Here x w) (sym (net_is n read same.0)) (subst (λ y. Here read y) (sym same.1) own)

        by_number : (n : NetId) (w : Bool) → n.0 < nets → Reached B n w → (stuck_number n.0 w ≡ at) ⊎ (stuck_number n.0 w ≢ at)
            → get_or (set reps at found) (stuck_number n.0 w) 0 ≡ rep_of s (stuck_number n.0 w)
        by_number n w lt reached (inl same) = here n w (stuck_apart n.0 read.0 w v same) reached
        by_number n w lt reached (inr apart) =
            get_or-set_other reps at (stuck_number n.0 w) found 0 apart
            ∙ right.stuck n w lt (λ m x f. elim (more n m w (reached m x f)) as (λ _. A n w m) [
              | inl before ↦ before
              | inr same ↦ absurd (apart (ap₂ (λ (net : NetId) y. stuck_number net.0 y) same.0 same.1))
            ])

    -- WHERE ONE LOOKS the fault there gets its number, if the value fixes the table
    link_right : (A B : NetId → Bool → NetId → Type 0) (v : Bool) (reps : List ℕ) → looks_for looks ≡ One
        → ((n m : NetId) (w : Bool) → B n w m → A n w m ⊎ ((n ≡ read) × (w ≡ v))) → (B read v to → (u : Bool) → IsRight reps to u)
        → AreRight s A reps → AreRight s B (linked (table_at s.circuit.tables k) place to v reps)
    link_right A B v reps one more ready right = by_value (fixed_value (table_at s.circuit.tables k) place v) refl
      where
        next_so : (o : Option Bool) → fixed_value (table_at s.circuit.tables k) place v ≡ o
            → next_fault s.circuit s.watched (Stuck read v) ≡ option_map (λ u. Stuck to u) o
        next_so o e =
            one_next s.circuit k place table within s.watched v one
            ∙ ap₂ (λ (m : NetId) p. option_map (λ u. Stuck m u) p) to_is e

        none_next : next_fault s.circuit s.watched (Stuck read v) ≡ None → (n m : NetId) (w u : Bool) → (n ≡ read) × (w ≡ v) → HasNext n w m u → ⊥
        none_next none n m w u same e =
            let clash : next_fault s.circuit s.watched (Stuck n w) ≡ None = ap₂ (λ (x : NetId) y. next_fault s.circuit s.watched (Stuck x y)) same.0 same.1 ∙ none in cc

        by_value : (o : Option Bool) → fixed_value (table_at s.circuit.tables k) place v ≡ o
            → AreRight s B (option_map_or (λ u. set reps (stuck_number read.0 v) (get_or reps (stuck_number to.0 u) 0)) o reps)
        by_value None e = reached_less A B reps (λ n m w u f reached. elim (more n m w reached) as (λ _. A n w m) [
          | inl before ↦ before
          | inr same ↦ absurd (none_next (next_so None e) n m w u same f)
        ]) right
        by_value (Some u) e = set_right A B v u reps (next_so (Some u) e) more (λ reached. ready reached u) right

    -- WHERE MORE LOOK nothing changes
    skip_right : (A B : NetId → Bool → NetId → Type 0) (reps : List ℕ) → looks_for looks ≢ One
        → ((n m : NetId) (w : Bool) → B n w m → A n w m ⊎ (n ≡ read)) → AreRight s A reps → AreRight s B reps
    skip_right A B reps many more right = reached_less A B reps less right
      where
        less : (n m : NetId) (v u : Bool) → HasNext n v m u → B n v m → A n v m
        less n m v u e reached = elim (more n m v reached) as (λ _. A n v m) [
          | inl before ↦ before
          | inr same ↦
              (let none : next_fault s.circuit s.watched (Stuck n v) ≡ None =
              ap (λ (x : NetId). next_fault s.circuit s.watched (Stuck x v)) same ∙ more_next s.circuit k place table within s.watched v many in
              absurd (cc))
        ]

    -- ---- the same where the table's net stands at a place of the order

    module _ (at : ℕ) (ordinal : at < length order) (at_is : net_at order at ≡ to) where
      abbrev Seen : List NetId → NetId → Bool → NetId → Type 0
      Seen seen n v m = (at < net_place order m.0) ⊎ ((net_place order m.0 ≡ at) × Contains seen n)

      -- those and one fault more
      abbrev With : (NetId → Bool → NetId → Type 0) → Bool → NetId → Bool → NetId → Type 0
      With A v n w m = A n w m ⊎ ((net_place order m.0 ≡ at) × (n ≡ read) × (w ≡ v))

      early : net_place order to.0 ≤ at
      early = place_least order to.0 at ordinal (ap (λ (net : NetId). net.0) at_is)

      -- the numbers behind the table are right, once the pass comes to its net for the last time
      behind_right : (A : NetId → Bool → NetId → Type 0) (reps : List ℕ) → ((n m : NetId) (v : Bool) → at < net_place order m.0 → A n v m)
          → AreRight s A reps → net_place order to.0 ≡ at → (u : Bool) → IsRight reps to u
      behind_right A reps far right here u = right.stuck to u inside (λ m x e.
          let rises = next_behind s.circuit order s.watched sound ordered to m u x k driven e in
          far to m u (omega (arith, here, rises)))

      one_value : (A : NetId → Bool → NetId → Type 0) (v : Bool) (reps : List ℕ) → looks_for looks ≡ One → ((n m : NetId) (w : Bool) → at < net_place order m.0 → A n w m)
          → (A read v to → net_place order to.0 ≡ at) → AreRight s A reps → AreRight s (With A v) (linked (table_at s.circuit.tables k) place to v reps)
      one_value A v reps one far mine right = link_right A (With A v) v reps one
          (λ n m w reached. elim reached as (λ _. A n w m ⊎ ((n ≡ read) × (w ≡ v))) [ inl before ↦ inl before | inr new ↦ inr (new.1, new.2) ])
          (λ reached. behind_right A reps far right (elim reached as (λ _. net_place order to.0 ≡ at) [ inl before ↦ mine before | inr new ↦ new.0 ]))
          right

      seen_here : (seen : List NetId) (v : Bool) → Seen seen read v to → net_place order to.0 ≡ at
      seen_here seen v (inl after) = let le = early in absurd (omega (arith, le, after))
      seen_here seen v (inr here) = here.0

      one_more : (n : NetId) → Contains (take (place + 1) ins) n → Contains (take place ins) n ⊎ (n ≡ read)
      one_more n there = taken_more ins place n (record { 0 = 0 }) (subst (λ p. Contains (take p ins) n) (add-one place) there)

      -- ONE PLACE at whose net no other looks
      pub one_seen : (reps : List ℕ) → looks_for looks ≡ One → AreSeen s order at (take place ins) reps
          → AreSeen s order at (take (place + 1) ins) (linked (table_at s.circuit.tables k) place to true (linked (table_at s.circuit.tables k) place to false reps))
      one_seen reps one right =
          reached_less (With (With A false) true) (Seen (take (place + 1) ins)) twice less
          (one_value (With A false) true once one (λ n m w after. inl (inl after)) (λ reached. elim reached as (λ _. net_place order to.0 ≡ at) [ inl before ↦ seen_here (take place ins) true before | inr new ↦ new.0 ])
          (one_value A false reps one (λ n m w after. inl after) (seen_here (take place ins) false) right))
        where
          A : NetId → Bool → NetId → Type 0
          A = Seen (take place ins)

          once : List ℕ
          once = linked (table_at s.circuit.tables k) place to false reps

          twice : List ℕ
          twice = linked (table_at s.circuit.tables k) place to true once

          by_value : (n m : NetId) (v : Bool) → net_place order m.0 ≡ at → n ≡ read → With (With A false) true n v m
          by_value n m true here same = inr (here, same, refl)
          by_value n m false here same = inl (inr (here, same, refl))

          less : (n m : NetId) (v u : Bool) → HasNext n v m u → Seen (take (place + 1) ins) n v m → With (With A false) true n v m
          less n m v u e (inl after) = inl (inl (inl after))
          less n m v u e (inr (here, there)) = elim (one_more n there) as (λ _. With (With A false) true n v m) [
            | inl before ↦ inl (inl (inr (here, before)))
            | inr same ↦ by_value n m v here same
          ]

      -- and one at whose net others look
      pub more_seen : (reps : List ℕ) → looks_for looks ≢ One → AreSeen s order at (take place ins) reps → AreSeen s order at (take (place + 1) ins) reps
      more_seen reps many right = skip_right (Seen (take place ins)) (Seen (take (place + 1) ins)) reps many more right
        where
          more : (n m : NetId) (w : Bool) → Seen (take (place + 1) ins) n w m → Seen (take place ins) n w m ⊎ (n ≡ read)
          more n m w (inl after) = inl (inl after)
          more n m w (inr (here, there)) = elim (one_more n there) as (λ _. Seen (take place ins) n w m ⊎ (n ≡ read)) [
            | inl before ↦ inl (inr (here, before))
            | inr same ↦ inr same
          ]

  -- ---- a table

  -- at first none of its places was seen
  pub none_seen : (at : ℕ) (reps : List ℕ) → AreAllReached s order (at + 1) reps → AreSeen s order at [] reps
  none_seen at reps right = reached_less (λ n v m. at + 1 ≤ net_place order m.0) (λ n v m. (at < net_place order m.0) ⊎ ((net_place order m.0 ≡ at) × Contains [] n)) reps less right
    where
      less : (n m : NetId) (v u : Bool) → HasNext n v m u → (at < net_place order m.0) ⊎ ((net_place order m.0 ≡ at) × Contains [] n) → at + 1 ≤ net_place order m.0
      less n m v u e (inl after) = omega arith
      less n m v u e (inr (here, (i, lt, same))) = absurd (omega arith)

  -- and in the end all
  pub all_seen : (at k : ℕ) (to : NetId) (reps : List ℕ) → net_at order at ≡ to → driver_at s.circuit to.0 ≡ FromTable k
      → AreSeen s order at (table_at s.circuit.tables k).ins reps → AreAllReached s order at reps
  all_seen at k to reps at_is driven right =
      reached_less (λ n v m. (at < net_place order m.0) ⊎ ((net_place order m.0 ≡ at) × Contains ins n)) (λ n v m. at ≤ net_place order m.0) reps less right
    where
      ins : List NetId
      ins = (table_at s.circuit.tables k).ins

      same_table : (i j : ℕ) → FromTable i ≡ FromTable j → i ≡ j
      same_table i j e = cc

      less : (n m : NetId) (v u : Bool) → HasNext n v m u → at ≤ net_place order m.0 → (at < net_place order m.0) ⊎ ((net_place order m.0 ≡ at) × Contains ins n)
      less n m v u e le = by_order (grind arith)
        where
          is : IsNext s.circuit s.watched (Stuck n v) (Stuck m u)
          is = next_is s.circuit s.watched (Stuck n v) (Stuck m u) sound e

          by_order : (at < net_place order m.0) ⊎ (net_place order m.0 ≡ at) → (at < net_place order m.0) ⊎ ((net_place order m.0 ≡ at) × Contains ins n)
          by_order (inl after) = inl after
          by_order (inr here) = inr (here, there)
            where
              back : is.m ≡ m
              back = some_stuck is.m m is.u u (sym is.back)

              front : is.n ≡ n
              front = some_stuck is.n n is.v v (sym is.front)

              behind : net_at order (net_place order m.0) ≡ m
              behind = (at_place s.circuit order s.watched sound ordered m.0 is.pair.k (subst (λ (x : NetId). x.0 < nets) back is.pair.net) (ap (λ (x : NetId). driver_at s.circuit x.0) (sym back) ∙ is.pair.driver)).1

              table_is : is.pair.k ≡ k
              table_is = same_table is.pair.k k (
                  sym is.pair.driver ∙ ap (λ (x : NetId). driver_at s.circuit x.0) (back ∙ sym behind ∙ ap (net_at order) here ∙ at_is) ∙ driven)

              inner : is.pair.place < length ins
              inner = subst (λ j. is.pair.place < length (table_at s.circuit.tables j).ins) table_is is.pair.within

              there : Contains ins n
              there = (
                is.pair.place,
                inner,
                any_default ins is.pair.place n (record { 0 = 0 }) inner ∙ net_is (net_at ins is.pair.place) n (ap (λ j. (net_at (table_at s.circuit.tables j).ins is.pair.place).0) (sym table_is) ∙ is.pair.reads ∙ ap (λ (x : NetId). x.0) front),
              )

  -- ---- the whole pass

  numbered_own : (i : ℕ) → i < length s.faults → get_or (own_numbers s.faults) i 0 ≡ number_in_list s.faults (fault_at s.faults i)
  unfolding below
  numbered_own i lt = get_or-map-range_with_len (λ j. number_in_list s.faults (fault_at s.faults j)) 0 (length s.faults) i i 0 lt (omega arith)

  -- a fault without a next one has its own number
  own_right : (i : ℕ) (f : Fault) → i < length s.faults → fault_at s.faults i ≡ f → next_fault s.circuit s.watched f ≡ None → get_or (own_numbers s.faults) i 0 ≡ rep_of s i
  unfolding rep_of
  own_right i f lt at none =
      numbered_own i lt
      ∙ ap (number_in_list s.faults) (at ∙ sym (representative_own s.circuit s.watched f none) ∙ ap (representative s.circuit s.watched) (sym at))

  transient : (i : ℕ) → 2 * nets ≤ i → i < length s.faults → next_fault s.circuit s.watched (fault_at s.faults i) ≡ None
  unfolding next_fault
  transient i le lt = ap (λ (faults : List Fault). next_fault s.circuit s.watched (fault_at faults i)) listed.listed ∙ by_kind (grind arith)
    where
      by_kind : (i - stuck_count nets < flip_count (length s.circuit.latches) listed.flips) ⊎ (stuck_count nets + flip_count (length s.circuit.latches) listed.flips ≤ i)
          → next_fault s.circuit s.watched (fault_at (faults_of s.circuit listed.flips listed.pulses) i) ≡ None
      by_kind (inl flips) = ap (next_fault s.circuit s.watched) (flip_at nets (length s.circuit.latches) listed.flips listed.pulses i (omega arith) flips)
      by_kind (inr pulses) =
          let total = counted in
          ap (next_fault s.circuit s.watched) (pulse_at nets (length s.circuit.latches) listed.flips listed.pulses i pulses (omega (arith, total, lt)))

  -- IN THE BEGINNING no table was reached
  pub first_settled : AreAllReached s order (length order) (own_numbers s.faults)
  unfolding below
  first_settled = record {
    size = length-map-range_with_len (λ j. number_in_list s.faults (fault_at s.faults j)) 0 (length s.faults);
    stuck = λ n v lt reached. by_next n v lt reached (next_fault s.circuit s.watched (Stuck n v)) refl;
    others = λ i le lt. own_right i (fault_at s.faults i) lt refl (transient i le lt);
  }
    where
      low : (n : NetId) (v : Bool) → n.0 < nets → stuck_number n.0 v < length s.faults
      low n v lt = let few = stuck_below n.0 v nets lt in let total = counted in omega arith

      by_next : (n : NetId) (v : Bool) → n.0 < nets → ((m : NetId) (u : Bool) → HasNext n v m u → length order ≤ net_place order m.0)
          → (o : Option Fault) → next_fault s.circuit s.watched (Stuck n v) ≡ o → get_or (own_numbers s.faults) (stuck_number n.0 v) 0 ≡ rep_of s (stuck_number n.0 v)
      by_next n v lt reached None e = own_right (stuck_number n.0 v) (Stuck n v) (low n v lt) (stuck_numbered n v lt) e
      by_next n v lt reached (Some g) e =
          let is : IsNext s.circuit s.watched (Stuck n v) g = next_is s.circuit s.watched (Stuck n v) g sound e in
          let far : length order ≤ net_place order is.m.0 = reached is.m is.u (e ∙ ap Some is.back) in
          let place = (at_place s.circuit order s.watched sound ordered is.m.0 is.pair.k is.pair.net is.pair.driver).0 in
          absurd (omega (arith, far, place))

  -- IN THE END each number is that of the representative
  pub last_settled : (reps : List ℕ) → AreAllReached s order 0 reps → reps ≡ map (rep_of s) (below (length s.faults))
  unfolding below
  last_settled reps right = same_number_lists reps (map (rep_of s) (below (length s.faults)))
      (right.size ∙ sym (length-map-range_with_len (rep_of s) 0 (length s.faults)))
      (λ i lt. each i (omega (arith, lt, right.size)) ∙ sym (get_or-map-range_with_len (rep_of s) 0 (length s.faults) i i 0 (omega (arith, lt, right.size)) (omega arith)))
    where
      each : (i : ℕ) → i < length s.faults → get_or reps i 0 ≡ rep_of s i
      each i lt = by_kind (grind arith)
        where
          net : NetId
          net = record { 0 = i / 2 }

          stuck_is : (r : ℕ) → r ≡ i % 2 → stuck_number (i / 2) (r == 1) ≡ i
          stuck_is zero e = omega (arith, e)
          stuck_is (suc zero) e = omega (arith, e)
          stuck_is (suc (suc r)) e = absurd (omega (arith, e))

          by_kind : (i < 2 * nets) ⊎ (2 * nets ≤ i) → get_or reps i 0 ≡ rep_of s i
          by_kind (inl stuck) =
              subst (λ j. get_or reps j 0 ≡ rep_of s j) (stuck_is (i % 2) refl)
              (right.stuck net (i % 2 == 1) (omega (arith, stuck)) (λ m u e. omega arith))
          by_kind (inr other) = right.others i other lt
