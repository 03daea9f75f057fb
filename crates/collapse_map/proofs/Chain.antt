-- A fault and its representative look the same, and the representative has no next fault.
use Rattle.std.proofs.Common.{◌≡◌, ℕ, zero, suc, ◌+◌, ◌<◌, ◌≤◌, Bool, true, false, not, List, [], ◌∷◌, length, take, get_or, refl, ap, sym, subst, ◌∙◌, ◌⊎◌, inl, inr, arith}
use Rattle.std.specs.Prelude.{Option, Some, None}
use Rattle.std.specs.Option.{option_map_or}
use Rattle.std.specs.List.{All, Contains}
use Rattle.std.proofs.lemmas.Bool.{eq-eqb, eqb-true, both_ways, not-true}
use Rattle.std.proofs.lemmas.List.{get_or-take, length-take-le}
use Rattle.std.proofs.lemmas.List.Sums.{prefix_len_passes, prefix_len_stops}
use Rattle.circuit.specs.declared.parts.Driver.TheVariants.{Table as FromTable}
use Rattle.circuit.specs.declared.parts.Fault.{Fault}
use Rattle.circuit.specs.declared.parts.Fault.TheVariants.{Stuck}
use Rattle.circuit.specs.declared.parts.NetId.{NetId}
use Rattle.circuit.specs.Circuit.{Circuit}
use Rattle.circuit.specs.Order.{IsOrder, IsReady, net_at}
use Rattle.circuit.specs.Sound.{IsNet, IsNetlist}
use Rattle.circuit.specs.Trace.{trace}
use Rattle.circuit.specs.Value.{driver_at, table_at}
use Rattle.collapse_map.specs.Next.{follow, is_net, next_fault, representative}
use Rattle.collapse_map.specs.Same.{LookSame}
use Rattle.collapse_map.specs.Settled.{net_place}
use Rattle.collapse_map.proofs.NextFault.{IsNext, next_is}
use Rattle.collapse_map.proofs.OneCycle.{Collapses}
use Rattle.collapse_map.proofs.Runs.{trace_same}

-- ---- one step after another

pub follow-none : (c : Circuit) (watched : List NetId) (f : Fault) → next_fault c watched f ≡ None → (steps : ℕ) → follow steps c watched f ≡ f
unfolding follow
follow-none c watched f e zero = refl
follow-none c watched f e (suc steps) = ap (λ (o : Option Fault). option_map_or (follow steps c watched) o f) e

pub follow-some : (c : Circuit) (watched : List NetId) (f g : Fault) → next_fault c watched f ≡ Some g → (steps : ℕ) → follow (suc steps) c watched f ≡ follow steps c watched g
unfolding follow
follow-some c watched f g e steps = ap (λ (o : Option Fault). option_map_or (follow steps c watched) o f) e

follow-zero : (c : Circuit) (watched : List NetId) (f : Fault) → follow zero c watched f ≡ f
unfolding follow
follow-zero c watched f = refl

-- one step more from a fault behind which there is none
pub follow-more : (c : Circuit) (watched : List NetId) (steps : ℕ) (f : Fault) → next_fault c watched (follow steps c watched f) ≡ None
    → follow (suc steps) c watched f ≡ follow steps c watched f
follow-more c watched zero f e = follow-none c watched f (sym (ap (next_fault c watched) (follow-zero c watched f)) ∙ e) 1 ∙ sym (follow-zero c watched f)
follow-more c watched (suc steps) f e = by_next (next_fault c watched f) refl (follow-more c watched steps)
  where
    by_next : (o : Option Fault) → next_fault c watched f ≡ o
        → ((g : Fault) → next_fault c watched (follow steps c watched g) ≡ None → follow (suc steps) c watched g ≡ follow steps c watched g)
        → follow (suc (suc steps)) c watched f ≡ follow (suc steps) c watched f
    by_next None g more = follow-none c watched f g (suc (suc steps)) ∙ sym (follow-none c watched f g (suc steps))
    by_next (Some h) g more =
        follow-some c watched f h g (suc steps)
        ∙ more h (sym (ap (next_fault c watched) (follow-some c watched f h g steps)) ∙ e)
        ∙ sym (follow-some c watched f h g steps)

-- ---- places in the order

-- it comes no later than any place of the net
pub place_least : (nets : List NetId) (n k : ℕ) → k < length nets → (net_at nets k).0 ≡ n → net_place nets n ≤ k
place_least nets n k lt e = by_order (grind arith)
  where
    none : NetId
    none = record { 0 = 0 }

    by_order : (net_place nets n ≤ k) ⊎ (k < net_place nets n) → net_place nets n ≤ k
    by_order (inl le) = le
    by_order (inr before) =
        absurd (both_ways (is_net n (net_at nets k)) (not-true (is_net n (net_at nets k)) (prefix_len_passes (λ x. not (is_net n x)) nets k none before)) (eq-eqb (net_at nets k).0 n e))

-- and it is one, where the net is there
pub place_there : (nets : List NetId) (n k : ℕ) → k < length nets → (net_at nets k).0 ≡ n → (net_place nets n < length nets) × ((net_at nets (net_place nets n)).0 ≡ n)
place_there nets n k lt e =
    let least = place_least nets n k lt e in
    let within : net_place nets n < length nets = omega arith in
    (within, eqb-true (net_at nets (net_place nets n)).0 n (unnot (is_net n (net_at nets (net_place nets n))) (prefix_len_stops (λ x. not (is_net n x)) nets (record { 0 = 0 }) within)))
  where
    unnot : (b : Bool) → not b ≡ false → b ≡ true
    unnot true f = refl
    unnot false f = cc

-- a net that stands in a list stands at its place
stands : (nets : List NetId) (x : NetId) → Contains nets x → (k : ℕ) × (k < length nets) × ((net_at nets k).0 ≡ x.0)
stands nets x (k, lt, e) = (k, lt, ap (λ (net : NetId). net.0) (any_default nets k x (record { 0 = 0 }) lt ∙ e))
  where
    any_default : (xs : List NetId) (i : ℕ) (d e : NetId) → i < length xs → get_or xs i e ≡ get_or xs i d
    any_default [] i d e lt = absurd (omega arith)
    any_default (x ∷ xs) zero d e lt = refl
    any_default (x ∷ xs) (suc i) d e lt = any_default xs i d e (omega arith)

module _ (c : Circuit) (order : List NetId) (watched : List NetId) (sound : IsNetlist c) (ordered : IsOrder c order) where
  -- ---- what they look like

  module _ (nets : All (IsNet c) watched) where
    next_same : (f g : Fault) → next_fault c watched f ≡ Some g → LookSame c watched f g
    next_same f g e vectors t k d lt =
        let is : IsNext c watched f g = next_is c watched f g sound e in
        let x : ℕ = (get_or watched k d).0 in
        ap (λ (h : Fault). trace c (h ∷ []) vectors t x) is.front
        ∙ trace_same c order sound ordered is.n is.m is.v is.u is.pair is.unlatched vectors t x (nets k d lt) (is.unwatched k d lt)
        ∙ ap (λ (h : Fault). trace c (h ∷ []) vectors t x) (sym is.back)

    -- THE FAULT BEHIND ANY NUMBER OF TABLES looks the same
    pub follow_same : (steps : ℕ) (f : Fault) → LookSame c watched f (follow steps c watched f)
    unfolding follow
    follow_same zero f vectors t k d lt = refl
    follow_same (suc steps) f vectors t k d lt = by_next (next_fault c watched f) refl (λ g. follow_same steps g vectors t k d lt)
      where
        x : ℕ
        x = (get_or watched k d).0

        by_next : (o : Option Fault) → next_fault c watched f ≡ o
            → ((g : Fault) → trace c (g ∷ []) vectors t x ≡ trace c (follow steps c watched g ∷ []) vectors t x)
            → trace c (f ∷ []) vectors t x ≡ trace c (option_map_or (follow steps c watched) o f ∷ []) vectors t x
        by_next None e more = refl
        by_next (Some g) e more = next_same f g e vectors t k d lt ∙ more g

    pub representative_same : (f : Fault) → LookSame c watched f (representative c watched f)
    representative_same f = follow_same (length c.tables) f

  -- ---- where they end

  -- the place of a table's net in the order
  pub at_place : (m k : ℕ) → m < length c.drivers → driver_at c m ≡ FromTable k → (net_place order m < length order) × (net_at order (net_place order m) ≡ record { 0 = m })
  at_place m k lt e =
      let there = stands order (record { 0 = m }) (ordered.whole (record { 0 = m }) lt k e) in
      let place = place_there order m there.0 there.1 there.2 in
      (place.0, ap numbered place.1)
    where
      numbered : ℕ → NetId
      numbered i = record { 0 = i }

  -- the next fault is on a net that comes later
  next_later : (n m : NetId) (v u : Bool) (j : ℕ) → Collapses c n.0 v m.0 u → driver_at c n.0 ≡ FromTable j → net_place order n.0 < net_place order m.0
  next_later n m v u j pair table =
      let here = at_place m.0 pair.k pair.net pair.driver in
      let driver : driver_at c (net_at order (net_place order m.0)).0 ≡ FromTable pair.k = ap (λ (net : NetId). driver_at c net.0) here.1 ∙ pair.driver in
      let read : NetId = net_at (table_at c.tables pair.k).ins pair.place in
      let ready : IsReady c (take (net_place order m.0) order) read = ordered.after (net_place order m.0) pair.k here.0 driver pair.place (record { 0 = 0 }) pair.within in
      let there = stands (take (net_place order m.0) order) read (ready j (ap (driver_at c) pair.reads ∙ table)) in
      let size : length (take (net_place order m.0) order) ≡ net_place order m.0 = length-take-le (net_place order m.0) order (omega (arith, here)) in
      let earlier : there.0 < net_place order m.0 = omega (arith, size, there) in
      let same : (net_at order there.0).0 ≡ n.0 =
      ap (λ (net : NetId). net.0) (sym (get_or-take (net_place order m.0) order there.0 (record { 0 = 0 }) earlier)) ∙ there.2 ∙ pair.reads in
      let least : net_place order n.0 ≤ there.0 = place_least order n.0 there.0 (omega (arith, here, earlier)) same in
      omega (arith, earlier, least)

  -- the net of a next fault comes later, and is that of a table
  stuck_net : (a b : NetId) (v u : Bool) → Stuck a v ≡ Stuck b u → a ≡ b
  stuck_net a b v u e = cc

  later : (n : NetId) (v : Bool) (j : ℕ) (g : Fault) → driver_at c n.0 ≡ FromTable j → (is : IsNext c watched (Stuck n v) g)
      → (net_place order n.0 < net_place order is.m.0) × (net_place order is.m.0 < length order)
  later n v j g table is =
      let same : n ≡ is.n = stuck_net n is.n v is.v is.front in
      let rises = next_later is.n is.m is.v is.u j is.pair (ap (λ (net : NetId). driver_at c net.0) (sym same) ∙ table) in
      let here = at_place is.m.0 is.pair.k is.pair.net is.pair.driver in
      (subst (λ (net : NetId). net_place order net.0 < net_place order is.m.0) (sym same) rises, here.0)

  -- so is the net of a next fault, if the fault itself is on the net of a table
  pub next_behind : (n m : NetId) (v u : Bool) (j : ℕ) → driver_at c n.0 ≡ FromTable j → next_fault c watched (Stuck n v) ≡ Some (Stuck m u)
      → net_place order n.0 < net_place order m.0
  next_behind n m v u j table e =
      let is : IsNext c watched (Stuck n v) (Stuck m u) = next_is c watched (Stuck n v) (Stuck m u) sound e in
      subst (λ (net : NetId). net_place order n.0 < net_place order net.0) (sym (stuck_net m is.m u is.u is.back)) (later n v j (Stuck m u) table is).0

  ends_from : (steps : ℕ) (n : NetId) (v : Bool) (j : ℕ) → driver_at c n.0 ≡ FromTable j → length order ≤ steps + net_place order n.0 + 1
      → next_fault c watched (follow steps c watched (Stuck n v)) ≡ None
  ends_from zero n v j table enough = by_next (next_fault c watched (Stuck n v)) refl
    where
      by_next : (o : Option Fault) → next_fault c watched (Stuck n v) ≡ o → next_fault c watched (follow zero c watched (Stuck n v)) ≡ None
      by_next None e = ap (next_fault c watched) (follow-none c watched (Stuck n v) e zero) ∙ e
      by_next (Some g) e =
          let rises = later n v j g table (next_is c watched (Stuck n v) g sound e) in
          absurd (omega (arith, rises))
  ends_from (suc steps) n v j table enough = by_next (next_fault c watched (Stuck n v)) refl (ends_from steps)
    where
      by_next : (o : Option Fault) → next_fault c watched (Stuck n v) ≡ o
          → ((m : NetId) (u : Bool) (k : ℕ) → driver_at c m.0 ≡ FromTable k → length order ≤ steps + net_place order m.0 + 1 → next_fault c watched (follow steps c watched (Stuck m u)) ≡ None)
          → next_fault c watched (follow (suc steps) c watched (Stuck n v)) ≡ None
      by_next None e more = ap (next_fault c watched) (follow-none c watched (Stuck n v) e (suc steps)) ∙ e
      by_next (Some g) e more =
          let is = next_is c watched (Stuck n v) g sound e in
          let rises = later n v j g table is in
          ap (next_fault c watched) (follow-some c watched (Stuck n v) g e steps ∙ ap (follow steps c watched) is.back)
          ∙ more is.m is.u is.pair.k is.pair.driver (omega (arith, rises))

  -- THE REPRESENTATIVE has no next fault
  pub representative_last : (f : Fault) → next_fault c watched (representative c watched f) ≡ None
  representative_last f = by_next (next_fault c watched f) refl
    where
      from_first : (g : Fault) (tables : ℕ) → length c.tables ≡ tables → next_fault c watched f ≡ Some g → IsNext c watched f g → next_fault c watched (follow tables c watched f) ≡ None
      from_first g zero size e is = let within = is.pair.table in absurd (omega (arith, within, size))
      from_first g (suc tables) size e is =
          let count = ordered.count in
          ap (next_fault c watched) (follow-some c watched f g e tables ∙ ap (follow tables c watched) is.back)
          ∙ ends_from tables is.m is.u is.pair.k is.pair.driver (omega (arith, count, size))

      by_next : (o : Option Fault) → next_fault c watched f ≡ o → next_fault c watched (representative c watched f) ≡ None
      by_next None e = ap (next_fault c watched) (follow-none c watched f e (length c.tables)) ∙ e
      by_next (Some g) e = from_first g (length c.tables) refl e (next_is c watched f g sound e)

  -- A FAULT THAT HAS A NEXT ONE has its representative, and any other is its own
  pub representative_next : (f g : Fault) → next_fault c watched f ≡ Some g → representative c watched f ≡ representative c watched g
  representative_next f g e = by_count (length c.tables) refl (next_is c watched f g sound e)
    where
      by_count : (tables : ℕ) → length c.tables ≡ tables → IsNext c watched f g → follow tables c watched f ≡ follow tables c watched g
      by_count zero size is = let within = is.pair.table in absurd (omega (arith, within, size))
      by_count (suc tables) size is =
          let count = ordered.count in
          let none : next_fault c watched (follow tables c watched g) ≡ None =
          ap (λ (h : Fault). next_fault c watched (follow tables c watched h)) is.back ∙ ends_from tables is.m is.u is.pair.k is.pair.driver (omega (arith, count, size)) in
          follow-some c watched f g e tables ∙ sym (follow-more c watched tables g none)

pub representative_own : (c : Circuit) (watched : List NetId) (f : Fault) → next_fault c watched f ≡ None → representative c watched f ≡ f
representative_own c watched f e = follow-none c watched f e (length c.tables)
