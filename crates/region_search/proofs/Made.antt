-- The table of a place in the order.
use Rattle.std.proofs.Common.{◌≡◌, inr, ℕ, ◌^◌, ◌<◌, ◌≤◌, List, [], length, get_or, take, ap, sym, subst, ◌∙◌, arith}
use Rattle.std.proofs.lemmas.Option.{slice_get-get_or}
use Rattle.circuit.specs.Circuit.{Circuit}
use Rattle.circuit.specs.Order.{net_at}
use Rattle.circuit.specs.Sound.{IsNet}
use Rattle.circuit.specs.Value.{driver_at, table_at}
use Rattle.circuit.specs.declared.parts.Driver.TheVariants.{Table as FromTable}
use Rattle.circuit.specs.declared.parts.Latch.{Latch}
use Rattle.circuit.specs.declared.parts.NetId.{NetId}
use Rattle.coverage_claim.specs.Rules.{Sets}
use Rattle.coverage_claim.specs.Stretch.{Stretch}
use Rattle.coverage_claim.specs.declared.parts.Site.{Site}
use Rattle.fanout.specs.Readers.{Ordered}
use Rattle.pair_sets.specs.Tables.{IsTruth}
use Rattle.region_search.specs.Going.{IsMade, IsPlaced}
use Rattle.region_search.specs.Settled.{IsTableSettled}
use Rattle.region_search.specs.declared.search.TablePlace.{TablePlace}

-- the table that stands at a place
abbrev pub placed_at : List TablePlace → ℕ → TablePlace
placed_at tables place = get_or tables place (record { own = record { 0 = 0 }; count = 0; reads = []; truth = 0 })

module _ (o : Ordered) (tables : List TablePlace) (latches : List Latch) (sites : List Site) (made : IsMade o tables latches sites) (place : ℕ) (lt : place < length o.order) where
  pub is_placed : IsPlaced o place (placed_at tables place)
  is_placed = made.placed.each place (placed_at tables place) (slice_get-get_or tables place (record { own = record { 0 = 0 }; count = 0; reads = []; truth = 0 }) (omega (arith, lt, made.placed.count)))

  pub own_is_net : IsNet o.circuit (placed_at tables place).own
  own_is_net = subst (IsNet o.circuit) (sym is_placed.own) (made.order.nets place (record { 0 = 0 }) lt)

  pub own_inside : (placed_at tables place).own.0 < length sites
  own_inside = let net = own_is_net in omega (arith, net, made.count)

  pub own_fits : (placed_at tables place).own.0 < 2 ^ 18
  own_fits = let net = own_is_net in omega (arith, net, made.sound.few)

  -- its number
  pub number_of : (k : ℕ) × (driver_at o.circuit (placed_at tables place).own.0 ≡ FromTable k)
  number_of = let found = made.order.tables place lt in (found.0, ap (λ (net : NetId). driver_at o.circuit net.0) is_placed.own ∙ found.1)

  pub truth_of : (s : Stretch) → s.circuit ≡ o.circuit → (placed_at tables place).count ≤ 6
      → IsTruth s.circuit number_of.0 (placed_at tables place).own (take (placed_at tables place).count (placed_at tables place).reads) (placed_at tables place).truth
  truth_of s same few =
      subst (λ (c : Circuit). IsTruth c number_of.0 (placed_at tables place).own (take (placed_at tables place).count (placed_at tables place).reads) (placed_at tables place).truth) (sym same)
      (is_placed.truth number_of.0 number_of.1 few)

  -- one that reads many nets is settled
  pub wide_settled : (s : Stretch) (left : Sets) (frame k : ℕ) → s.circuit ≡ o.circuit → 6 < (placed_at tables place).count → driver_at s.circuit (net_at o.order place).0 ≡ FromTable k
      → IsTableSettled s left frame k (net_at o.order place)
  wide_settled s left frame k same many driver =
      let here : driver_at o.circuit (placed_at tables place).own.0 ≡ FromTable k =
      ap (λ (net : NetId). driver_at o.circuit net.0) is_placed.own ∙ ap (λ (c : Circuit). driver_at c (net_at o.order place).0) (sym same) ∙ driver in
      inr (subst (λ (c : Circuit). 6 < length (table_at c.tables k).ins) (sym same) (is_placed.wide k here many))
