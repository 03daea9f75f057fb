-- Sets of which nothing waits are settled.
use Rattle.std.proofs.Common.{◌≡◌, inl, inr, ℕ, ◌+◌, ◌<◌, ◌≤◌, Bool, false, Some, List, length, ap, ap₂, sym, subst, ◌∙◌}
use Rattle.std.proofs.lemmas.List.Elements.{All-contains}
use Rattle.std.proofs.lemmas.List.{get_or_default}
use Rattle.fm_base.proofs.Tests.{clash}
use Rattle.circuit.specs.Circuit.{Circuit}
use Rattle.circuit.specs.Order.{IsOrder, net_at}
use Rattle.circuit.specs.Sound.{IsNet}
use Rattle.circuit.specs.Value.{driver_at}
use Rattle.circuit.specs.declared.parts.Driver.TheVariants.{Table as FromTable}
use Rattle.circuit.specs.declared.parts.NetId.{NetId}
use Rattle.coverage_claim.specs.Region.{may_show}
use Rattle.coverage_claim.specs.Rules.{by_table, by_latch, by_next, by_input, by_hold, by_silence, by_start}
use Rattle.coverage_claim.specs.Stretch.{held_at}
use Rattle.coverage_claim.specs.declared.parts.Held.{Held}
use Rattle.pair_sets.proofs.Nets.{complete}
use Rattle.region_search.specs.Search.{EndsSettled, place_in}
use Rattle.region_search.specs.Settled.{EmptyHoldsNone, IsTableSettled, NothingWaitsSettles}

pub settles : NothingWaitsSettles
settles s q nothing some frame net a b le has (by_table k own within is driver none) =
    elim (nothing.tables frame k own within is driver) [
      | inl takes ↦ (
          let any = some frame own.0 within in
          let found = complete s q frame k own takes.reads takes.truth takes.left takes.own_left takes.is_left takes.same takes.own_same any.0 any.1 any.2 net a b has in
          absurd (none found.golden found.faulty found.agree found.golden_at found.faulty_at))
      | inr wide ↦ wide
    ]
settles s q nothing some frame net a b le has (by_latch before l latch next lt at own none) =
    let fits = (nothing.latches before l latch lt at).next a b (ap₂ (λ i n. q i n a b) (sym next) own ∙ has) in
    absurd (none fits.0 fits.1 fits.2)
settles s q nothing some frame net a b le has (by_next l latch lt at own none) =
    let fits = (nothing.latches frame l latch lt at).read a b (ap (λ n. q frame n a b) own ∙ has) in
    absurd (none fits.0 fits.1 fits.2)
settles s q nothing some frame net a b le has (by_input k own within is driver same wrong) =
    absurd (clash (may_show (s.region net) a b) ((nothing.alone frame net a b le has).input k own is driver same) wrong)
settles s q nothing some frame net a b le has (by_hold h value within contains same is apart) =
    absurd (apart (All-contains (λ (x : Held). x.net.0 ≡ net → (v : Bool) → held_at x (s.first + frame) ≡ Some v → a ≡ v) s.held h
    (nothing.alone frame net a b le has).held contains same value is))
settles s q nothing some frame net a b le has (by_silence own within contains same loud) =
    let quiet = All-contains (λ (x : NetId). x.0 ≡ net → (a ≡ false) × (frame ≤ s.until → b ≡ false)) s.silent own (nothing.alone frame net a b le has).silent contains same in
    elim loud [
      | inl up ↦ absurd (clash a up quiet.0)
      | inr up ↦ absurd (clash b up.0 (quiet.1 up.1))
    ]
settles s q nothing some frame net a b le has (by_start l latch begins at same wrong) =
    absurd (clash (s.start latch a b) ((nothing.alone frame net a b le has).start l latch begins at same) wrong)

pub empty_holds_none : EmptyHoldsNone
empty_holds_none s bounds q holds frame net le none golden faulty so lie =
    clash (q frame net (golden frame net) (faulty frame net)) (holds golden faulty so lie frame net le) (none (golden frame net) (faulty frame net))

-- a net that a table drives has a place in the order
placed : (c : Circuit) (order : List NetId) → IsOrder c order → (k : ℕ) (own : NetId) → IsNet c own → driver_at c own.0 ≡ FromTable k
    → (p : ℕ) × (p < length order) × (net_at order p ≡ own)
placed c order is k own within driver =
    let has = is.whole own within k driver in
    (has.0, has.1, get_or_default order has.0 (record { 0 = 0 }) own has.1 ∙ has.2)

pub ends_settled : EndsSettled
ends_settled o s bounds q waiting same is search none = record {
  alone = search.alone;
  tables = λ frame k own le within driver. (
      let at = placed s.circuit o.order (subst (λ c. IsOrder c o.order) (sym same) is) k own within driver in
      subst (λ net. IsTableSettled s q frame k net) at.2
      (search.tables frame at.0 k le at.1 (ap (λ (net : NetId). driver_at s.circuit net.0) at.2 ∙ driver) (none (place_in o frame at.0))));
  latches = λ frame l latch lt at. search.latches frame l latch lt at (none (place_in o frame (length o.order + l)));
}
