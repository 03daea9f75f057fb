-- The pairs with which the windows of a claim start.
use Rattle.std.proofs.Common.{◌≡◌, ℕ, ◌+◌, Bool, true, List, Some, length, get_or, ap, ap₂, sym, subst, ◌∙◌}
use Rattle.std.specs.Prelude.{All, Contains}
use Rattle.std.specs.List.{slice_get}
use Rattle.std.proofs.lemmas.Option.{get_or_from_slice_get, slice_get-get_or, slice_get_within}
use Rattle.fm_base.proofs.Tests.{clash, false_of}
use Rattle.circuit.specs.Circuit.{Circuit}
use Rattle.circuit.specs.Sound.{IsNet, IsNetlist}
use Rattle.circuit.specs.declared.parts.Driver.TheVariants.{Input, Latch as FromLatch}
use Rattle.circuit.specs.declared.parts.Latch.{Latch}
use Rattle.circuit.specs.declared.parts.NetId.{NetId}
use Rattle.coverage_claim.specs.Claim.{Claim, window_of}
use Rattle.coverage_claim.specs.Largest.{AreSettled, IsRefuted}
use Rattle.coverage_claim.specs.Rules.{Sets, by_table, by_latch, by_next, by_input, by_hold, by_silence, by_start}
use Rattle.coverage_claim.specs.Stretch.{Pairs}
use Rattle.coverage_claim.specs.declared.parts.Held.{Held}
use Rattle.pair_sets.specs.Choice.{set_at}
use Rattle.pair_sets.specs.Pairs.{has}
use Rattle.pair_sets.specs.declared.pairs.PairSet.{PairSet}
use Rattle.region_search.specs.Begin.{BeginsSo}
use Rattle.region_search.specs.Going.{IsMade}
use Rattle.region_search.specs.declared.begin.Beginning.{Beginning}
use Rattle.claim_search.specs.Question.{IsAsked, IsSearched, MayBeAsked, with_pairs}
use Rattle.claim_search.specs.Window.{driven_starts, starts_of}
use Rattle.claim_search.specs.declared.question.Question.{Question}
use Rattle.claim_search.specs.declared.question.Searched.{Searched}

-- ---- what a search needs

pub made : (searched : Searched) (q : Question) (latches : List Latch) → IsSearched searched → MayBeAsked searched.netlist.now q → latches ≡ searched.netlist.now.latches
    → IsMade searched.watchers.now searched.tables.now latches q.sites.now
made searched q latches is may own = record {
  sound = is.sound;
  order = is.order;
  placed = is.placed;
  all = own ∙ ap (λ (c : Circuit). c.latches) (sym is.netlist);
  count = may.sites ∙ ap (λ (c : Circuit). length c.drivers) (sym is.netlist);
}

pub of_watchers : (searched : Searched) (nets : List NetId) → IsSearched searched → All (IsNet searched.netlist.now) nets → All (IsNet searched.watchers.now.circuit) nets
of_watchers searched nets is all = subst (λ (c : Circuit). All (IsNet c) nets) (sym is.netlist) all

pub held_nets : (c : Circuit) (held : List Held) → IsNetlist c → All (λ h. Contains c.inputs h.net) held → All (λ h. IsNet c h.net) held
held_nets c held sound all i d lt =
    let there = all i d lt in
    slice_get_within c.drivers (get_or held i d).net.0 (Input there.0)
    (sound.inputs there.0 (get_or held i d).net (slice_get-get_or c.inputs there.0 (get_or held i d).net there.1 ∙ ap Some there.2))

-- ---- how a search begins

-- a latch has the pairs at its number
pub starts_are : (c : Circuit) (starts : List PairSet) (l : ℕ) (latch : Latch) → IsNetlist c → slice_get c.latches l ≡ Some latch
    → (a b : Bool) → starts_of c starts latch a b ≡ has (set_at starts l) a b
starts_are c starts l latch sound at a b =
    ap (λ driver. driven_starts starts driver a b) (get_or_from_slice_get c.drivers latch.to.0 (FromLatch l) (Input 0) (sound.latches l latch at))

-- the windows that start so, as a search begins with them
pub begins_so : (c : Circuit) (q : Question) (claim : Claim) (starts : List PairSet) (b : Beginning) (many : ℕ) → IsNetlist c → IsAsked c q claim → many ≡ q.posed.window + q.posed.ahead + 1
    → b.sites.now ≡ q.sites.now → b.held.now ≡ q.posed.held.now → b.first ≡ q.posed.from → b.silent.now ≡ q.posed.alarms.now → b.until ≡ q.posed.window → b.starts.now ≡ starts
    → BeginsSo c (window_of (with_pairs claim (starts_of c starts))) many b
begins_so c q claim starts b many sound asked frames sites held first silent until own = record {
  circuit = asked.posed.circuit;
  frames = frames ∙ ap₂ (λ (x y : ℕ). x + y + 1) (sym asked.posed.window) (sym asked.posed.ahead);
  sites = λ net site at. asked.sites net site (subst (λ all. slice_get all net ≡ Some site) sites at);
  held = asked.posed.held ∙ sym held;
  first = asked.posed.from ∙ sym first;
  silent = asked.posed.alarms ∙ sym silent;
  until = asked.posed.window ∙ sym until;
  start = λ l latch at x y. starts_are c starts l latch sound at x y ∙ ap (λ (all : List PairSet). has (set_at all l) x y) (sym own);
}

-- ---- fewer starts

module _ (claim : Claim) (pairs : Latch → Pairs)
    (fewer : (l : ℕ) (latch : Latch) → slice_get claim.circuit.latches l ≡ Some latch → (a b : Bool) → pairs latch a b ≡ true → claim.apart latch a b ≡ true) where
  -- sets that are settled with fewer starts are so with more
  pub settled_more : (r : Sets) → AreSettled (window_of (with_pairs claim pairs)) r → AreSettled (window_of claim) r
  settled_more r settled frame net a b le e (by_table k own within is driver none) =
      settled frame net a b le e (by_table k own within is driver (λ golden faulty agree. none golden faulty
      (record { own = agree.own; reads = agree.reads; golden_is = agree.golden_is; faulty_may = agree.faulty_may })))
  settled_more r settled frame net a b le e (by_latch before l latch next lt at own none) =
      settled frame net a b le e (by_latch before l latch next lt at own (λ golden faulty agree. none golden faulty
      (record { read = agree.read; own = agree.own; golden_is = agree.golden_is; faulty_may = agree.faulty_may })))
  settled_more r settled frame net a b le e (by_next l latch lt at own none) =
      settled frame net a b le e (by_next l latch lt at own (λ golden faulty agree. none golden faulty
      (record { read = agree.read; own = agree.own; golden_is = agree.golden_is; faulty_may = agree.faulty_may })))
  settled_more r settled frame net a b le e (by_input k own within is driver same wrong) = settled frame net a b le e (by_input k own within is driver same wrong)
  settled_more r settled frame net a b le e (by_hold h value within has_it same is apart) = settled frame net a b le e (by_hold h value within has_it same is apart)
  settled_more r settled frame net a b le e (by_silence own within has_it same loud) = settled frame net a b le e (by_silence own within has_it same loud)
  settled_more r settled frame net a b le e (by_start l latch begins at same wrong) =
      settled frame net a b le e (by_start l latch begins at same (false_of (pairs latch a b) (λ there. clash (claim.apart latch a b) (fewer l latch at a b there) wrong)))

  -- so what is refuted with more starts is with fewer
  pub refuted_less : (frame net : ℕ) (a b : Bool) → IsRefuted (window_of claim) frame net a b → IsRefuted (window_of (with_pairs claim pairs)) frame net a b
  refuted_less frame net a b refuted r settled alone = refuted r (settled_more r settled) alone
