-- Whether held inputs and silent alarms contradict each other, by the sets of the first window.
use Rattle.std.proofs.Common.{◌≡◌, inl, inr, ℕ, Bool, true, List, Some, refl, ap₂, sym, subst, ◌∙◌}
use Rattle.std.specs.List.{slice_get}
use Rattle.std.proofs.lemmas.Bool.{cases_Bool}
use Rattle.std.proofs.lemmas.Option.{get_or_from_slice_get}
use Rattle.fm_base.specs.Lists.{same_bit}
use Rattle.fm_base.proofs.Tests.{and_both, clash, same_bit_true}
use Rattle.circuit.specs.Circuit.{Circuit}
use Rattle.circuit.specs.Sound.{IsNetlist}
use Rattle.circuit.specs.declared.parts.Latch.{Latch}
use Rattle.coverage_claim.specs.Claim.{Claim, window_of}
use Rattle.coverage_claim.specs.Rules.{Sets, everything, this_pair}
use Rattle.coverage_claim.specs.Stretch.{AreSo}
use Rattle.coverage_claim.specs.declared.parts.Site.{Site}
use Rattle.coverage_claim.specs.declared.parts.Site.TheVariants.{Intact}
use Rattle.pair_sets.specs.Choice.{set_at}
use Rattle.pair_sets.specs.Pairs.{has}
use Rattle.pair_sets.specs.declared.pairs.PairSet.{PairSet}
use Rattle.region_search.proofs.Settling.{empty_holds_none, settles}
use Rattle.region_search.specs.Going.{IsSomeEmpty}
use Rattle.region_search.specs.Settled.{AreSome, HoldsAll, NothingWaits}
use Rattle.claim_search.specs.Hypotheses.{Contradict, ContradictSimply, bare, nowhere}
use Rattle.claim_search.specs.LeadIn.{LeavesStarts}
use Rattle.claim_search.specs.Question.{IsAsked, IsPosed, with_pairs}
use Rattle.claim_search.specs.Sites.{site_at}
use Rattle.claim_search.specs.Window.{starts_of}
use Rattle.claim_search.specs.declared.hypotheses.Contradiction.TheVariants.{Alarms}
use Rattle.claim_search.specs.declared.question.Question.{Question}
use Rattle.claim_search.proofs.Regions.{posed_so}
use Rattle.claim_search.proofs.Starting.{settled_more, starts_are}

-- nothing is done anywhere
pub bare_asked : (c : Circuit) (q : Question) (claim : Claim) (sites : List Site) → IsPosed c q.posed claim → q.sites.now ≡ sites → ((n : ℕ) → site_at sites n ≡ Intact) → IsAsked c q (bare claim)
bare_asked c q claim sites posed own intact = record {
  posed = posed_so c q.posed claim nowhere posed;
  sites = λ net site at. (
      let here : site_at sites net ≡ site = get_or_from_slice_get sites net site Intact (subst (λ (all : List Site). slice_get all net ≡ Some site) own at) in
      sym (intact net) ∙ here);
}

-- a set that has one pair has another that is the same
has_same : (starts : PairSet) (a b x y : Bool) → this_pair a b x y ≡ true → has starts a b ≡ true → has starts x y ≡ true
has_same starts a b x y same e =
    let both = and_both (same_bit a x) (same_bit b y) same in
    ap₂ (has starts) (sym (same_bit_true a x both.0)) (sym (same_bit_true b y both.1)) ∙ e

module _ (claim : Claim) (c : Circuit) (own : claim.circuit ≡ c) (sound : IsNetlist c) (first : List PairSet) (leaves : LeavesStarts (bare claim) first) (q : Sets) where
  there : (l : ℕ) (latch : Latch) → slice_get claim.circuit.latches l ≡ Some latch → slice_get c.latches l ≡ Some latch
  there l latch at = subst (λ (each : Circuit). slice_get each.latches l ≡ Some latch) own at

  -- A SET WITHOUT A PAIR: no window is so
  pub none_is_so : HoldsAll (window_of (with_pairs (bare claim) (starts_of c first))) everything q → IsSomeEmpty (window_of (with_pairs (bare claim) (starts_of c first))) q → Contradict claim Alarms
  none_is_so holds none golden faulty lead later later_faulty so =
      empty_holds_none (window_of (with_pairs (bare claim) (starts_of c first))) everything q holds none.0 none.1 none.2 none.3 later later_faulty moved (λ i n le. refl)
    where
      moved : AreSo (window_of (with_pairs (bare claim) (starts_of c first))) later later_faulty
      moved = record {
        tables = so.tables;
        latches = so.latches;
        inputs = so.inputs;
        held = so.held;
        silent = so.silent;
        start = λ l latch at.
            starts_are c first l latch sound (there l latch at) (later 0 latch.to.0) (later_faulty 0 latch.to.0)
            ∙ has_same (set_at first l) (golden claim.from latch.to.0) (faulty claim.from latch.to.0) (later 0 latch.to.0) (later_faulty 0 latch.to.0)
            (so.start l latch at) (leaves.holds golden faulty lead l latch at);
      }

  -- AND WHERE EACH HAS ONE they don't contradict each other simply
  pub some_are_so : NothingWaits (window_of (with_pairs (bare claim) (starts_of c first))) q → AreSome (window_of (with_pairs (bare claim) (starts_of c first))) q → ¬ (ContradictSimply claim)
  some_are_so nothing some void =
      let s = window_of (with_pairs (bare claim) (starts_of c first)) in
      let gone = void.2 in
      let any = some gone.0 gone.1 gone.2 in
      clash (q gone.0 gone.1 any.0 any.1) any.2
      (gone.3 any.0 any.1 q (settled_more (with_pairs (bare claim) void.0) (starts_of c first) fewer q (settles s q nothing some)))
    where
      fewer : (l : ℕ) (latch : Latch) → slice_get claim.circuit.latches l ≡ Some latch → (a b : Bool) → starts_of c first latch a b ≡ true → void.0 latch a b ≡ true
      fewer l latch at a b e = elim (cases_Bool (void.0 latch a b)) as (λ _. void.0 latch a b ≡ true) [
        | inl in_it ↦ in_it
        | inr out ↦ absurd (leaves.simply l latch at a b (sym (starts_are c first l latch sound (there l latch at) a b) ∙ e) (void.1 l latch at a b out))
      ]
