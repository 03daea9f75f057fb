-- The beginning of a search.
use Rattle.std.proofs.Common.{◌≡◌, ◌≢◌, ◌⊎◌, inl, inr, ℕ, ◌+◌, ◌<◌, ◌≤◌, Bool, true, false, ◌&&◌, Option, None, Some, List, length, get_or, refl, ap, sym, subst, ◌∙◌, arith}
use Rattle.std.specs.Prelude.{◌==◌, All, nat_lt, slice_index_or}
use Rattle.std.specs.List.{Contains, slice_get}
use Rattle.std.proofs.lemmas.Bool.{cases_Bool, cases_lt, eqb-true, le-ltb, lt-ltb}
use Rattle.std.proofs.lemmas.List.{get_or_default}
use Rattle.std.proofs.lemmas.List.Elements.{Contains-get_or}
use Rattle.std.proofs.lemmas.Option.{slice_get-get_or, slice_get_within}
use Rattle.fm_base.proofs.Tests.{and_both, and_not, clash}
use Rattle.circuit.specs.Circuit.{Circuit}
use Rattle.circuit.specs.Order.{net_at}
use Rattle.circuit.specs.Sound.{IsNet, IsNetOf, IsNetlist}
use Rattle.circuit.specs.Value.{driver_at}
use Rattle.circuit.specs.declared.parts.Driver.TheVariants.{Input, Latch as FromLatch}
use Rattle.circuit.specs.declared.parts.Latch.{Latch}
use Rattle.circuit.specs.declared.parts.NetId.{NetId}
use Rattle.coverage_claim.specs.Region.{may_show}
use Rattle.coverage_claim.specs.Rules.{MayGo, Sets, by_hold, by_input, by_silence, by_start, everything, only}
use Rattle.coverage_claim.specs.Stretch.{Pairs, Stretch, held_at}
use Rattle.coverage_claim.specs.declared.parts.Held.{Held}
use Rattle.coverage_claim.specs.declared.parts.Site.TheVariants.{Intact}
use Rattle.fanout.specs.Readers.{Ordered}
use Rattle.pair_sets.specs.Choice.{set_at}
use Rattle.pair_sets.specs.Pairs.{has}
use Rattle.place_set.specs.Places.{has as waits}
use Rattle.region_search.proofs.Cutting.{still_holds}
use Rattle.region_search.proofs.Narrowing.{cut_other, cut_there}
use Rattle.region_search.proofs.Places.{inside}
use Rattle.region_search.specs.Begin.{BeginsSo, IsSaidOf}
use Rattle.region_search.specs.BeginSteps.{AreFewer, AreStartsDone, IsAsLong, IsBegun, IsDone, IsFrameDone, allows, held_of, held_passes, input_passes, is_quiet, latch_of}
use Rattle.region_search.specs.Going.{GoesOn, IsFor, sets_of}
use Rattle.region_search.specs.Search.{IsByRules, place_in, places_of}
use Rattle.region_search.specs.Settled.{PassesAlone}
use Rattle.region_search.specs.declared.begin.Beginning.{Beginning}
use Rattle.region_search.specs.declared.search.Search.{Search}

-- ---- one cut

-- what has gone might go from all pairs
abbrev pub GoRightly : Stretch → Sets → Type 0
GoRightly s q = (frame net : ℕ) (a b : Bool) → frame ≤ s.last → q frame net a b ≡ false → MayGo s everything frame net a b

pub rightly_cut : (s : Stretch) (now left : Sets) (frame net : ℕ) (to : Pairs) → ((i n : ℕ) (a b : Bool) → left i n a b ≡ only now frame net to i n a b)
    → ((a b : Bool) → to a b ≡ false → MayGo s everything frame net a b) → GoRightly s now → GoRightly s left
rightly_cut s now left frame net to cut may before i n a b le gone = elim (cases_Bool (i == frame && n == net)) as (λ _. MayGo s everything i n a b) [
  | inr other ↦ before i n a b le (sym (cut_other now left frame net to cut i n a b other) ∙ gone)
  | inl it ↦ (
      let parts = and_both (i == frame) (n == net) it in
      let here : i ≡ frame = eqb-true i frame parts.0 in
      let there : n ≡ net = eqb-true n net parts.1 in
      elim (cases_Bool (now i n a b)) as (λ _. MayGo s everything i n a b) [
        | inr was ↦ before i n a b le was
        | inl had ↦ (
            let half : now frame net a b ≡ true = subst (λ j. now j net a b ≡ true) here (subst (λ m. now i m a b ≡ true) there had) in
            let out : left frame net a b ≡ false = subst (λ j. left j net a b ≡ false) here (subst (λ m. left i m a b ≡ false) there gone) in
            subst (λ j. MayGo s everything j n a b) (sym here) (subst (λ m. MayGo s everything frame m a b) (sym there)
            (may a b (and_not (now frame net a b) (to a b) (sym (cut_there now left frame net to cut a b) ∙ out) half))))
      ])
]

-- ---- one net after the other

-- the test of one net more is passed
pub done_more : (frame : ℕ) (net_of : ℕ → ℕ) (passes : ℕ → Pairs) (count : ℕ) (half left : Sets) → IsDone frame net_of passes count half → AreFewer half left
    → ((a b : Bool) → left frame (net_of count) a b ≡ true → passes count a b ≡ true) → IsDone frame net_of passes (count + 1) left
done_more frame net_of passes count half left done fewer there j lt a b e = elim (cases_lt j count) as (λ _. passes j a b ≡ true) [
  | inl before ↦ done j before a b (fewer frame (net_of j) a b e)
  | inr last ↦ (
      let same : count ≡ j = omega (arith, lt, last) in
      subst (λ k. passes k a b ≡ true) same (there a b (subst (λ k. left frame (net_of k) a b ≡ true) (sym same) e)))
]

-- and what was passed stays so
pub frame_kept : (c : Circuit) (b : Beginning) (frame : ℕ) (half left : Sets) → AreFewer half left → IsFrameDone c b frame half → IsFrameDone c b frame left
frame_kept c b frame half left fewer done = record {
  inputs = λ k lt x y e. done.inputs k lt x y (fewer frame (net_at c.inputs k).0 x y e);
  held = λ j lt x y e. done.held j lt x y (fewer frame (held_of b.held.now j).net.0 x y e);
  silent = λ j lt x y e. done.silent j lt x y (fewer frame (net_at b.silent.now j).0 x y e);
}

pub as_long : (old half new : Search) → IsAsLong old half → IsAsLong half new → IsAsLong old new
as_long old half new first second = record {
  nets = second.nets ∙ first.nets;
  frames = second.frames ∙ first.frames;
  bound = second.bound ∙ first.bound;
}

-- ---- which pairs may go

input_net : (c : Circuit) (k : ℕ) → IsNetlist c → k < length c.inputs → IsNet c (net_at c.inputs k) × (driver_at c (net_at c.inputs k).0 ≡ Input k)
input_net c k sound lt =
    let driver : slice_get c.drivers (net_at c.inputs k).0 ≡ Some (Input k) = sound.inputs k (net_at c.inputs k) (slice_get-get_or c.inputs k (record { 0 = 0 }) lt) in
    let within = slice_get_within c.drivers (net_at c.inputs k).0 (Input k) driver in
    let there : slice_get c.drivers (net_at c.inputs k).0 ≡ Some (driver_at c (net_at c.inputs k).0) = slice_get-get_or c.drivers (net_at c.inputs k).0 (Input 0) within in
    let both : Some (driver_at c (net_at c.inputs k).0) ≡ Some (Input k) = sym there ∙ driver in
    (within, (cc))

-- as they are gone through
pub record IsSeenInput (c : Circuit) (nets : List NetId) (k : ℕ) : Type 0 where
  pub few : k < length c.inputs
  pub same : net_at nets k ≡ net_at c.inputs k
  pub net : IsNet c (net_at nets k)

pub input_seen : (c : Circuit) (nets : List NetId) (k : ℕ) → IsNetlist c → nets ≡ c.inputs → k < length nets → IsSeenInput c nets k
input_seen c nets k sound is lt =
    let few : k < length c.inputs = subst (λ (all : List NetId). k < length all) is lt in
    let same : net_at nets k ≡ net_at c.inputs k = ap (λ (all : List NetId). net_at all k) is in
    record { few = few; same = same; net = subst (IsNet c) (sym same) (input_net c k sound few).0 }

pub record IsSeenLatch (c : Circuit) (latches : List Latch) (l : ℕ) : Type 0 where
  pub few : l < length c.latches
  pub same : latch_of latches l ≡ latch_of c.latches l
  pub net : IsNet c (latch_of latches l).to

pub latch_seen : (c : Circuit) (latches : List Latch) (l : ℕ) → IsNetlist c → latches ≡ c.latches → l < length latches → IsSeenLatch c latches l
latch_seen c latches l sound is lt =
    let few : l < length c.latches = subst (λ (all : List Latch). l < length all) is lt in
    let same : latch_of latches l ≡ latch_of c.latches l = ap (λ (all : List Latch). latch_of all l) is in
    let at = slice_get-get_or c.latches l (record { from = record { 0 = 0 }; to = record { 0 = 0 }; start = false }) few in
    let within = slice_get_within c.drivers (latch_of c.latches l).to.0 (FromLatch l) (sound.latches l (latch_of c.latches l) at) in
    record { few = few; same = same; net = subst (λ (each : Latch). IsNet c each.to) (sym same) within }

module _ (c : Circuit) (s : Stretch) (many : ℕ) (b : Beginning) (so : BeginsSo c s many b) where
  pub may_held : (frame j : ℕ) → frame ≤ s.last → j < length b.held.now → (x y : Bool) → held_passes b frame j x y ≡ false → MayGo s everything frame (held_of b.held.now j).net.0 x y
  may_held frame j le lt x y wrong =
      let found = other_value (held_at (held_of b.held.now j) (b.first + frame)) x y wrong in
      by_hold (held_of b.held.now j) found.0 le
      (subst (λ all. Contains all (held_of b.held.now j)) (sym so.held) (Contains-get_or b.held.now j (record { net = record { 0 = 0 }; from = 0; before = None; value = false }) lt))
      refl (ap (λ first. held_at (held_of b.held.now j) (first + frame)) so.first ∙ found.1) found.2
    where
      other_value : (value : Option Bool) (x y : Bool) → allows value x y ≡ false → (v : Bool) × (value ≡ Some v) × (x ≢ v)
      other_value None x y e = absurd (cc)
      other_value (Some true) true y e = absurd (cc)
      other_value (Some true) false y e = (true, refl, λ f. absurd (cc))
      other_value (Some false) true y e = (false, refl, λ f. absurd (cc))
      other_value (Some false) false y e = absurd (cc)

  pub may_silent : (frame j : ℕ) → frame ≤ s.last → j < length b.silent.now → (x y : Bool) → is_quiet frame b.until x y ≡ false → MayGo s everything frame (net_at b.silent.now j).0 x y
  may_silent frame j le lt x y wrong =
      by_silence (net_at b.silent.now j) le
      (subst (λ all. Contains all (net_at b.silent.now j)) (sym so.silent) (Contains-get_or b.silent.now j (record { 0 = 0 }) lt))
      refl (loud x y wrong)
    where
      early : nat_lt b.until frame ≡ false → frame ≤ s.until
      early e = elim (cases_lt b.until frame) as (λ _. frame ≤ s.until) [
        | inl late ↦ absurd (clash (nat_lt b.until frame) (lt-ltb b.until frame late) e)
        | inr within ↦ omega (arith, within, so.until)
      ]

      loud : (x y : Bool) → is_quiet frame b.until x y ≡ false → (x ≡ true) ⊎ ((y ≡ true) × (frame ≤ s.until))
      loud true y e = inl refl
      loud false true e = inr (refl, early e)
      loud false false e = absurd (cc)

  pub may_start : (l : ℕ) → l < length c.latches → (x y : Bool) → has (set_at b.starts.now l) x y ≡ false → MayGo s everything 0 (latch_of c.latches l).to.0 x y
  may_start l lt x y wrong =
      let at = slice_get-get_or c.latches l (record { from = record { 0 = 0 }; to = record { 0 = 0 }; start = false }) lt in
      by_start l (latch_of c.latches l) refl (subst (λ (each : Circuit). slice_get each.latches l ≡ Some (latch_of c.latches l)) (sym so.circuit) at) refl
      (so.start l (latch_of c.latches l) at x y ∙ wrong)

module _ (c : Circuit) (s : Stretch) (many : ℕ) (b : Beginning) (sound : IsNetlist c) (said : IsSaidOf c b) (so : BeginsSo c s many b) where
  site_of : (net : ℕ) → net < length c.drivers → s.region net ≡ slice_index_or b.sites.now net Intact
  site_of net lt = so.sites net (slice_index_or b.sites.now net Intact) (slice_get-get_or b.sites.now net Intact (omega (arith, lt, said.sites)))

  pub may_input : (frame k : ℕ) → frame ≤ s.last → k < length c.inputs → (x y : Bool) → input_passes c b k x y ≡ false → MayGo s everything frame (net_at c.inputs k).0 x y
  may_input frame k le lt x y wrong =
      let net = input_net c k sound lt in
      by_input k (net_at c.inputs k) le (subst (λ (each : Circuit). IsNet each (net_at c.inputs k)) (sym so.circuit) net.0)
      (subst (λ (each : Circuit). driver_at each (net_at c.inputs k).0 ≡ Input k) (sym so.circuit) net.1) refl
      (ap (λ site. may_show site x y) (site_of (net_at c.inputs k).0 net.0) ∙ wrong)

  -- ---- and what is left passes

  module _ (q : Sets) (done : (frame : ℕ) → frame < many → IsFrameDone c b frame q) (starts : AreStartsDone c b q) where
    passes_alone : (frame net : ℕ) (x y : Bool) → frame ≤ s.last → q frame net x y ≡ true → PassesAlone s frame net x y
    passes_alone frame net x y le there = record {
      input = λ k own is driver same. (
          let within : own.0 < length c.drivers = subst (λ (each : Circuit). IsNet each own) so.circuit is in
          let driven : driver_at c own.0 ≡ Input k = subst (λ (each : Circuit). driver_at each own.0 ≡ Input k) so.circuit driver in
          let at : slice_get c.inputs k ≡ Some (record { 0 = own.0 }) = subst (IsNetOf c own.0) driven (sound.nets own.0 within) in
          let few = slice_get_within c.inputs k (record { 0 = own.0 }) at in
          let both : Some (net_at c.inputs k) ≡ Some (record { 0 = own.0 }) = sym (slice_get-get_or c.inputs k (record { 0 = 0 }) few) ∙ at in
          let it : net_at c.inputs k ≡ record { 0 = own.0 } = cc in
          let here : (net_at c.inputs k).0 ≡ net = ap (λ (n : NetId). n.0) it ∙ same in
          ap (λ n. may_show (s.region n) x y) (sym here)
          ∙ ap (λ site. may_show site x y) (site_of (net_at c.inputs k).0 (input_net c k sound few).0)
          ∙ in_frame.inputs k few x y (subst (λ n. q frame n x y ≡ true) (sym here) there));
      held = subst (All (λ (h : Held). h.net.0 ≡ net → (value : Bool) → held_at h (s.first + frame) ≡ Some value → x ≡ value)) (sym so.held) (λ j d lt same value is. (
          let one : held_of b.held.now j ≡ get_or b.held.now j d = get_or_default b.held.now j (record { net = record { 0 = 0 }; from = 0; before = None; value = false }) d lt in
          let here : (held_of b.held.now j).net.0 ≡ net = ap (λ (h : Held). h.net.0) one ∙ same in
          let value_is : held_at (held_of b.held.now j) (b.first + frame) ≡ Some value =
          ap (λ (h : Held). held_at h (b.first + frame)) one ∙ ap (λ first. held_at (get_or b.held.now j d) (first + frame)) (sym so.first) ∙ is in
          equals value x y (subst (λ v. allows v x y ≡ true) value_is (in_frame.held j lt x y (subst (λ n. q frame n x y ≡ true) (sym here) there)))));
      silent = subst (All (λ (own : NetId). own.0 ≡ net → (x ≡ false) × (frame ≤ s.until → y ≡ false))) (sym so.silent) (λ j d lt same. (
          let one : net_at b.silent.now j ≡ get_or b.silent.now j d = get_or_default b.silent.now j (record { 0 = 0 }) d lt in
          let here : (net_at b.silent.now j).0 ≡ net = ap (λ (n : NetId). n.0) one ∙ same in
          quiet x y (in_frame.silent j lt x y (subst (λ n. q frame n x y ≡ true) (sym here) there))));
      start = λ l latch begins at same. (
          let there_at : slice_get c.latches l ≡ Some latch = subst (λ (each : Circuit). slice_get each.latches l ≡ Some latch) so.circuit at in
          let few = slice_get_within c.latches l latch there_at in
          let both : Some (latch_of c.latches l) ≡ Some latch = sym (slice_get-get_or c.latches l (record { from = record { 0 = 0 }; to = record { 0 = 0 }; start = false }) few) ∙ there_at in
          let it : latch_of c.latches l ≡ latch = cc in
          let here : (latch_of c.latches l).to.0 ≡ net = ap (λ (each : Latch). each.to.0) it ∙ same in
          so.start l latch there_at x y
          ∙ starts l few x y (subst (λ n. q 0 n x y ≡ true) (sym here) (subst (λ i. q i net x y ≡ true) begins there)));
    }
      where
        in_frame : IsFrameDone c b frame q
        in_frame = done frame (omega (arith, le, so.frames))

        equals : (value x y : Bool) → allows (Some value) x y ≡ true → x ≡ value
        equals true true y e = refl
        equals true false y e = absurd (cc)
        equals false true y e = absurd (cc)
        equals false false y e = refl

        late : frame ≤ s.until → nat_lt b.until frame ≡ true → ⊥
        late within e = elim (cases_lt b.until frame) as (λ _. ⊥) [
          | inl after ↦ omega (arith, after, within, so.until)
          | inr before ↦ clash (nat_lt b.until frame) e (le-ltb b.until frame before)
        ]

        quiet : (x y : Bool) → is_quiet frame b.until x y ≡ true → (x ≡ false) × (frame ≤ s.until → y ≡ false)
        quiet true y e = absurd (cc)
        quiet false false e = (refl, λ _. refl)
        quiet false true e = (refl, λ within. absurd (late within e))

    -- A SEARCH THAT HAS BEGUN goes on from all pairs
    pub begun_goes_on : (o : Ordered) (search : Search) → o.circuit ≡ c → IsFor o search → search.sets.frames ≡ many → sets_of search.sets ≡ q → IsBegun s search
        → ((p : ℕ) → p < search.waiting.bound → waits search.waiting p ≡ true) → GoesOn o s everything everything search
    begun_goes_on o search same fits frames sets begun all = record {
      frames = frames ∙ so.frames;
      going = record {
        circuit = so.circuit ∙ sym same;
        search = record {
          holds = still_holds s everything everything (sets_of search.sets) (λ golden faulty _ lie. lie) step;
          alone = λ frame net x y le there. passes_alone frame net x y le (subst (λ (r : Sets). r frame net x y ≡ true) sets there);
          tables = λ frame p k le lt driver none. absurd (clash (waits search.waiting (place_in o frame p)) (waiting frame p le (omega (arith, lt))) none);
          latches = λ frame l latch lt at none. absurd (clash (waits search.waiting (place_in o frame (length o.order + l)))
              (waiting frame (length o.order + l) (omega (arith, lt)) (omega (arith, few l latch at))) none);
        };
        by_rules = step;
        noted = begun.noted;
      };
    }
      where
        step : IsByRules s everything (sets_of search.sets)
        step = record {
          among = λ frame net x y _ _. refl;
          rightly = λ frame net x y le _ gone. begun.rightly frame net x y le gone;
        }

        few : (l : ℕ) (latch : Latch) → slice_get s.circuit.latches l ≡ Some latch → l < length o.circuit.latches
        few l latch at = slice_get_within o.circuit.latches l latch (subst (λ (each : Circuit). slice_get each.latches l ≡ Some latch) (so.circuit ∙ sym same) at)

        waiting : (frame place : ℕ) → frame ≤ s.last → place < places_of o → waits search.waiting (place_in o frame place) ≡ true
        waiting frame place le lt =
            let within = inside (places_of o) search.sets.frames frame place (omega (arith, le, frames, so.frames)) lt in
            all (place_in o frame place) (omega (arith, within, fits.bound))

-- at first all pairs are there
pub whole_begun : (s : Stretch) (search : Search) (many : ℕ) → many ≡ s.last + 1 → ((frame net : ℕ) (a b : Bool) → frame < many → sets_of search.sets frame net a b ≡ true)
    → search.empty ≡ false → IsBegun s search
whole_begun s search many frames all none = record {
  rightly = λ frame net a b le gone. absurd (clash (sets_of search.sets frame net a b) (all frame net a b (omega (arith, le, frames))) gone);
  noted = record {
    some = λ _ frame net le. (true, true, all frame net true true (omega (arith, le, frames)));
    none = λ e. absurd (clash search.empty e none);
  };
}
