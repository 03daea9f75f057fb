-- A pair that is tried.
use Rattle.std.proofs.Common.{◌≡◌, inl, inr, ℕ, ◌≤◌, Bool, true, false, ◌&&◌, Some, refl, ap₂, sym, subst, ◌∙◌}
use Rattle.std.specs.Prelude.{◌==◌, not, if◌then◌else◌}
use Rattle.std.proofs.lemmas.Bool.{cases_Bool, eqb-true}
use Rattle.fm_base.proofs.Tests.{and_both, both_true, clash, same_bit_true}
use Rattle.fm_base.specs.Lists.{same_bit}
use Rattle.coverage_claim.specs.Largest.{AreAmong, IsRefuted}
use Rattle.coverage_claim.specs.Rules.{LieIn, Sets, only, this_pair}
use Rattle.coverage_claim.specs.Stretch.{AreSo, Pairs, Stretch, Values}
use Rattle.fanout.specs.Readers.{Ordered}
use Rattle.place_set.specs.Places.{Places}
use Rattle.region_search.proofs.Narrowing.{cut_there}
use Rattle.region_search.proofs.Settling.{empty_holds_none, settles}
use Rattle.region_search.specs.BeginSteps.{allows}
use Rattle.region_search.specs.Going.{GoesOn, IsGoing, IsSomeEmpty, sets_of}
use Rattle.region_search.specs.Refute.{IsCopy, NoneHave, NoneHaveGolden}
use Rattle.region_search.specs.Settled.{AreSome, HoldsAll, NothingWaits, sets_in}
use Rattle.region_search.specs.declared.search.Search.{Search}

-- A COPY goes on as its original does
pub copy_goes_on : (o : Ordered) (s : Stretch) (bounds q : Sets) (new old : Search) → IsCopy new old → GoesOn o s bounds q old → GoesOn o s bounds q new
copy_goes_on o s bounds q new old copy goes = record {
  frames = copy.frames ∙ goes.frames;
  going = subst (λ (left : Sets). IsGoing o s bounds q left new.waiting new.empty) (sym sets)
      (subst (λ (waiting : Places). IsGoing o s bounds q (sets_of old.sets) waiting new.empty) (sym copy.waiting)
      (subst (λ empty. IsGoing o s bounds q (sets_of old.sets) old.waiting empty) (sym copy.empty) goes.going));
}
  where
    sets : sets_of new.sets ≡ sets_of old.sets
    sets = ap₂ sets_in copy.nets copy.items

-- a bit that is the same, and one that isn't the other
pub same : (u v : Bool) → v ≡ u → same_bit u v ≡ true
same true true e = refl
same true false e = absurd (cc)
same false true e = absurd (cc)
same false false e = refl

pub not_other : (u v : Bool) → (v ≡ not u → ⊥) → same_bit u v ≡ true
not_other true true e = refl
not_other true false e = absurd (e refl)
not_other false true e = absurd (e refl)
not_other false false e = refl

is_this : (a b x y : Bool) → x ≡ a → y ≡ b → this_pair a b x y ≡ true
is_this a b x y first second = both_true (same_bit a x) (same_bit b y) (same a x first) (same b y second)

module _ (s : Stretch) (bounds half left : Sets) (frame net : ℕ) (to : Pairs) (cut : (i n : ℕ) (x y : Bool) → left i n x y ≡ only half frame net to i n x y) where
  -- runs that have one of the pairs lie in what is left
  pub alone_holds : HoldsAll s bounds half → HoldsAll s (only bounds frame net to) left
  alone_holds holds golden faulty so lie i n le =
      cut i n (golden i n) (faulty i n)
      ∙ both_true (half i n (golden i n) (faulty i n)) (test i n) (holds golden faulty so (λ j m within. (parts j m within).0) i n le) (parts i n le).1
    where
      test : ℕ → ℕ → Bool
      test j m = if j == frame && m == net then to (golden j m) (faulty j m) else true

      parts : (j m : ℕ) → j ≤ s.last → (bounds j m (golden j m) (faulty j m) ≡ true) × (test j m ≡ true)
      parts j m within = and_both (bounds j m (golden j m) (faulty j m)) (test j m) (lie j m within)

-- runs of the bounds that have one of the pairs
pub lie_only : (s : Stretch) (bounds : Sets) (frame net : ℕ) (to : Pairs) (golden faulty : Values) → LieIn s bounds golden faulty → to (golden frame net) (faulty frame net) ≡ true
    → LieIn s (only bounds frame net to) golden faulty
lie_only s bounds frame net to golden faulty lie ok i n le =
    both_true (bounds i n (golden i n) (faulty i n)) (if i == frame && n == net then to (golden i n) (faulty i n) else true) (lie i n le) passes
  where
    passes : (if i == frame && n == net then to (golden i n) (faulty i n) else true) ≡ true
    passes = elim (cases_Bool (i == frame && n == net)) as (λ _. (if i == frame && n == net then to (golden i n) (faulty i n) else true) ≡ true) [
      | inr other ↦ rw other refl
      | inl it ↦ (
          let parts = and_both (i == frame) (n == net) it in
          let here : i ≡ frame = eqb-true i frame parts.0 in
          let there : n ≡ net = eqb-true n net parts.1 in
          rw it (ap₂ (λ j m. to (golden j m) (faulty j m)) here there ∙ ok))
    ]

module _ (s : Stretch) (bounds half left : Sets) (frame net : ℕ) (a b : Bool) (cut : (i n : ℕ) (x y : Bool) → left i n x y ≡ only half frame net (this_pair a b) i n x y) where
  -- SETS THAT ARE SETTLED show that the pair isn't refuted
  pub not_refuted : (last : Sets) → frame ≤ s.last → AreAmong s last left → NothingWaits s last → AreSome s last → ¬ (IsRefuted s frame net a b)
  not_refuted last le among nothing some refuted =
      let there = some frame net le in
      let is = it there.0 there.1 there.2 in
      clash (last frame net a b) (subst (λ x. last frame net x b ≡ true) is.0 (subst (λ y. last frame net there.0 y ≡ true) is.1 there.2))
      (refuted last (settles s last nothing some) it)
    where
      it : (x y : Bool) → last frame net x y ≡ true → (x ≡ a) × (y ≡ b)
      it x y e =
          let passes = (and_both (half frame net x y) (this_pair a b x y) (sym (cut_there half left frame net (this_pair a b) cut x y) ∙ among frame net x y le e)).1 in
          let both = and_both (same_bit a x) (same_bit b y) passes in
          (sym (same_bit_true a x both.0), sym (same_bit_true b y both.1))

-- AN EMPTY SET shows that no runs have one of the pairs
pub none_pass : (s : Stretch) (bounds last : Sets) (frame net : ℕ) (to : Pairs) → HoldsAll s (only bounds frame net to) last → IsSomeEmpty s last
    → (golden faulty : Values) → AreSo s golden faulty → LieIn s bounds golden faulty → to (golden frame net) (faulty frame net) ≡ true → ⊥
none_pass s bounds last frame net to holds empty golden faulty so lie ok =
    empty_holds_none s (only bounds frame net to) last holds empty.0 empty.1 empty.2 empty.3 golden faulty so (lie_only s bounds frame net to golden faulty lie ok)

pub none_have : (s : Stretch) (bounds last : Sets) (frame net : ℕ) (a b : Bool) → HoldsAll s (only bounds frame net (this_pair a b)) last → IsSomeEmpty s last
    → NoneHave s bounds frame net a b
none_have s bounds last frame net a b holds empty golden faulty so lie first second =
    none_pass s bounds last frame net (this_pair a b) holds empty golden faulty so lie (is_this a b (golden frame net) (faulty frame net) first second)

pub none_have_golden : (s : Stretch) (bounds last : Sets) (frame net : ℕ) (a : Bool) → HoldsAll s (only bounds frame net (allows (Some a))) last → IsSomeEmpty s last
    → NoneHaveGolden s bounds frame net a
none_have_golden s bounds last frame net a holds empty golden faulty so lie first =
    none_pass s bounds last frame net (allows (Some a)) holds empty golden faulty so lie (same a (golden frame net) first)

-- WHERE NO RUNS HAVE THE OTHER VALUE all lie in what is left with this one
pub kept_holds : (s : Stretch) (bounds half left : Sets) (frame net : ℕ) (a : Bool) (cut : (i n : ℕ) (x y : Bool) → left i n x y ≡ only half frame net (allows (Some a)) i n x y)
    → HoldsAll s bounds half → NoneHaveGolden s bounds frame net (not a) → HoldsAll s bounds left
kept_holds s bounds half left frame net a cut holds none golden faulty so lie =
    alone_holds s bounds half left frame net (allows (Some a)) cut holds golden faulty so
    (lie_only s bounds frame net (allows (Some a)) golden faulty lie (not_other a (golden frame net) (none golden faulty so lie)))
