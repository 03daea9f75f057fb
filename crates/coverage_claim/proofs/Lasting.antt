-- The largest sets that the rules leave as they are.
use Rattle.std.proofs.Common.{◌≡◌, ◌<◌, ◌≤◌, ℕ, suc, Bool, true, false, ◌&&◌, refl, ap₂, sym, ◌∙◌, arith}
use Rattle.std.specs.Prelude.{◌==◌, if◌then◌else◌}
use Rattle.std.proofs.lemmas.Bool.{eqb-true}
use Rattle.fm_base.specs.Lists.{same_bit}
use Rattle.fm_base.proofs.Tests.{and_both, both_true, clash, false_of, not_false, same_bit_true}
use Rattle.circuit.specs.declared.parts.Latch.{Latch}
use Rattle.circuit.specs.declared.parts.NetId.{NetId}
use Rattle.coverage_claim.specs.Claim.{lead_in, window_of}
use Rattle.coverage_claim.specs.Stretch.{AreSo, Stretch, Values}
use Rattle.coverage_claim.specs.Rules.{AgreeAt, AgreeOver, MayGo, Sets, by_table, by_latch, by_next, by_input, by_hold, by_silence, by_start, other_than}
use Rattle.coverage_claim.specs.Largest.{AreAmong, AreLeft, AreSettled, AreSupported, IsGone, IsRefuted, whole, gone}
use Rattle.coverage_claim.specs.Laws.{LargestHolds, LargestIsOne, OrderIsFree, SimplyProves}
use Rattle.coverage_claim.proofs.Ruling.{equal_of, not_had}

-- two bits of which each is 1 where the other is
same_of : (x y : Bool) → (x ≡ true → y ≡ true) → (y ≡ true → x ≡ true) → x ≡ y
same_of true true h k = refl
same_of true false h k = (let e : false ≡ true = h refl in absurd (cc))
same_of false true h k = (let e : false ≡ true = k refl in absurd (cc))
same_of false false h k = refl

-- ---- the pairs that two runs have, and no others

abbrev just : Values → Values → Sets
just golden faulty frame net a b = same_bit (golden frame net) a && same_bit (faulty frame net) b

just_these : (x y : Bool) → (same_bit x x && same_bit y y) ≡ true
just_these true true = refl
just_these true false = refl
just_these false true = refl
just_these false false = refl

just_is : (x y a b : Bool) → (same_bit x a && same_bit y b) ≡ true → (x ≡ a) × (y ≡ b)
just_is x y a b e = let parts = and_both (same_bit x a) (same_bit y b) e in (same_bit_true x a parts.0, same_bit_true y b parts.1)

just_supported : (s : Stretch) (golden faulty : Values) → AreSo s golden faulty → AreSupported s (just golden faulty)
just_supported s golden faulty so i n a b within e may =
    let is = just_is (golden i n) (faulty i n) a b e in
    not_had s (just golden faulty) i n a b may golden faulty so (λ j m less. just_these (golden j m) (faulty j m)) is.0 is.1

pub holds : LargestHolds
holds s bounds q largest golden faulty so lie frame net le =
    largest.largest (just golden faulty) among (just_supported s golden faulty so) frame net (golden frame net) (faulty frame net) le (just_these (golden frame net) (faulty frame net))
  where
    among : AreAmong s (just golden faulty) bounds
    among i n a b within e = let is = just_is (golden i n) (faulty i n) a b e in sym (ap₂ (bounds i n) is.0 is.1) ∙ lie i n within

pub one : LargestIsOne
one s bounds q r first second frame net a b le =
    same_of (q frame net a b) (r frame net a b) (second.largest q first.among first.supported frame net a b le)
    (first.largest r second.among second.supported frame net a b le)

-- ---- what may go from some sets may go from fewer pairs

agree_more : (s : Stretch) (q r : Sets) → AreAmong s r q → (frame k : ℕ) (own : NetId) (golden faulty : ℕ → Bool) → frame ≤ s.last → AgreeAt s r frame k own golden faulty
    → AgreeAt s q frame k own golden faulty
agree_more s q r among frame k own golden faulty le agree = record {
  own = among frame own.0 (golden own.0) (faulty own.0) le agree.own;
  reads = λ i d lt. among frame _ _ _ le (agree.reads i d lt);
  golden_is = agree.golden_is;
  faulty_may = agree.faulty_may;
}

over_more : (s : Stretch) (q r : Sets) → AreAmong s r q → (frame : ℕ) (latch : Latch) (a b x y : Bool) → frame < s.last → AgreeOver s r frame latch a b x y → AgreeOver s q frame latch a b x y
over_more s q r among frame latch a b x y lt agree = record {
  read = among frame latch.from.0 a b (omega (arith, lt)) agree.read;
  own = among (suc frame) latch.to.0 x y (omega (arith, lt)) agree.own;
  golden_is = agree.golden_is;
  faulty_may = agree.faulty_may;
}

pub may_more : (s : Stretch) (q r : Sets) → AreAmong s r q → (frame net : ℕ) (a b : Bool) → MayGo s q frame net a b → MayGo s r frame net a b
may_more s q r among frame net a b (by_table k own le is driver none) =
    by_table k own le is driver (λ golden faulty agree. none golden faulty (agree_more s q r among frame k own golden faulty le agree))
may_more s q r among frame net a b (by_latch before l latch next lt at own none) =
    by_latch before l latch next lt at own (λ golden faulty agree. none golden faulty (over_more s q r among before latch golden faulty a b lt agree))
may_more s q r among frame net a b (by_next l latch lt at own none) =
    by_next l latch lt at own (λ golden faulty agree. none golden faulty (over_more s q r among frame latch a b golden faulty lt agree))
may_more s q r among frame net a b (by_input k own le is driver same wrong) = by_input k own le is driver same wrong
may_more s q r among frame net a b (by_hold h value le has same is apart) = by_hold h value le has same is apart
may_more s q r among frame net a b (by_silence own le has same loud) = by_silence own le has same loud
may_more s q r among frame net a b (by_start l latch begins at same wrong) = by_start l latch begins at same wrong

-- supported sets stay among what a sequence of rules leaves
module _ (s : Stretch) (bounds r : Sets) (among : AreAmong s r bounds) (supported : AreSupported s r) where
  kept : (q : Sets) (frame net : ℕ) (a b : Bool) → MayGo s q frame net a b → AreAmong s r q → (i n : ℕ) (x y : Bool) → i ≤ s.last → r i n x y ≡ true
      → (c : Bool) → (i == frame && n == net) ≡ c → (if i == frame && n == net then other_than a b x y else true) ≡ true
  kept q frame net a b may before i n x y le e false c = rw c refl
  kept q frame net a b may before i n x y le e true c =
      let parts = and_both (i == frame) (n == net) c in
      let here : i ≡ frame = eqb-true i frame parts.0 in
      let there : n ≡ net = eqb-true n net parts.1 in
      let apart : other_than a b x y ≡ true = not_false (same_bit a x && same_bit b y) (false_of (same_bit a x && same_bit b y) (λ this.
      let is = just_is a b x y this in
      let own : r frame net a b ≡ true = ap₂ (r frame net) is.0 is.1 ∙ ap₂ (λ j m. r j m x y) (sym here) (sym there) ∙ e in
      supported frame net a b (omega (arith, here, le)) own (may_more s q r before frame net a b may))) in
      rw c apart

  stays : (q : Sets) → AreLeft s bounds q → AreAmong s r q
  stays _ whole i n a b le e = among i n a b le e
  stays _ (gone q frame net a b may rest) i n x y le e =
      both_true (q i n x y) (if i == frame && n == net then other_than a b x y else true) (stays q rest i n x y le e)
      (kept q frame net a b may (stays q rest) i n x y le e (i == frame && n == net) refl)

left_among : (s : Stretch) (bounds q : Sets) → AreLeft s bounds q → AreAmong s q bounds
left_among s bounds _ whole i n a b le e = e
left_among s bounds _ (gone q frame net x y may rest) i n a b le e =
    left_among s bounds q rest i n a b le (and_both (q i n a b) (if i == frame && n == net then other_than x y a b else true) e).0

pub free : OrderIsFree
free s bounds q left supported = record {
  among = left_among s bounds q left;
  supported = supported;
  largest = λ r among own. stays s bounds r among own q left;
}

-- ---- proved simply

-- sets from which no rule takes a pair away are settled
settled : (s : Stretch) (q : Sets) → AreSupported s q → AreSettled s q
settled s q supported frame net a b le e may = absurd (supported frame net a b le e may)

just_settled : (s : Stretch) (golden faulty : Values) → AreSo s golden faulty → AreSettled s (just golden faulty)
just_settled s golden faulty so = settled s (just golden faulty) (just_supported s golden faulty so)

-- the pair that two runs have at a place isn't gone, nor refuted
not_gone : (s : Stretch) (golden faulty : Values) → AreSo s golden faulty → (frame net : ℕ) → IsGone s frame net (golden frame net) (faulty frame net) → ⊥
not_gone s golden faulty so frame net none =
    clash (just golden faulty frame net (golden frame net) (faulty frame net)) (just_these (golden frame net) (faulty frame net))
    (none (just golden faulty) (just_settled s golden faulty so))

not_refuted : (s : Stretch) (golden faulty : Values) → AreSo s golden faulty → (frame net : ℕ) → IsRefuted s frame net (golden frame net) (faulty frame net) → ⊥
not_refuted s golden faulty so frame net refuted =
    clash (just golden faulty frame net (golden frame net) (faulty frame net)) (just_these (golden frame net) (faulty frame net))
    (refuted (just golden faulty) (just_settled s golden faulty so)
    (λ x y e. let is = just_is (golden frame net) (faulty frame net) x y e in (sym is.0, sym is.1)))

pub simply : SimplyProves
simply claim proof = record {
  goes_on = λ golden faulty so. record {
    same = λ i d lt. equal_of _ _ (λ e. not_refuted (window_of claim) golden faulty so 0 _ (proof.same i d lt _ _ e));
    again = λ l latch at. false_of _ (λ e. not_refuted (window_of claim) golden faulty so 0 latch.from.0 (proof.again l latch at _ _ e));
  };
  begins = λ golden faulty so l latch at. (
      by_bit (claim.apart latch (golden claim.from latch.to.0) (faulty claim.from latch.to.0))
      (λ e. not_gone (lead_in claim) golden faulty so claim.from latch.to.0 (proof.begins l latch at _ _ e)));
}
  where
    by_bit : (b : Bool) → (b ≡ false → ⊥) → b ≡ true
    by_bit true h = refl
    by_bit false h = absurd (h refl)
