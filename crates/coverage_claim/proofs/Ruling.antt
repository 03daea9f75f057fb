-- Each rule takes away pairs that no two runs have.
use Rattle.std.proofs.Common.{◌≡◌, inl, inr, ◌+◌, ◌≤◌, ℕ, suc, Bool, true, false, not, ◌&&◌, refl, ap, ap₂, sym, ◌∙◌, arith}
use Rattle.std.specs.Prelude.{◌==◌, Some, if◌then◌else◌}
use Rattle.std.proofs.lemmas.Bool.{cases_Bool, eqb-true}
use Rattle.std.proofs.lemmas.List.Elements.{All-contains}
use Rattle.fm_base.specs.Lists.{same_bit}
use Rattle.fm_base.proofs.Tests.{and_both, both_true, clash, false_of, not_false, same_bit_true}
use Rattle.circuit.specs.declared.parts.NetId.{NetId}
use Rattle.coverage_claim.specs.Claim.{lead_in, unequal, window_of}
use Rattle.coverage_claim.specs.Region.{may_show}
use Rattle.coverage_claim.specs.declared.parts.Held.{Held}
use Rattle.coverage_claim.specs.Stretch.{AreSo, Pairs, Stretch, Values, held_at}
use Rattle.coverage_claim.specs.Rules.{AreNarrowed, LieIn, MayGo, NoneFit, Sets, by_table, by_latch, by_next, by_input, by_hold, by_silence, by_start, empty, drop, split, whole, gone, refuted, only, other_than, this_pair}
use Rattle.coverage_claim.specs.Laws.{LeadInProves, NarrowingIsSound, RefutationsAreSound, RulesAreSound, RulesProve}

-- where the runs pass a test at one place, they lie in the sets that keep it there
keeps : (s : Stretch) (q : Sets) (frame net : ℕ) (test : Pairs) (golden faulty : Values) → LieIn s q golden faulty
    → (frame ≤ s.last → test (golden frame net) (faulty frame net) ≡ true) → LieIn s (only q frame net test) golden faulty
keeps s q frame net test golden faulty lie passes i n le =
    both_true (q i n (golden i n) (faulty i n)) (if i == frame && n == net then test (golden i n) (faulty i n) else true) (lie i n le)
    (by_case (i == frame && n == net) refl)
  where
    by_case : (b : Bool) → (i == frame && n == net) ≡ b → (if (i == frame && n == net) then test (golden i n) (faulty i n) else true) ≡ true
    by_case false e = rw e refl
    by_case true e =
        let parts = and_both (i == frame) (n == net) e in
        let here : i ≡ frame = eqb-true i frame parts.0 in
        let there : n ≡ net = eqb-true n net parts.1 in
        let own : test (golden frame net) (faulty frame net) ≡ true = passes (omega (arith, here, le)) in
        rw e (ap₂ (λ j m. test (golden j m) (faulty j m)) here there ∙ own)

-- a pair that the runs don't have at a place
not_this : (a b x y : Bool) → (x ≡ a → y ≡ b → ⊥) → other_than a b x y ≡ true
not_this a b x y none =
    not_false (same_bit a x && same_bit b y) (false_of (same_bit a x && same_bit b y)
    (λ e. let parts = and_both (same_bit a x) (same_bit b y) e in none (sym (same_bit_true a x parts.0)) (sym (same_bit_true b y parts.1))))

-- NO TWO RUNS THAT LIE IN THE SETS HAVE A PAIR THAT MAY GO
pub not_had : (s : Stretch) (q : Sets) (frame net : ℕ) (a b : Bool) → MayGo s q frame net a b → (golden faulty : Values) → AreSo s golden faulty
    → LieIn s q golden faulty → golden frame net ≡ a → faulty frame net ≡ b → ⊥
not_had s q frame net a b (by_table k own le is driver none) golden faulty so lie e f =
    let table = so.tables frame k own le is driver in
    none (golden frame) (faulty frame) (record {
      own = lie frame own.0 le;
      reads = λ i d lt. lie frame _ le;
      golden_is = table.0;
      faulty_may = table.1;
    }) e f
not_had s q frame net a b (by_latch before l latch next lt at own none) golden faulty so lie e f =
    let over = so.latches before l latch lt at in
    none (golden before latch.from.0) (faulty before latch.from.0) (record {
      read = lie before latch.from.0 (omega (arith, lt));
      own = ap₂ (q (suc before) latch.to.0) (sym there.0) (sym there.1) ∙ lie (suc before) latch.to.0 (omega (arith, lt));
      golden_is = sym there.0 ∙ over.0;
      faulty_may = ap (may_show (s.region latch.to.0) (faulty before latch.from.0)) (sym there.1) ∙ over.1;
    })
  where
    there : (golden (suc before) latch.to.0 ≡ a) × (faulty (suc before) latch.to.0 ≡ b)
    there = (ap₂ golden (sym next) own ∙ e, ap₂ faulty (sym next) own ∙ f)
not_had s q frame net a b (by_next l latch lt at own none) golden faulty so lie e f =
    let over = so.latches frame l latch lt at in
    none (golden (suc frame) latch.to.0) (faulty (suc frame) latch.to.0) (record {
      read = ap₂ (q frame latch.from.0) (sym here.0) (sym here.1) ∙ lie frame latch.from.0 (omega (arith, lt));
      own = lie (suc frame) latch.to.0 (omega (arith, lt));
      golden_is = over.0 ∙ here.0;
      faulty_may = ap (λ v. may_show (s.region latch.to.0) v (faulty (suc frame) latch.to.0)) (sym here.1) ∙ over.1;
    })
  where
    here : (golden frame latch.from.0 ≡ a) × (faulty frame latch.from.0 ≡ b)
    here = (ap (golden frame) own ∙ e, ap (faulty frame) own ∙ f)
not_had s q frame net a b (by_input k own le is driver same wrong) golden faulty so lie e f =
    let may = so.inputs frame k own le is driver in
    clash (may_show (s.region net) a b)
    (ap₂ (may_show (s.region net)) (sym e) (sym f) ∙ ap (λ n. may_show (s.region n) (golden frame n) (faulty frame n)) (sym same) ∙ may) wrong
not_had s q frame net a b (by_hold h value le has same is apart) golden faulty so lie e f =
    apart (sym e ∙ ap (golden frame) (sym same) ∙ All-contains (λ (x : Held). (v : Bool) → held_at x (s.first + frame) ≡ Some v → golden frame x.net.0 ≡ v) s.held h (so.held frame le) has value is)
not_had s q frame net a b (by_silence own le has same loud) golden faulty so lie e f =
    let both = All-contains (λ (m : NetId). (golden frame m.0 ≡ false) × (frame ≤ s.until → faulty frame m.0 ≡ false)) s.silent own (so.silent frame le) has in
    elim loud [
      | inl up ↦ clash (golden frame net) (e ∙ up) (ap (golden frame) (sym same) ∙ both.0)
      | inr up ↦ clash (faulty frame net) (f ∙ up.0) (ap (faulty frame) (sym same) ∙ both.1 up.1)
    ]
not_had s q frame net a b (by_start l latch begins at same wrong) golden faulty so lie e f =
    clash (s.start latch a b)
    (ap₂ (s.start latch) (sym e) (sym f) ∙ ap₂ (λ i n. s.start latch (golden i n) (faulty i n)) begins (sym same) ∙ so.start l latch at) wrong

pub sound : RulesAreSound
sound s q frame net a b may golden faulty so lie =
    keeps s q frame net (other_than a b) golden faulty lie
    (λ le. not_this a b (golden frame net) (faulty frame net) (not_had s q frame net a b may golden faulty so lie))

-- NONE FIT
pub none_fit : (s : Stretch) (golden faulty : Values) → AreSo s golden faulty → (q : Sets) → NoneFit s q → LieIn s q golden faulty → ⊥
none_fit s golden faulty so _ (empty q frame net le none) lie = clash _ (lie frame net le) (none (golden frame net) (faulty frame net))
none_fit s golden faulty so _ (drop q frame net a b may rest) lie =
    none_fit s golden faulty so (only q frame net (other_than a b)) rest (sound s q frame net a b may golden faulty so lie)
none_fit s golden faulty so _ (split q frame net test passing failing) lie =
    elim (cases_Bool (test (golden frame net) (faulty frame net))) [
      | inl e ↦ none_fit s golden faulty so (only q frame net test) passing (keeps s q frame net test golden faulty lie (λ le. e))
      | inr e ↦ none_fit s golden faulty so (only q frame net (λ x y. not (test x y))) failing
          (keeps s q frame net (λ x y. not (test x y)) golden faulty lie (λ le. not_false _ e))
    ]

pub refutations : RefutationsAreSound
refutations s q none golden faulty so = none_fit s golden faulty so q none

this_is : (x y : Bool) → this_pair x y x y ≡ true
this_is true true = refl
this_is true false = refl
this_is false true = refl
this_is false false = refl

pub narrowed : (s : Stretch) (golden faulty : Values) → AreSo s golden faulty → (q : Sets) → AreNarrowed s q → LieIn s q golden faulty
narrowed s golden faulty so _ whole = λ i n le. refl
narrowed s golden faulty so _ (gone r frame net a b may rest) = sound s r frame net a b may golden faulty so (narrowed s golden faulty so r rest)
narrowed s golden faulty so _ (refuted r frame net a b none rest) =
    let lie : LieIn s r golden faulty = narrowed s golden faulty so r rest in
    keeps s r frame net (other_than a b) golden faulty lie
    (λ le. not_this a b (golden frame net) (faulty frame net) (λ e f.
    none_fit s golden faulty so (only r frame net (this_pair a b)) none
    (keeps s r frame net (this_pair a b) golden faulty lie (λ also. ap₂ (this_pair a b) e f ∙ this_is a b))))

pub narrowing : NarrowingIsSound
narrowing s q left golden faulty so = narrowed s golden faulty so q left

-- WHAT IS PROVED BY RULES IS PROVED
pub equal_of : (x y : Bool) → (unequal x y ≡ true → ⊥) → x ≡ y
equal_of true true h = refl
equal_of true false h = absurd (h refl)
equal_of false true h = absurd (h refl)
equal_of false false h = refl

pub prove : RulesProve
prove claim rules = record {
  goes_on = λ golden faulty so.
      let lie : LieIn (window_of claim) rules.window golden faulty = narrowed (window_of claim) golden faulty so rules.window rules.window_narrowed in
      record {
        same = λ i d lt. equal_of _ _ (rules.same i d lt _ _ (lie 0 _ (omega arith)));
        again = λ l latch at. false_of _ (rules.again l latch at _ _ (lie 0 latch.from.0 (omega arith)));
      };
  begins = λ golden faulty so l latch at.
      let lie : LieIn (lead_in claim) rules.lead golden faulty = narrowed (lead_in claim) golden faulty so rules.lead rules.lead_narrowed in
      among _ (rules.begins l latch at _ _ (lie claim.from latch.to.0 (omega arith)));
}
  where
    among : (b : Bool) → (not b ≡ true → ⊥) → b ≡ true
    among true h = refl
    among false h = absurd (h refl)

pub lead_in_proves : LeadInProves
lead_in_proves claim lead left none golden faulty so frame lt i d within =
    equal_of _ _ (none frame lt i d within _ _ (narrowed (lead_in claim) golden faulty so lead left frame _ (omega (arith, lt))))
