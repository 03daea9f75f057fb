-- A step of the search at one net of a frame.
use Rattle.std.proofs.Common.{◌≡◌, ◌⊎◌, inl, inr, ℕ, ◌≤◌, Bool, true, false, ◌&&◌, refl, ap₂, sym, subst, ◌∙◌}
use Rattle.std.specs.Prelude.{◌==◌, ◌↔◌, IsTrue, if◌then◌else◌}
use Rattle.std.proofs.lemmas.Bool.{cases_Bool, eq-eqb, eqb-true}
use Rattle.fm_base.proofs.Tests.{and_both, and_not, clash, false_of}
use Rattle.coverage_claim.proofs.Lasting.{may_more}
use Rattle.coverage_claim.specs.Rules.{MayGo, Sets, only}
use Rattle.coverage_claim.specs.Stretch.{Pairs, Stretch}
use Rattle.fanout.specs.Readers.{Ordered}
use Rattle.pair_sets.specs.Pairs.{has}
use Rattle.pair_sets.specs.declared.pairs.PairSet.{PairSet}
use Rattle.place_set.specs.Places.{Places}
use Rattle.region_search.proofs.Cutting.{cuts_keep, cuts_keep_anew}
use Rattle.region_search.specs.Going.{IsGoing, IsNoted, IsSomeEmpty, MayAllGo}
use Rattle.region_search.specs.Settled.{HoldsAll}
use Rattle.region_search.specs.Search.{IsByRules, IsElsewhere, Wakes}

-- a set that has a pair, where it isn't empty
pub some_pair : (pairs : PairSet) (empty : Bool) → (IsTrue empty ↔ ((a b : Bool) → has pairs a b ≡ false)) → empty ≡ false → (a : Bool) × (b : Bool) × (has pairs a b ≡ true)
some_pair pairs empty is e = elim (cases_Bool (has pairs false false)) as (λ _. (a : Bool) × (b : Bool) × (has pairs a b ≡ true)) [
  | inl first ↦ (false, false, first)
  | inr zeros ↦ elim (cases_Bool (has pairs true false)) as (λ _. (a : Bool) × (b : Bool) × (has pairs a b ≡ true)) [
    | inl second ↦ (true, false, second)
    | inr golden ↦ elim (cases_Bool (has pairs false true)) as (λ _. (a : Bool) × (b : Bool) × (has pairs a b ≡ true)) [
      | inl third ↦ (false, true, third)
      | inr faulty ↦ elim (cases_Bool (has pairs true true)) as (λ _. (a : Bool) × (b : Bool) × (has pairs a b ≡ true)) [
        | inl last ↦ (true, true, last)
        | inr ones ↦ absurd (clash empty (is.1 (none zeros golden faulty ones)) e)
      ]
    ]
  ]
]
  where
    none : has pairs false false ≡ false → has pairs true false ≡ false → has pairs false true ≡ false → has pairs true true ≡ false → (a b : Bool) → has pairs a b ≡ false
    none zeros golden faulty ones false false = zeros
    none zeros golden faulty ones true false = golden
    none zeros golden faulty ones false true = faulty
    none zeros golden faulty ones true true = ones

pub no_pair : (pairs : PairSet) (empty : Bool) → (IsTrue empty ↔ ((a b : Bool) → has pairs a b ≡ false)) → empty ≡ true → (a b : Bool) → has pairs a b ≡ false
no_pair pairs empty is e = is.0 e

-- ---- a set that is cut

module _ (q left : Sets) (frame net : ℕ) (to : Pairs) (cut : (i n : ℕ) (a b : Bool) → left i n a b ≡ only q frame net to i n a b) where
  -- no pair is new
  pub cut_among : (i n : ℕ) (a b : Bool) → left i n a b ≡ true → q i n a b ≡ true
  cut_among i n a b e = (and_both (q i n a b) (if i == frame && n == net then to a b else true) (sym (cut i n a b) ∙ e)).0

  -- elsewhere all stay
  pub cut_other : (i n : ℕ) (a b : Bool) → (i == frame && n == net) ≡ false → left i n a b ≡ q i n a b
  cut_other i n a b e = cut i n a b ∙ rw e (and_true (q i n a b))
    where
      and_true : (x : Bool) → (x && true) ≡ x
      and_true true = refl
      and_true false = refl

  -- and there those that pass
  pub cut_there : (a b : Bool) → left frame net a b ≡ (q frame net a b && to a b)
  cut_there a b = cut frame net a b ∙ rw (eq-eqb frame frame refl, eq-eqb net net refl) refl

  pub cut_elsewhere : IsElsewhere frame net q left
  cut_elsewhere i n apart a b = cut_other i n a b (false_of (i == frame && n == net) (λ e.
      let parts = and_both (i == frame) (n == net) e in
      let here : i ≡ frame = eqb-true i frame parts.0 in
      let there : n ≡ net = eqb-true n net parts.1 in
      elim apart [
        | inl early ↦ early here
        | inr other ↦ other there
      ]))

-- and it is noted where none is left
module _ (s : Stretch) (now left : Sets) (empty next : Bool) (frame net : ℕ) (to : Pairs) (le : frame ≤ s.last)
    (cut : (i n : ℕ) (a b : Bool) → left i n a b ≡ only now frame net to i n a b) where
  pub noted_cut : IsNoted s now empty → (next ≡ false → (empty ≡ false) × ((a : Bool) × (b : Bool) × (left frame net a b ≡ true)))
      → (next ≡ true → (empty ≡ true) ⊎ ((a b : Bool) → left frame net a b ≡ false)) → IsNoted s left next
  noted_cut noted some none = record {
    some = λ e i n within. (let both = some e in each both.1 i n (noted.some both.0 i n within));
    none = λ e. elim (none e) as (λ _. IsSomeEmpty s left) [
      | inr here ↦ (frame, net, le, here)
      | inl before ↦ (
          let was = noted.none before in
          (was.0, was.1, was.2, λ a b. false_of (left was.0 was.1 a b) (λ f. clash (now was.0 was.1 a b) (cut_among now left frame net to cut was.0 was.1 a b f) (was.3 a b))))
    ];
  }
    where
      each : ((a : Bool) × (b : Bool) × (left frame net a b ≡ true)) → (i n : ℕ) → ((a : Bool) × (b : Bool) × (now i n a b ≡ true)) → (a : Bool) × (b : Bool) × (left i n a b ≡ true)
      each here i n old = elim (cases_Bool (i == frame && n == net)) as (λ _. (a : Bool) × (b : Bool) × (left i n a b ≡ true)) [
        | inr other ↦ (old.0, old.1, cut_other now left frame net to cut i n old.0 old.1 other ∙ old.2)
        | inl it ↦ (
            let parts = and_both (i == frame) (n == net) it in
            let first : i ≡ frame = eqb-true i frame parts.0 in
            let second : n ≡ net = eqb-true n net parts.1 in
            (here.0, here.1, ap₂ (λ j m. left j m here.0 here.1) first second ∙ here.2))
      ]

module _ (o : Ordered) (s : Stretch) (bounds q now left : Sets) (waiting more : Places) (empty next : Bool) (frame net : ℕ) (to : Pairs) (le : frame ≤ s.last)
    (cut : (i n : ℕ) (a b : Bool) → left i n a b ≡ only now frame net to i n a b) (going : IsGoing o s bounds q now waiting empty)
    (may : MayAllGo s q frame net (now frame net) to) where
  -- a pair that has just gone might go before
  gone_now : (i n : ℕ) (a b : Bool) → now i n a b ≡ true → left i n a b ≡ false → MayGo s q i n a b
  gone_now i n a b had gone = elim (cases_Bool (i == frame && n == net)) as (λ _. MayGo s q i n a b) [
    | inr other ↦ absurd (clash (left i n a b) (cut_other now left frame net to cut i n a b other ∙ had) gone)
    | inl it ↦ (
        let parts = and_both (i == frame) (n == net) it in
        let here : i ≡ frame = eqb-true i frame parts.0 in
        let there : n ≡ net = eqb-true n net parts.1 in
        subst (λ j. MayGo s q j n a b) (sym here)
        (subst (λ m. MayGo s q frame m a b) (sym there) (at_it (sym (ap₂ (λ j m. now j m a b) here there) ∙ had) (sym (ap₂ (λ j m. left j m a b) here there) ∙ gone))))
  ]
    where
      at_it : now frame net a b ≡ true → left frame net a b ≡ false → MayGo s q frame net a b
      at_it still out = may a b still (and_not (now frame net a b) (to a b) (sym (cut_there now left frame net to cut a b) ∙ out) still)

  from_now : IsByRules s now left
  from_now = record {
    among = λ i n a b _ e. cut_among now left frame net to cut i n a b e;
    rightly = λ i n a b within had gone. may_more s q now going.by_rules.among i n a b (gone_now i n a b had gone);
  }

  -- A STEP AT ONE NET goes on
  pub narrow_goes_on : Wakes o frame net waiting more → (next ≡ false → (empty ≡ false) × ((a : Bool) × (b : Bool) × (left frame net a b ≡ true)))
      → (next ≡ true → (empty ≡ true) ⊎ ((a b : Bool) → left frame net a b ≡ false)) → IsGoing o s bounds q left more next
  narrow_goes_on wakes some none = record {
    circuit = going.circuit;
    search = cuts_keep o s bounds now left waiting more frame net going.circuit going.search from_now (cut_elsewhere now left frame net to cut) wakes;
    by_rules = record {
      among = λ i n a b within e. going.by_rules.among i n a b within (cut_among now left frame net to cut i n a b e);
      rightly = λ i n a b within had gone. elim (cases_Bool (now i n a b)) as (λ _. MayGo s q i n a b) [
        | inr before ↦ going.by_rules.rightly i n a b within had before
        | inl still ↦ gone_now i n a b still gone
      ];
    };
    noted = noted_cut s now left empty next frame net to le cut going.noted some none;
  }

-- where no pair goes, none goes wrongly
pub nothing_goes : (s : Stretch) (q : Sets) → IsByRules s q q
nothing_goes s q = record {
  among = λ i n a b _ e. e;
  rightly = λ i n a b _ had gone. absurd (clash (q i n a b) had gone);
}

-- A SEARCH GOES ON FROM WHAT IS LEFT, with the runs that lie in others
pub goes_anew : (o : Ordered) (s : Stretch) (bounds others q left : Sets) (waiting : Places) (empty : Bool) → IsGoing o s bounds q left waiting empty → HoldsAll s others left
    → IsGoing o s others left left waiting empty
goes_anew o s bounds others q left waiting empty going holds = record {
  circuit = going.circuit;
  search = record { holds = holds; alone = going.search.alone; tables = going.search.tables; latches = going.search.latches };
  by_rules = nothing_goes s left;
  noted = going.noted;
}

module _ (o : Ordered) (s : Stretch) (bounds q now left : Sets) (waiting more : Places) (empty next : Bool) (frame net : ℕ) (to : Pairs) (le : frame ≤ s.last)
    (cut : (i n : ℕ) (a b : Bool) → left i n a b ≡ only now frame net to i n a b) (going : IsGoing o s bounds q now waiting empty) where
  -- and so it does after a step at one net, whatever goes
  pub narrow_anew : (others : Sets) → HoldsAll s others left → Wakes o frame net waiting more → (next ≡ false → (empty ≡ false) × ((a : Bool) × (b : Bool) × (left frame net a b ≡ true)))
      → (next ≡ true → (empty ≡ true) ⊎ ((a b : Bool) → left frame net a b ≡ false)) → IsGoing o s others left left more next
  narrow_anew others holds wakes some none = record {
    circuit = going.circuit;
    search = cuts_keep_anew o s bounds others now left waiting more frame net going.circuit going.search (λ i n a b _ e. cut_among now left frame net to cut i n a b e) holds
        (cut_elsewhere now left frame net to cut) wakes;
    by_rules = nothing_goes s left;
    noted = noted_cut s now left empty next frame net to le cut going.noted some none;
  }
