-- Which nets are shown.
use Rattle.std.proofs.Common.{◌≡◌, ◌≢◌, inl, inr, set, get_or-set_same, get_or-set_other, append-nil, ◌∙◌, ap, ap₂, sym, refl, ℕ, zero, suc, ◌+◌, ◌<◌, ◌≤◌, ◌^◌, Bool, true, false, not, cond, List, [], ◌∷◌, ◌++◌, length, map, get_or, add-one, arith}
use Rattle.std.specs.Prelude.{All, Option, filter, ◌||◌, if◌then◌else◌}
use Rattle.std.proofs.lemmas.List.Sums.{count_by-le-length, length-filter}
use Rattle.std.proofs.lemmas.List.FromFn.{length-range_with_len}
use Rattle.std.proofs.lemmas.List.{get_or-map, length-map}
use Rattle.std.proofs.Math.Bool.{beq}
use Rattle.std.proofs.lemmas.Bool.{cases_eq}
use Rattle.std.proofs.lemmas.List.Elements.{All-filter, filter-append}
use Rattle.circuit.specs.Circuit.{Circuit}
use Rattle.circuit.specs.Names.{net_name}
use Rattle.circuit.specs.declared.parts.Fault.{Fault}
use Rattle.circuit.specs.Trace.{trace}
use Rattle.alarm_points.proofs.Settled.{some_below-suc, some_below-zero}
use Rattle.fm_base.specs.Lists.{below, same_bit, some_below}
use Rattle.fm_base.specs.Names.{Bytes}
use Rattle.fm_base.proofs.Below.{below_push, below_small}
use Rattle.workload.specs.declared.run.Run.{Run}
use Rattle.wave_dump.specs.Asked.{changes_net, is_matched, is_shown, nets_shown, wants_all, wants_changed}
use Rattle.wave_dump.specs.Dump.{Waves, alone}
use Rattle.wave_dump.specs.Steps.{AreMarks, MarksShown, has_changed}

-- ---- marks

-- one number more
pub filter_next : (p : ℕ → Bool) (n : ℕ) → filter p (below (n + 1)) ≡ filter p (below n) ++ cond (p n) (n ∷ []) []
filter_next p n =
    ap (λ k. filter p (below k)) (add-one n) ∙ ap (filter p) (below_push n) ∙ filter-append p (below n) (n ∷ [])

pub filter_none : (p : ℕ → Bool) → [] ≡ filter p (below 0)
unfolding below
filter_none p = refl

-- tests that agree below a bound
filter_same : (f g : ℕ → Bool) (n : ℕ) → ((k : ℕ) → k < n → f k ≡ g k) → filter f (below n) ≡ filter g (below n)
filter_same f g zero same = sym (filter_none f) ∙ filter_none g
filter_same f g (suc n) same =
    let next : suc n ≡ n + 1 = omega arith in
    ap (λ k. filter f (below k)) next ∙ filter_next f n
    ∙ ap₂ (λ xs b. xs ++ cond b (n ∷ []) []) (filter_same f g n (λ k lt. same k (omega (arith, lt)))) (same n (omega arith))
    ∙ sym (ap (λ k. filter g (below k)) next ∙ filter_next g n)

-- the marked nets are those that are shown
pub marked_shown : (w : Waves) (word : Option Bytes) (marks : List Bool) → MarksShown w word marks
    → filter (λ n. get_or marks n false) (below (length marks)) ≡ nets_shown w.circuit w.run w.fault word
unfolding nets_shown
marked_shown w word marks are =
    ap (λ n. filter (λ k. get_or marks k false) (below n)) are.count
    ∙ filter_same (λ n. get_or marks n false) (is_shown w.circuit w.run w.fault word) (length w.circuit.drivers) are.each

pub changed_next : (w : Waves) (t net : ℕ) (other : Bool)
    → other ≡ not (same_bit (trace w.circuit (alone w.fault) w.run.vectors t net) (trace w.circuit [] w.run.vectors t net))
    → (has_changed w t net || other) ≡ has_changed w (t + 1) net
changed_next w t net other is =
    let other_at : ℕ → Bool = λ u. not (same_bit (trace w.circuit (alone w.fault) w.run.vectors u net) (trace w.circuit [] w.run.vectors u net)) in
    ap (λ b. has_changed w t net || b) is ∙ sym (ap (λ k. some_below k other_at) (add-one t) ∙ some_below-suc t other_at)

pub no_marks : (w : Waves) (marks : List Bool) → length w.circuit.drivers ≤ 2 ^ 18 → length marks ≡ length w.circuit.drivers
    → ((net : ℕ) → net < length w.circuit.drivers → get_or marks net false ≡ false) → AreMarks w 0 marks
no_marks w marks few count none = record {
  few = few;
  count = count;
  each = λ net lt. none net lt ∙ sym (some_below-zero (λ u. not (same_bit (trace w.circuit (alone w.fault) w.run.vectors u net) (trace w.circuit [] w.run.vectors u net))));
}

pub other_bits : (a b : Bool) → not (beq a b) ≡ not (same_bit a b)
other_bits true true = refl
other_bits true false = refl
other_bits false true = refl
other_bits false false = refl

-- ---- one mark

module _ (w : Waves) (t n : ℕ) where
  pub marked_before : has_changed w t n ≡ true → true ≡ has_changed w (t + 1) n
  marked_before e =
      ap (λ b. b || not (same_bit (trace w.circuit (alone w.fault) w.run.vectors t n) (trace w.circuit [] w.run.vectors t n))) (sym e)
      ∙ changed_next w t n _ refl

  pub marked_now : (b : Bool) → has_changed w t n ≡ false
      → b ≡ not (same_bit (trace w.circuit (alone w.fault) w.run.vectors t n) (trace w.circuit [] w.run.vectors t n)) → b ≡ has_changed w (t + 1) n
  marked_now b e is = ap (λ a. a || b) (sym e) ∙ changed_next w t n b is

module _ (f : ℕ → Bool) (old marks : List Bool) (n : ℕ) (v : Bool) where
  -- the marks before place n are new, and the others are as they were
  pub done_next : n < length marks → ((k : ℕ) → k < n → get_or marks k false ≡ f k) → v ≡ f n → (k : ℕ) → k < n + 1 → get_or (set marks n v) k false ≡ f k
  done_next within done here k lt =
      elim (cases_eq k n) [
        | inl same ↦ ap (λ j. get_or (set marks n v) j false) same ∙ get_or-set_same marks n v false within ∙ here ∙ ap f (sym same)
        | inr other ↦ get_or-set_other marks n k v false other ∙ done k (omega (arith, lt, other))
      ]

  pub rest_next : ((k : ℕ) → n ≤ k → get_or marks k false ≡ get_or old k false) → (k : ℕ) → n + 1 ≤ k → get_or (set marks n v) k false ≡ get_or old k false
  rest_next rest k le =
      let other : k ≢ n = omega (arith, le) in
      get_or-set_other marks n k v false other ∙ rest k (omega (arith, le))

-- ---- a pattern

pub matching_shown : (w : Waves) (word : Option Bytes) (marks : List Bool) → length w.circuit.drivers ≤ 2 ^ 18 → length w.circuit.names ≡ length w.circuit.drivers
    → wants_all w.fault word ≡ false → wants_changed w.fault word ≡ false → marks ≡ map (is_matched word) w.circuit.names → MarksShown w word marks
matching_shown w word marks few named no_all no_changed are = record {
  few = few;
  count = ap length are ∙ length-map w.circuit.names (is_matched word) ∙ named;
  each = λ net lt.
      ap (λ (ms : List Bool). get_or ms net false) are
      ∙ get_or-map (is_matched word) w.circuit.names net [] false (omega (arith, lt, named))
      ∙ sym (
      ap (λ b. if b then true else if wants_changed w.fault word then changes_net w.circuit w.run w.fault net else is_matched word (net_name w.circuit net)) no_all
      ∙ ap (λ b. if b then changes_net w.circuit w.run w.fault net else is_matched word (net_name w.circuit net)) no_changed
      );
}

-- one place more of the marked ones
pub marked_push : (marks : List Bool) (n : ℕ) (nets next : List ℕ) → nets ≡ filter (λ k. get_or marks k false) (below n) → get_or marks n false ≡ true
    → next ≡ nets ++ n ∷ [] → next ≡ filter (λ k. get_or marks k false) (below (n + 1))
marked_push marks n nets next before here e =
    e ∙ ap₂ (λ ns b. ns ++ cond b (n ∷ []) []) before (sym here) ∙ sym (filter_next (λ k. get_or marks k false) n)

pub marked_skip : (marks : List Bool) (n : ℕ) (nets : List ℕ) → nets ≡ filter (λ k. get_or marks k false) (below n) → get_or marks n false ≡ false
    → nets ≡ filter (λ k. get_or marks k false) (below (n + 1))
marked_skip marks n nets before here =
    before ∙ sym (append-nil (filter (λ k. get_or marks k false) (below n)))
    ∙ ap (λ b. filter (λ k. get_or marks k false) (below n) ++ cond b (n ∷ []) []) (sym here) ∙ sym (filter_next (λ k. get_or marks k false) n)

-- ---- the nets that are shown are nets

pub no_nets : (n : ℕ) → All (λ k. k < n) []
no_nets n i d lt = absurd (omega (arith, lt))

pub shown_within : (c : Circuit) (run : Run) (fault : Option Fault) (word : Option Bytes) → All (λ n. n < length c.drivers) (nets_shown c run fault word)
unfolding nets_shown
shown_within c run fault word =
    All-filter (is_shown c run fault word) (λ n. n < length c.drivers) (below (length c.drivers)) (below_small (length c.drivers))

pub shown_few : (c : Circuit) (run : Run) (fault : Option Fault) (word : Option Bytes) → length (nets_shown c run fault word) ≤ length c.drivers
unfolding nets_shown below
shown_few c run fault word =
    omega (
      arith,
      length-filter (is_shown c run fault word) (below (length c.drivers)),
      count_by-le-length (is_shown c run fault word) (below (length c.drivers)),
      length-range_with_len 0 (length c.drivers),
    )
