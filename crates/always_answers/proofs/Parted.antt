-- The answers to parts.
use Rattle.std.proofs.Common.{◌≡◌, ◌⊎◌, inl, inr, ℕ, ◌+◌, ◌<◌, ◌≤◌, Bool, true, false, not, ◌&&◌, List, [], ◌∷◌, ◌++◌, length, set, refl, ap, sym, subst, ◌∙◌, arith, get_or-set_same, get_or-set_other}
use Rattle.std.specs.Prelude.{◌==◌, All, nat_lt, slice_index, count_by, if◌then◌else◌}
use Rattle.std.proofs.lemmas.Bool.{cases_Bool, cases_lt, lt-ltb, ltb-true}
use Rattle.std.proofs.lemmas.List.{get_or_default, length_push}
use Rattle.fm_base.specs.Lists.{below, same_bit}
use Rattle.fm_base.proofs.Tests.{and_both, both_true, clash, false_of, not_true, not_false}
use Rattle.alarm_points.specs.PointsFile.{observed}
use Rattle.circuit.specs.Circuit.{Circuit}
use Rattle.circuit.specs.Order.{net_at}
use Rattle.circuit.specs.Value.{bit_at}
use Rattle.circuit.specs.declared.parts.NetId.{NetId}
use Rattle.claim_search.specs.Answer.{IsAnswer, IsNeverProvedSimply, IsProvedWithSome}
use Rattle.claim_search.specs.Hypotheses.{Contradict}
use Rattle.claim_search.specs.Question.{IsPosed}
use Rattle.claim_search.specs.Sites.{IsAt}
use Rattle.claim_search.specs.declared.answer.Answer.{Answer}
use Rattle.claim_search.specs.declared.answer.Answer.TheVariants.{Alarmed, Early, NoRuns, Open}
use Rattle.claim_search.specs.declared.hypotheses.Contradiction.TheVariants.{Held}
use Rattle.claim_search.specs.declared.question.Posed.{Posed}
use Rattle.coverage_claim.specs.Claim.{Claim}
use Rattle.coverage_claim.specs.Laws.{with_window}
use Rattle.coverage_claim.specs.declared.parts.Site.TheVariants.{Free, Intact}
use Rattle.reach.specs.Paths.{LeadsToSome}
use Rattle.always_answers.specs.Answers.{IsPartAnswer, SomeSeen, with_part}
use Rattle.always_answers.specs.Nets.{IsSeen, all_but, is_of_part}
use Rattle.always_answers.specs.PartSteps.{AreParts, ArePartsSoFar, IsPartSoFar, IsWholeSoFar, part_answer_at, with_shorter}
use Rattle.always_answers.specs.Steps.{ArePicked, is_picked}
use Rattle.always_answers.specs.declared.answers.PartAnswer.{PartAnswer}
use Rattle.always_answers.specs.declared.answers.PartAnswer.TheVariants.{Alone, NoPath, Whole}
use Rattle.always_answers.specs.declared.parts.Parts.{Parts}
use Rattle.always_answers.proofs.Picking.{in_push}

same_false : (b : Bool) → same_bit b false ≡ true → b ≡ false
same_false true e = absurd (clash true refl (sym e))
same_false false e = refl

same_true : (b : Bool) → same_bit b true ≡ true → b ≡ true
same_true b e = not_not_same b e
  where
    not_not_same : (x : Bool) → same_bit x true ≡ true → x ≡ true
    not_not_same true h = refl
    not_not_same false h = absurd (clash true refl (sym h))

module _ (c : Circuit) (p : Posed) (greatest : ℕ) (parts : Parts) (are : AreParts c p parts) (part : ℕ) (claim : Claim) (posed : IsPosed c (with_shorter p greatest) claim) where
  abbrev part_of : ℕ → ℕ
  part_of = slice_index parts.of_nets.now

  abbrev open_nets : List Bool
  open_nets = parts.open.now

  size : length claim.circuit.drivers ≡ length parts.of_nets.now
  size = ap (λ (each : Circuit). length each.drivers) posed.circuit ∙ sym are.count

  in_part : (n : ℕ) → n < length parts.of_nets.now → (part_of n == part) ≡ true → is_of_part claim.circuit part_of part n ≡ true
  in_part n lt own = both_true (nat_lt n (length claim.circuit.drivers)) (part_of n == part) (lt-ltb n (length claim.circuit.drivers) (omega (arith, lt, size))) own

  of_part : (n : ℕ) → is_of_part claim.circuit part_of part n ≡ true → (n < length parts.of_nets.now) × ((part_of n == part) ≡ true)
  of_part n e =
      let both = and_both (nat_lt n (length claim.circuit.drivers)) (part_of n == part) e in
      let lt = ltb-true n (length claim.circuit.drivers) both.0 in
      (omega (arith, lt, size), both.1)

  -- ---- paths

  leads_so : (one : NetId) → LeadsToSome c one p.observed.now → IsSeen claim one
  leads_so one leads = subst (λ (each : Circuit). LeadsToSome each one (observed claim.points)) (sym posed.circuit) (subst (LeadsToSome c one) (sym posed.observed) leads)

  led_so : (one : NetId) → IsSeen claim one → LeadsToSome c one p.observed.now
  led_so one leads = subst (LeadsToSome c one) posed.observed (subst (λ (each : Circuit). LeadsToSome each one (observed claim.points)) posed.circuit leads)

  marked_seen : (one : NetId) → is_of_part claim.circuit part_of part one.0 ≡ true → IsSeen claim one → bit_at parts.seen.now one.0 ≡ true
  marked_seen one own leads = by_mark (cases_Bool (bit_at parts.seen.now one.0))
    where
      by_mark : (bit_at parts.seen.now one.0 ≡ true) ⊎ (bit_at parts.seen.now one.0 ≡ false) → bit_at parts.seen.now one.0 ≡ true
      by_mark (inl has_it) = has_it
      by_mark (inr lacks) = absurd (are.seen.none one.0 (let lt = (of_part one.0 own).0 in omega (arith, lt, are.count)) lacks (led_so one leads))

  module _ (nets : List NetId) (picked : ArePicked (is_picked parts.of_nets.now part parts.seen.now true) (length parts.of_nets.now) nets) where
    found : (one : NetId) → is_of_part claim.circuit part_of part one.0 ≡ true → IsSeen claim one → (i : ℕ) × (i < length nets) × ((net_at nets i).0 ≡ one.0)
    found one own leads =
        let here = of_part one.0 own in
        picked.all one.0 here.0 (both_true (part_of one.0 == part) (same_bit (bit_at parts.seen.now one.0) true) here.1 (ap (λ b. same_bit b true) (marked_seen one own leads)))

    some_with : (i : ℕ) → i < length nets → (mark : Bool) → bit_at open_nets (net_at nets i).0 ≡ mark → SomeSeen claim part_of open_nets part mark
    some_with i lt mark e =
        let it = picked.each i lt in
        let both = and_both (part_of (net_at nets i).0 == part) (same_bit (bit_at parts.seen.now (net_at nets i).0) true) it.1 in
        (net_at nets i, in_part (net_at nets i).0 it.0 both.0, leads_so (net_at nets i) (are.seen.leads (net_at nets i).0 (same_true (bit_at parts.seen.now (net_at nets i).0) both.1)), e)

    -- NO PATH leads from any of them
    pub no_path : length nets ≡ 0 → IsPartAnswer claim part_of open_nets part NoPath
    no_path none one own leads = (let it = found one own leads in absurd (omega (arith, it.1, none)))

    -- ALL ARE OPEN ALONE
    pub all_open : 0 < length nets → ((i : ℕ) → i < length nets → bit_at open_nets (net_at nets i).0 ≡ true) → IsPartAnswer claim part_of open_nets part Alone
    all_open some all = inl (
      some_with 0 some true (all 0 some),
      λ other. (
          let it = found other.0 other.1 other.2 in
          clash (bit_at open_nets other.0.0) (sym (ap (bit_at open_nets) it.2) ∙ all it.0 it.1) other.3),
    )

    -- or some isn't
    pub some_covered : (i : ℕ) × (i < length nets) × (bit_at open_nets (net_at nets i).0 ≡ false) → SomeSeen claim part_of open_nets part false
    some_covered it = some_with it.0 it.1 false it.2

  -- ---- all of them but those that are open alone

  module _ (nets : List NetId) (picked : ArePicked (is_picked parts.of_nets.now part parts.open.now false) (length parts.of_nets.now) nets) where
    at_part : IsAt nets Free (all_but claim.circuit part_of part open_nets)
    at_part = record {
      there = λ i d lt. ap (λ (one : NetId). all_but claim.circuit part_of part open_nets one.0) (sym (get_or_default nets i (record { 0 = 0 }) d lt)) ∙ free_at i lt;
      elsewhere = λ n out. ap (λ b. if b then Free else Intact) (false_of (is_of_part claim.circuit part_of part n && not (bit_at open_nets n)) (λ passes. (
          let both = and_both (is_of_part claim.circuit part_of part n) (not (bit_at open_nets n)) passes in
          let here = of_part n both.0 in
          let it = picked.all n here.0 (both_true (part_of n == part) (same_bit (bit_at open_nets n) false) here.1 (ap (λ b. same_bit b false) (not_true (bit_at open_nets n) both.1))) in
          out it.0 (record { 0 = 0 }) it.1 it.2)));
    }
      where
        free_at : (i : ℕ) → i < length nets → all_but claim.circuit part_of part open_nets (net_at nets i).0 ≡ Free
        free_at i lt =
            let n = (net_at nets i).0 in
            let it = picked.each i lt in
            let both = and_both (part_of n == part) (same_bit (bit_at open_nets n) false) it.1 in
            ap (λ b. if b then Free else Intact) (both_true (is_of_part claim.circuit part_of part n) (not (bit_at open_nets n)) (in_part n it.0 both.0) (not_false (bit_at open_nets n) (same_false (bit_at open_nets n) both.1)))

    module _ (answer : Answer) (answered : (each : Claim) → IsPosed c p each → IsAt nets Free each.region → IsAnswer each answer) where
      in_window : IsAnswer (with_window (with_part claim part_of open_nets part) p.window) answer
      in_window = answered (with_window (with_part claim part_of open_nets part) p.window) (record {
        circuit = posed.circuit;
        observed = posed.observed;
        alarms = posed.alarms;
        held = posed.held;
        from = posed.from;
        window = refl;
        ahead = posed.ahead;
      }) at_part

      pub covered : (answer ≡ Alarmed) ⊎ (answer ≡ Early) → IsProvedWithSome (with_window (with_part claim part_of open_nets part) p.window)
      covered (inl is) = (subst (IsAnswer (with_window (with_part claim part_of open_nets part) p.window)) is in_window).0
      covered (inr is) = (subst (IsAnswer (with_window (with_part claim part_of open_nets part) p.window)) is in_window).0

      pub never : answer ≡ Open → IsNeverProvedSimply (with_window (with_part claim part_of open_nets part) p.window)
      never is = subst (IsAnswer (with_window (with_part claim part_of open_nets part) p.window)) is in_window

      pub none : answer ≡ NoRuns → Contradict claim Held
      none is = (all_but claim.circuit part_of part open_nets, subst (IsAnswer (with_window (with_part claim part_of open_nets part) p.window)) is in_window)

      -- with the greatest window
      pub never_widest : p.window ≡ greatest → SomeSeen claim part_of open_nets part false → answer ≡ Open → IsPartAnswer claim part_of open_nets part Alone
      never_widest same some is = inr (
        some,
        subst (IsAnswer (with_part claim part_of open_nets part)) is (answered (with_part claim part_of open_nets part) (record {
          circuit = posed.circuit;
          observed = posed.observed;
          alarms = posed.alarms;
          held = posed.held;
          from = posed.from;
          window = posed.window ∙ sym same;
          ahead = posed.ahead;
        }) at_part),
      )

      pub whole_widest : p.window ≡ greatest → SomeSeen claim part_of open_nets part false → (count : ℕ)
          → count ≡ count_by (λ n. (part_of n == part) && bit_at open_nets n) (below (length parts.of_nets.now))
          → (answer ≡ Alarmed) ⊎ (answer ≡ Early) → IsWholeSoFar claim part_of open_nets part count p.window 0
      whole_widest same some count is result = record {
        some = some;
        count_is = is ∙ ap (λ k. count_by (λ n. (part_of n == part) && bit_at open_nets n) (below k)) (sym size);
        found = inl (same ∙ sym posed.window);
        within = (let it = posed.window in omega (arith, it, same));
        proved = covered result;
        least = λ shorter lt tried. absurd (omega (arith, tried));
      }

      -- with a shorter one
      module _ (less : p.window < greatest) (count window : ℕ) (old : IsWholeSoFar claim part_of open_nets part count window p.window) (wide : greatest ≤ window) where
        pub not_shorter : answer ≡ Open → IsWholeSoFar claim part_of open_nets part count window (p.window + 1)
        not_shorter is = record {
          some = old.some;
          count_is = old.count_is;
          found = inl (let it = posed.window in let within = old.within in omega (arith, it, within, wide));
          within = old.within;
          proved = old.proved;
          least = λ shorter lt tried. (elim (cases_lt shorter p.window) as (λ _. IsNeverProvedSimply (with_window (with_part claim part_of open_nets part) shorter)) [
            | inl before ↦ old.least shorter lt before
            | inr last ↦ (let it : p.window ≡ shorter = omega (arith, last, tried) in
                subst (λ w. IsNeverProvedSimply (with_window (with_part claim part_of open_nets part) w)) it (never is))
          ]);
        }

        pub shorter_found : (answer ≡ Alarmed) ⊎ (answer ≡ Early) → IsWholeSoFar claim part_of open_nets part count p.window (p.window + 1)
        shorter_found is = record {
          some = old.some;
          count_is = old.count_is;
          found = inr (omega arith);
          within = (let it = posed.window in omega (arith, it, less));
          proved = covered is;
          least = λ shorter lt tried. old.least shorter (omega (arith, lt, less, wide)) lt;
        }

  -- a part whose window was found before
  pub found_before : (count window tried : ℕ) → IsWholeSoFar claim part_of open_nets part count window tried → window < greatest → IsWholeSoFar claim part_of open_nets part count window (tried + 1)
  found_before count window tried old less = record {
    some = old.some;
    count_is = old.count_is;
    found = inr (omega (arith, below_it));
    within = old.within;
    proved = old.proved;
    least = λ shorter lt more. old.least shorter lt (omega (arith, lt, below_it));
  }
    where
      below_it : window ≤ tried
      below_it = elim old.found as (λ _. window ≤ tried) [
        | inl all ↦ absurd (let it = posed.window in omega (arith, all, it, less))
        | inr early ↦ early
      ]

-- WHERE ALL WINDOWS WERE TRIED the least one is found
pub all_tried : (claim : Claim) (part_of : ℕ → ℕ) (open_nets : List Bool) (part tried : ℕ) (answer : PartAnswer) → tried ≡ claim.window
    → IsPartSoFar claim part_of open_nets part tried answer → IsPartAnswer claim part_of open_nets part answer
all_tried claim part_of open_nets part tried NoPath end so_far = so_far
all_tried claim part_of open_nets part tried Alone end so_far = so_far
all_tried claim part_of open_nets part tried (Whole count window) end so_far = record {
  some = so_far.some;
  count_is = so_far.count_is;
  within = so_far.within;
  proved = so_far.proved;
  least = λ shorter lt. so_far.least shorter lt (let within = so_far.within in omega (arith, lt, within, end));
}

-- ---- lists of answers

-- ONE PART MORE has its answer
pub parts_push : (c : Circuit) (p : Posed) (parts : Parts) (n tried : ℕ) (answers : List PartAnswer) (answer : PartAnswer) → ArePartsSoFar c p parts n tried answers
    → ((claim : Claim) → IsPosed c p claim → IsPartSoFar claim (slice_index parts.of_nets.now) parts.open.now n tried answer) → ArePartsSoFar c p parts (n + 1) tried (answers ++ answer ∷ [])
parts_push c p parts n tried answers answer first is = record {
  size = length_push answers answer ∙ ap (λ k. k + 1) first.size;
  each = λ claim posed i lt. in_push (λ j each. IsPartSoFar claim (slice_index parts.of_nets.now) parts.open.now j tried each) answers answer NoPath
      (λ j less. first.each claim posed j (let it = first.size in omega (arith, less, it)))
      (subst (λ k. IsPartSoFar claim (slice_index parts.of_nets.now) parts.open.now k tried answer) (sym first.size) (is claim posed)) i (let it = first.size in omega (arith, lt, it));
}

-- ONE WINDOW MORE is tried for the next part
pub set_tried : (P : ℕ → PartAnswer → Type 0) (answers : List PartAnswer) (n : ℕ) (answer : PartAnswer) → n < length answers
    → ((i : ℕ) → i < n → P i (part_answer_at answers i)) → P n answer → (i : ℕ) → i < n + 1 → P i (part_answer_at (set answers n answer) i)
set_tried P answers n answer lt before own i less = elim (cases_lt i n) as (λ _. P i (part_answer_at (set answers n answer) i)) [
  | inl early ↦ subst (P i) (sym (get_or-set_other answers n i answer NoPath (λ same. absurd (omega (arith, same, early))))) (before i early)
  | inr last ↦ (
      let it : n ≡ i = omega (arith, less, last) in
      subst (λ j. P j (part_answer_at (set answers n answer) j)) it (subst (P n) (sym (get_or-set_same answers n answer NoPath lt)) own))
]

-- the nets of a part are nets of the netlist
pub all_within : (test : ℕ → Bool) (count : ℕ) (nets : List NetId) → ArePicked test count nets → (bound : ℕ) → count ≡ bound → All (λ (one : NetId). one.0 < bound) nets
all_within test count nets are bound same i d lt =
    subst (λ (one : NetId). one.0 < bound) (get_or_default nets i (record { 0 = 0 }) d lt) (let it = (are.each i lt).0 in omega (arith, it, same))

-- ---- what is posed with another window

-- what is posed is posed with its own window
pub as_wide : (c : Circuit) (p : Posed) (claim : Claim) → IsPosed c p claim → IsPosed c (with_shorter p p.window) claim
as_wide c p claim posed = record {
  circuit = posed.circuit;
  observed = posed.observed;
  alarms = posed.alarms;
  held = posed.held;
  from = posed.from;
  window = posed.window;
  ahead = posed.ahead;
}
