-- The weights of the flips of each cycle, fault by fault.
use Rattle.std.proofs.Common.{◌≡◌, ℕ, ◌+◌, ◌≤◌, ◌<◌, Bool, true, false, List, length, refl, sym, ◌∙◌, arith}
use Rattle.std.specs.Prelude.{◌&&◌, ◌==◌, if◌then◌else◌}
use Rattle.std.proofs.lemmas.List.Sums.{sum_by-le-sum_by}
use Rattle.fm_base.specs.Lists.{below}
use Rattle.fm_base.proofs.SumsBelow.{sum_by-filter, where_true}
use Rattle.rate_table.specs.Table.{IsRateTable}
use Rattle.campaign_plan.specs.Analysis.{Analysis, fault_count, fault_numbered}
use Rattle.campaign_plan.specs.Weights.{weight}
use Rattle.coverage.specs.declared.Evidence.{Evidence}
use Rattle.coverage.specs.declared.Evidence.TheVariants.{Harm}
use Rattle.coverage.specs.Evidence.{is_kind}
use Rattle.coverage.specs.Upsets.{counts, is_flip_in}
use Rattle.metric_coverage.specs.declared.cycles.CycleWeights.{CycleWeights}
use Rattle.metric_coverage.specs.Cycles.{IsCycleLight, cycle_at, cycle_below, no_flip, with_flip}
use Rattle.metric_coverage.proofs.Weighing.{weight_light, weight_more}

nothing : (n : ℕ) → n + 0 ≡ n
nothing n = omega arith

-- a flip of this cycle whose part counts, or another fault
flip_cases : (here counted harms : Bool) (w : ℕ) (t : CycleWeights)
    → record { harm = t.harm + where_true (here && (counted && harms)) w; rate = t.rate + where_true (here && (counted && true)) w }
    ≡ (if here && counted then with_flip harms w t else t)
flip_cases false counted harms w t = λ j. record { harm = nothing t.harm j; rate = nothing t.rate j }
flip_cases true false harms w t = λ j. record { harm = nothing t.harm j; rate = nothing t.rate j }
flip_cases true true false w t = λ j. record { harm = nothing t.harm j; rate = t.rate + w }
flip_cases true true true w t = refl

-- those that pass a test are among all
part_of_all : (here counted harms : Bool) (w : ℕ) → where_true (here && (counted && harms)) w ≤ where_true (here && (counted && true)) w
part_of_all false counted harms w = omega arith
part_of_all true false harms w = omega arith
part_of_all true true false w = omega arith
part_of_all true true true w = omega arith

module _ (p : Analysis) (evidence : ℕ → Evidence) where
  -- no fault yet
  pub none_flipped : (cycle : ℕ) → no_flip ≡ cycle_below p evidence cycle 0
  unfolding below
  none_flipped cycle = refl

  -- one fault more
  pub one_more : (cycle i : ℕ) → cycle_below p evidence cycle (i + 1)
      ≡ (if is_flip_in cycle (fault_numbered p i) && counts p (fault_numbered p i)
      then with_flip (is_kind (evidence i) Harm) (weight p i) (cycle_below p evidence cycle i)
      else cycle_below p evidence cycle i)
  one_more cycle i =
      let mine : (ℕ → Bool) → ℕ → Bool = λ test m. is_flip_in cycle (fault_numbered p m) && (counts p (fault_numbered p m) && test m) in
      (λ j. record {
        harm = weight_more (mine (λ m. is_kind (evidence m) Harm)) (weight p) i j;
        rate = weight_more (mine (λ m. true)) (weight p) i j;
      })
      ∙ flip_cases (is_flip_in cycle (fault_numbered p i)) (counts p (fault_numbered p i)) (is_kind (evidence i) Harm) (weight p i) (cycle_below p evidence cycle i)

  -- they are light
  pub cycle_light : IsRateTable p.rates → (cycle n : ℕ) → n ≤ fault_count p → IsCycleLight (cycle_below p evidence cycle n)
  cycle_light table cycle n le =
      let mine : (ℕ → Bool) → ℕ → Bool = λ test m. is_flip_in cycle (fault_numbered p m) && (counts p (fault_numbered p m) && test m) in
      let harmful : ℕ → Bool = mine (λ m. is_kind (evidence m) Harm) in
      let all : ℕ → Bool = mine (λ m. true) in
      record {
        part = omega (
          arith,
          sum_by-filter harmful (weight p) (below n),
          sum_by-filter all (weight p) (below n),
          sum_by-le-sum_by (λ m. where_true (harmful m) (weight p m)) (λ m. where_true (all m) (weight p m)) (below n)
              (λ m. part_of_all (is_flip_in cycle (fault_numbered p m)) (counts p (fault_numbered p m)) (is_kind (evidence m) Harm) (weight p m)),
        );
        rate = weight_light p table all n le;
      }

  -- a flip is added to its cycle, and the others stay
  pub flip_added : (i cycle : ℕ) (old new : List CycleWeights) (harms : Bool) (w : ℕ)
      → ((k : ℕ) → (cycle == k) ≡ (is_flip_in k (fault_numbered p i) && counts p (fault_numbered p i)))
      → harms ≡ is_kind (evidence i) Harm → w ≡ weight p i
      → ((k : ℕ) → k < length old → cycle_at old k ≡ cycle_below p evidence k i) → length new ≡ length old
      → ((k : ℕ) → k < length new → cycle_at new k ≡ (if cycle == k then with_flip harms w (cycle_at old k) else cycle_at old k))
      → (k : ℕ) → k < length new → cycle_at new k ≡ cycle_below p evidence k (i + 1)
  flip_added i cycle old new harms w told is weighs before size changed k lt =
      let was : cycle_at old k ≡ cycle_below p evidence k i = before k (omega (arith, lt, size)) in
      changed k lt ∙ (λ j. if told k j then with_flip (is j) (weighs j) (was j) else was j) ∙ sym (one_more k i)

  -- another fault adds nothing
  pub nothing_added : (i : ℕ) (now : List CycleWeights)
      → ((k : ℕ) → false ≡ (is_flip_in k (fault_numbered p i) && counts p (fault_numbered p i)))
      → ((k : ℕ) → k < length now → cycle_at now k ≡ cycle_below p evidence k i)
      → (k : ℕ) → k < length now → cycle_at now k ≡ cycle_below p evidence k (i + 1)
  nothing_added i now told before k lt =
      before k lt
      ∙ (λ j. if told k j then with_flip (is_kind (evidence i) Harm) (weight p i) (cycle_below p evidence k i) else cycle_below p evidence k i)
      ∙ sym (one_more k i)
