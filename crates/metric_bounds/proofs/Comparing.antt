-- The sums at the ends, compared with the sums of any planes.
use Rattle.std.proofs.Common.{◌≡◌, ◌∙◌, ap, sym, subst, refl, ℕ, zero, suc, ◌+◌, ◌<◌, ◌≤◌, arith}
use Rattle.metric_sums.specs.declared.Sums.{Sums}
use Rattle.metric_sums.specs.Totals.{plus, sums_by}
use Rattle.metric_sums.proofs.Running.{sums_by_push}
use Rattle.fm_base.specs.Lists.{below}
use Rattle.fm_base.proofs.Below.{below_push}

-- `moved` is the weight of faults that these planes have dangerous, and the most latent ones latent
pub record Compared (best worst most s : Sums) (moved : ℕ) : Type 0 where
  pub all_best : best.permanent_all ≡ s.permanent_all
  pub all_worst : worst.permanent_all ≡ s.permanent_all
  pub all_most : most.permanent_all ≡ s.permanent_all
  pub transient_best : best.transient_all ≡ s.transient_all
  pub transient_worst : worst.transient_all ≡ s.transient_all
  pub danger_best : best.permanent_danger ≤ s.permanent_danger
  pub danger_worst : s.permanent_danger ≤ worst.permanent_danger
  pub danger_most : s.permanent_danger ≤ most.permanent_danger + moved
  pub upset_best : best.transient_danger ≤ s.transient_danger
  pub upset_worst : s.transient_danger ≤ worst.transient_danger
  pub latent_best : best.latent ≤ s.latent
  pub latent_most : s.latent + moved ≤ most.latent
  pub apart : s.permanent_danger + s.latent ≤ s.permanent_all
  pub apart_best : best.permanent_danger + best.latent ≤ best.permanent_all
  pub apart_most : most.permanent_danger + most.latent ≤ most.permanent_all

pub subst_four : {X : Type 0} (P : X → X → X → X → Type 0) {a b c d a' b' c' d' : X} → a ≡ a' → b ≡ b' → c ≡ c' → d ≡ d' → P a b c d → P a' b' c' d'
subst_four P {a} {b} {c} {d} {a'} {b'} {c'} {d'} e f g h x =
    subst (λ v. P a' b' c' v) h (subst (λ v. P a' b' v d) g (subst (λ v. P a' v c d) f (subst (λ v. P v b c d) e x)))

plus_compared : (b w m s b' w' m' s' : Sums) (k k' : ℕ) → Compared b w m s k → Compared b' w' m' s' k'
    → Compared (plus b b') (plus w w') (plus m m') (plus s s') (k + k')
plus_compared b w m s b' w' m' s' k k' x y = record {
  all_best = omega (arith, x.all_best, y.all_best);
  all_worst = omega (arith, x.all_worst, y.all_worst);
  all_most = omega (arith, x.all_most, y.all_most);
  transient_best = omega (arith, x.transient_best, y.transient_best);
  transient_worst = omega (arith, x.transient_worst, y.transient_worst);
  danger_best = omega (arith, x.danger_best, y.danger_best);
  danger_worst = omega (arith, x.danger_worst, y.danger_worst);
  danger_most = omega (arith, x.danger_most, y.danger_most);
  upset_best = omega (arith, x.upset_best, y.upset_best);
  upset_worst = omega (arith, x.upset_worst, y.upset_worst);
  latent_best = omega (arith, x.latent_best, y.latent_best);
  latent_most = omega (arith, x.latent_most, y.latent_most);
  apart = omega (arith, x.apart, y.apart);
  apart_best = omega (arith, x.apart_best, y.apart_best);
  apart_most = omega (arith, x.apart_most, y.apart_most);
}

-- ---- over the faults below a bound

more_sums : (own : ℕ → Sums) (n : ℕ) → plus (sums_by own (below n)) (own n) ≡ sums_by own (below (suc n))
more_sums own n = sym (ap (sums_by own) (below_push n) ∙ sums_by_push own (below n) n)

module _ (best worst most own : ℕ → Sums) where
  none_compared : Compared (sums_by best (below 0)) (sums_by worst (below 0)) (sums_by most (below 0)) (sums_by own (below 0)) 0
  unfolding below
  none_compared = record {
    all_best = refl;
    all_worst = refl;
    all_most = refl;
    transient_best = refl;
    transient_worst = refl;
    danger_best = omega arith;
    danger_worst = omega arith;
    danger_most = omega arith;
    upset_best = omega arith;
    upset_worst = omega arith;
    latent_best = omega arith;
    latent_most = omega arith;
    apart = omega arith;
    apart_best = omega arith;
    apart_most = omega arith;
  }

  pub sums_compared : (n : ℕ) → ((i : ℕ) → i < n → (moved : ℕ) × Compared (best i) (worst i) (most i) (own i) moved)
      → (moved : ℕ) × Compared (sums_by best (below n)) (sums_by worst (below n)) (sums_by most (below n)) (sums_by own (below n)) moved
  sums_compared zero each = (0, none_compared)
  sums_compared (suc n) each =
      let before = sums_compared n (λ i lt. each i (omega (arith, lt))) in
      let here = each n (omega arith) in (
        before.0 + here.0,
        subst_four (λ b w m s. Compared b w m s (before.0 + here.0)) (more_sums best n) (more_sums worst n) (more_sums most n) (more_sums own n)
            (plus_compared _ _ _ _ _ _ _ _ before.0 here.0 before.1 here.1),
      )
