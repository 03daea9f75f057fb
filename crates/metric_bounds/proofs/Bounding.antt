-- The bounds hold, and are reached.
use Rattle.std.proofs.Common.{◌≡◌, ◌∙◌, ap, sym, subst, refl, ℕ, zero, suc, ◌+◌, ◌-◌, ◌*◌, ◌<◌, ◌≤◌, List, arith}
use Rattle.std.specs.Prelude.{Option, Some, None, unwrap_or}
use Rattle.std.specs.Option.{option_or}
use Rattle.metric_sums.specs.declared.Fraction.{Fraction}
use Rattle.metric_sums.specs.declared.Sums.{Sums}
use Rattle.metric_sums.specs.Metrics.{lfm, spfm_permanent, spfm_transient, term}
use Rattle.campaign_plan.proofs.Alone.{sums_of_faults}
use Rattle.campaign_plan.specs.Analysis.{Analysis, fault_count}
use Rattle.campaign_plan.specs.Batches.{Entry, class_of_fault}
use Rattle.campaign_plan.specs.Laws.{fault_share}
use Rattle.fmeda_report.specs.Report.{all_sums}
use Rattle.result_file.specs.RowPlanes.{Planes}
use Rattle.metric_bounds.specs.declared.End.{End}
use Rattle.metric_bounds.specs.declared.End.TheVariants.{Best, Worst, MostLatent}
use Rattle.metric_bounds.specs.declared.EndSums.{EndSums}
use Rattle.metric_bounds.specs.Missing.{AgreeWith, planes_when_missing, planes_at_end}
use Rattle.metric_bounds.specs.Bounds.{end_sums, lfm_ends}
use Rattle.metric_bounds.specs.Steps.{spfm_permanent_ends, spfm_transient_ends}
use Rattle.metric_bounds.specs.Laws.{BoundsHold, IsBetween, IsReached}
use Rattle.metric_bounds.proofs.Comparing.{Compared, subst_four, sums_compared}
use Rattle.metric_bounds.proofs.Ratios.{fraction_is, fraction_there, lost_more, more_left, most_lost}
use Rattle.metric_bounds.proofs.Sharing.{fault_compared}

-- ---- the sums over all batches

compared : (p : Analysis) (entries : List Entry) (planes : Planes) → AgreeWith entries planes
    → (moved : ℕ) × Compared (end_sums p entries).best (end_sums p entries).worst (end_sums p entries).most_latent (all_sums p planes) moved
compared p entries planes agree =
    let at : End → ℕ → Sums = λ end. fault_share p (class_of_fault p (planes_at_end p entries end)) in
    let own : ℕ → Sums = fault_share p (class_of_fault p planes) in
    let all = sums_compared (at Best) (at Worst) (at MostLatent) own (fault_count p) (λ i lt. fault_compared p i entries planes agree lt) in (
      all.0,
      subst_four (λ b w m s. Compared b w m s all.0)
          (sym (sums_of_faults p (planes_at_end p entries Best))) (sym (sums_of_faults p (planes_at_end p entries Worst)))
          (sym (sums_of_faults p (planes_at_end p entries MostLatent))) (sym (sums_of_faults p planes)) all.1,
    )

-- ---- each metric between its ends

module _ (e : EndSums) (s : Sums) (moved : ℕ) (are : Compared e.best e.worst e.most_latent s moved) where
  pub permanent_between : (value : Fraction) → spfm_permanent s ≡ Some value → IsBetween (spfm_permanent_ends e) value
  permanent_between value is =
      let q = fraction_is (s.permanent_all - s.permanent_danger) s.permanent_all value is in
      let best : 0 < e.best.permanent_all = omega (arith, q.some, are.all_best) in
      let worst : 0 < e.worst.permanent_all = omega (arith, q.some, are.all_worst) in
      subst (IsBetween (spfm_permanent_ends e)) (sym q.is) (record {
        least = record { num = e.worst.permanent_all - e.worst.permanent_danger; den = e.worst.permanent_all };
        greatest = record { num = e.best.permanent_all - e.best.permanent_danger; den = e.best.permanent_all };
        from = fraction_there _ _ worst;
        to = fraction_there _ _ best;
        above = more_left e.worst.permanent_all e.worst.permanent_danger s.permanent_all s.permanent_danger
            (lost_more e.worst.permanent_all e.worst.permanent_danger s.permanent_all s.permanent_danger are.danger_worst (omega (arith, are.all_worst)));
        below = more_left s.permanent_all s.permanent_danger e.best.permanent_all e.best.permanent_danger
            (lost_more s.permanent_all s.permanent_danger e.best.permanent_all e.best.permanent_danger are.danger_best (omega (arith, are.all_best)));
      })

  pub transient_between : (value : Fraction) → spfm_transient s ≡ Some value → IsBetween (spfm_transient_ends e) value
  transient_between value is =
      let q = fraction_is (s.transient_all - s.transient_danger) s.transient_all value is in
      let best : 0 < e.best.transient_all = omega (arith, q.some, are.transient_best) in
      let worst : 0 < e.worst.transient_all = omega (arith, q.some, are.transient_worst) in
      subst (IsBetween (spfm_transient_ends e)) (sym q.is) (record {
        least = record { num = e.worst.transient_all - e.worst.transient_danger; den = e.worst.transient_all };
        greatest = record { num = e.best.transient_all - e.best.transient_danger; den = e.best.transient_all };
        from = fraction_there _ _ worst;
        to = fraction_there _ _ best;
        above = more_left e.worst.transient_all e.worst.transient_danger s.transient_all s.transient_danger
            (lost_more e.worst.transient_all e.worst.transient_danger s.transient_all s.transient_danger are.upset_worst (omega (arith, are.transient_worst)));
        below = more_left s.transient_all s.transient_danger e.best.transient_all e.best.transient_danger
            (lost_more s.transient_all s.transient_danger e.best.transient_all e.best.transient_danger are.upset_best (omega (arith, are.transient_best)));
      })

  -- what isn't dangerous, by these planes, at best and most latent
  abbrev rest : ℕ
  rest = s.permanent_all - s.permanent_danger

  abbrev rest_best : ℕ
  rest_best = e.best.permanent_all - e.best.permanent_danger

  abbrev rest_most : ℕ
  rest_most = e.most_latent.permanent_all - e.most_latent.permanent_danger

  grows : rest ≤ rest_best
  grows = omega (arith, are.danger_best, are.all_best)

  room : rest_most ≤ rest + moved
  room = omega (arith, are.danger_most, are.all_most)

  fits : s.latent ≤ rest
  fits = omega (arith, are.apart)

  fits_most : e.most_latent.latent ≤ rest_most
  fits_most = omega (arith, are.apart_most)

  latent_below : (rest - s.latent) * rest_best ≤ (rest_best - e.best.latent) * rest
  latent_below = more_left rest s.latent rest_best e.best.latent (lost_more rest s.latent rest_best e.best.latent are.latent_best grows)

  latent_above : (rest_most - e.most_latent.latent) * rest ≤ (rest - s.latent) * rest_most
  latent_above = more_left rest_most e.most_latent.latent rest s.latent (most_lost rest s.latent rest_most e.most_latent.latent moved fits are.latent_most room)

  -- where no planes have a latent fault, the value is that at best
  none_latent : rest_most ≡ 0 → (rest_best - e.best.latent) * rest ≤ (rest - s.latent) * rest_best
  none_latent none =
      let no : s.latent ≡ 0 = omega (arith, none, fits_most, are.latent_most) in
      more_left rest_best e.best.latent rest s.latent (rw no (omega arith))

  pub lfm_between : (value : Fraction) → lfm s ≡ Some value → IsBetween (lfm_ends e) value
  lfm_between value is =
      let q = fraction_is (rest - s.latent) rest value is in
      let best : 0 < rest_best = (let some = q.some in omega (arith, some, grows)) in
      let to : lfm e.best ≡ Some (record { num = rest_best - e.best.latent; den = rest_best }) = fraction_there _ _ best in
      subst (IsBetween (lfm_ends e)) (sym q.is) (by_most rest_most refl to)
    where
      by_most : (n : ℕ) → rest_most ≡ n → lfm e.best ≡ Some (record { num = rest_best - e.best.latent; den = rest_best })
          → IsBetween (lfm_ends e) (record { num = rest - s.latent; den = rest })
      by_most zero none to =
          let gone : lfm e.most_latent ≡ None = rw none refl in
          record {
            least = record { num = rest_best - e.best.latent; den = rest_best };
            greatest = record { num = rest_best - e.best.latent; den = rest_best };
            from = ap (λ o. option_or o (lfm e.best)) gone ∙ to;
            to = to;
            above = none_latent none;
            below = latent_below;
          }
      by_most (suc n) some to =
          let there : lfm e.most_latent ≡ Some (record { num = rest_most - e.most_latent.latent; den = rest_most }) = fraction_there _ _ (omega (arith, some)) in
          record {
            least = record { num = rest_most - e.most_latent.latent; den = rest_most };
            greatest = record { num = rest_best - e.best.latent; den = rest_best };
            from = ap (λ o. option_or o (lfm e.best)) there;
            to = to;
            above = latent_above;
            below = latent_below;
          }

  pub term_above : term e.best ≤ term s
  term_above = omega (arith, are.danger_best, are.upset_best)

  pub term_below : term s ≤ term e.worst
  term_below = omega (arith, are.danger_worst, are.upset_worst)

-- ---- the ends are reached

module _ (p : Analysis) (entries : List Entry) where
  at_end : (end : End) → AgreeWith entries (planes_at_end p entries end)
  at_end end batch own e = ap (λ o. unwrap_or o (planes_when_missing p end batch)) e

  reached : {X : Type 0} (metric : Sums → X) (end : End) → IsReached p entries metric (metric (all_sums p (planes_at_end p entries end)))
  reached metric end = (planes_at_end p entries end, at_end end, refl)

  lfm_reached : IsReached p entries lfm (option_or (lfm (end_sums p entries).most_latent) (lfm (end_sums p entries).best))
  lfm_reached = by_value (lfm (end_sums p entries).most_latent) refl
    where
      by_value : (o : Option Fraction) → lfm (end_sums p entries).most_latent ≡ o → IsReached p entries lfm (option_or (lfm (end_sums p entries).most_latent) (lfm (end_sums p entries).best))
      by_value (Some q) is = (planes_at_end p entries MostLatent, at_end MostLatent, is ∙ sym (ap (λ o. option_or o (lfm (end_sums p entries).best)) is))
      by_value None is = (planes_at_end p entries Best, at_end Best, sym (ap (λ o. option_or o (lfm (end_sums p entries).best)) is))

pub bounds : BoundsHold
bounds p entries = record {
  spfm_permanent = record {
    between = λ planes agree value is. (let all = compared p entries planes agree in permanent_between (end_sums p entries) (all_sums p planes) all.0 all.1 value is);
    least = reached p entries spfm_permanent Worst;
    greatest = reached p entries spfm_permanent Best;
  };
  spfm_transient = record {
    between = λ planes agree value is. (let all = compared p entries planes agree in transient_between (end_sums p entries) (all_sums p planes) all.0 all.1 value is);
    least = reached p entries spfm_transient Worst;
    greatest = reached p entries spfm_transient Best;
  };
  lfm = record {
    between = λ planes agree value is. (let all = compared p entries planes agree in lfm_between (end_sums p entries) (all_sums p planes) all.0 all.1 value is);
    least = lfm_reached p entries;
    greatest = reached p entries lfm Best;
  };
  term = record {
    above = λ planes agree. (let all = compared p entries planes agree in term_above (end_sums p entries) (all_sums p planes) all.0 all.1);
    below = λ planes agree. (let all = compared p entries planes agree in term_below (end_sums p entries) (all_sums p planes) all.0 all.1);
    least = reached p entries term Best;
    greatest = reached p entries term Worst;
  };
}
