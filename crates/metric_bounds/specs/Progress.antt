-- The text of `progress`. The metrics are those of ISO 26262-5:2018; the bounds of a campaign that isn't whole are this project's own rule.
use Rattle.std.specs.Prelude.{ℕ, ◌&&◌, not, Bool, true, false, List, [], ◌∷◌, ◌++◌, length, Option, Some, option_map, unwrap_or, if◌then◌else◌, nat_lt, codes, decimal}
use Rattle.std.specs.Option.{option_or}
use Rattle.metric_sums.specs.declared.Role.TheVariants.{Mechanism}
use Rattle.metric_sums.specs.declared.Fraction.{Fraction}
use Rattle.metric_sums.specs.declared.Sums.{Sums}
use Rattle.metric_sums.specs.Metrics.{lfm, lfm_target, meets, pmhf_target, spfm_permanent, spfm_target, spfm_transient, term}
use Rattle.metric_sums.specs.Totals.{AreConsistent}
use Rattle.fm_base.specs.Names.{Bytes}
use Rattle.fm_base.specs.Planes.{plane_of}
use Rattle.fm_base.specs.Text.{line}
use Rattle.fault_list.specs.Faults.{fault_number, is_used}
use Rattle.campaign_plan.specs.declared.Outcome.{Outcome}
use Rattle.campaign_plan.specs.Analysis.{Analysis, batch_count, fault_count, fault_numbered, part_numbered, part_of}
use Rattle.campaign_plan.specs.Batches.{Entry, total}
use Rattle.fmeda_report.specs.Report.{all_sums}
use Rattle.fmeda_report.specs.Words.{fraction_word}
use Rattle.result_merge.specs.Union.{found}
use Rattle.metric_bounds.specs.declared.EndSums.{EndSums}

-- how a target stands, by whether the worst and the best value meet it, where the metric has a value
abbrev pub stands : (worst best : Option Bool) → Bytes
stands (Some worst) (Some best) = if worst then codes "met" else if best then codes "open" else codes "missed"
stands _ _ = codes "-"

-- THE TEXT of `progress` for these kept batches: their rows of all, and their weight without class outside of that in all batches; the bounds
-- of the metrics, and of the term in units of 10^-6 FIT; and how the targets stand. AT BEST each fault of a missing batch is noticed, and none is
-- dangerous. AT WORST each is dangerous. MOST LATENT they are where a fault of a mechanism is neither, and each other one is dangerous: there the
-- latent fault metric is least. Where it has no value there, no planes have a latent fault, and each value is that at best
unfoldable pub progress : Analysis → List Entry → Bytes
progress p entries =
    let used : ℕ → ℕ → Bool = is_used (fault_count p) in
    let of_mechanism : ℕ → Bool = λ i. elim (part_numbered p (part_of p (fault_numbered p i))).role [ Mechanism ↦ true | _ ↦ false ] in
    let other : ℕ → ℕ → Bool = λ batch lane. used batch lane && not (of_mechanism (fault_number batch lane)) in
    let sums : (ℕ → Outcome) → Sums = λ missing. all_sums p (λ batch. unwrap_or (found entries batch) (missing batch)) in
    let best = sums (λ batch. record { danger = 0; noticed = plane_of (used batch) }) in
    let worst = sums (λ batch. record { danger = plane_of (used batch); noticed = 0 }) in
    let most_latent = sums (λ batch. record { danger = plane_of (other batch); noticed = 0 }) in
    let least_lfm = option_or (lfm most_latent) (lfm best) in
    let judged = total p entries in
    let asil = p.settings.asil in
    let share_line : Bytes → ℕ → ℕ → Bytes = λ label part whole. line (label ∷ decimal part ∷ codes "of" ∷ decimal whole ∷ []) in
    let bound_line : Bytes → Bytes → Bytes → Bytes = λ label from to. line (label ∷ codes "from" ∷ from ∷ codes "to" ∷ to ∷ []) in
    let target_line = λ (label : Bytes) (worst best : Option Bool). line (codes "target" ∷ label ∷ stands worst best ∷ []) in
    let meets_spfm : Option Fraction → Option Bool = option_map (meets (spfm_target asil)) in
    share_line (codes "rows") (length entries) (batch_count p)
    ++ share_line (codes "judged permanent") judged.permanent_all best.permanent_all
    ++ share_line (codes "judged transient") judged.transient_all best.transient_all
    ++ bound_line (codes "spfm permanent") (fraction_word (spfm_permanent worst)) (fraction_word (spfm_permanent best))
    ++ bound_line (codes "spfm transient") (fraction_word (spfm_transient worst)) (fraction_word (spfm_transient best))
    ++ bound_line (codes "lfm") (fraction_word least_lfm) (fraction_word (lfm best))
    ++ bound_line (codes "term") (decimal (term best)) (decimal (term worst))
    ++ target_line (codes "spfm permanent") (meets_spfm (spfm_permanent worst)) (meets_spfm (spfm_permanent best))
    ++ target_line (codes "spfm transient") (meets_spfm (spfm_transient worst)) (meets_spfm (spfm_transient best))
    ++ target_line (codes "lfm") (option_map (meets (lfm_target asil)) least_lfm) (option_map (meets (lfm_target asil)) (lfm best))
    ++ target_line (codes "term") (Some (nat_lt (term worst) (pmhf_target asil))) (Some (nat_lt (term best) (pmhf_target asil)))

-- ---- a shape of private steps

-- the sums at all ends are consistent
pub record AreAllConsistent (s : EndSums) : Type 0 where
  pub best : AreConsistent s.best
  pub worst : AreConsistent s.worst
  pub most_latent : AreConsistent s.most_latent
