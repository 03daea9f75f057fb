-- What a fault adds to the sums, at the ends and by any planes.
use Rattle.std.proofs.Common.{◌≡◌, ◌∙◌, ap, sym, refl, ℕ, ◌/◌, ◌%◌, ◌<◌, Bool, true, false, List, arith}
use Rattle.std.specs.Prelude.{Option, Some, None, not, ◌&&◌, unwrap_or}
use Rattle.circuit.specs.Effects.{is_permanent}
use Rattle.metric_sums.specs.declared.Role.{Role}
use Rattle.metric_sums.specs.declared.Role.TheVariants.{Mission, Mechanism, Other}
use Rattle.metric_sums.specs.declared.Class.{Class}
use Rattle.metric_sums.specs.declared.Class.TheVariants.{Safe, Detected, Residual, SinglePoint, Latent, Outside}
use Rattle.metric_sums.specs.declared.Sums.{Sums}
use Rattle.metric_sums.specs.Classes.{class_of, is_mechanism}
use Rattle.metric_sums.specs.Totals.{share_of}
use Rattle.fm_base.specs.Planes.{bit, plane_below}
use Rattle.fm_base.proofs.Bits.{bit-plane_of}
use Rattle.fault_list.specs.Faults.{fault_number, is_used, used_plane}
use Rattle.campaign_plan.specs.declared.Outcome.{Outcome}
use Rattle.campaign_plan.specs.Analysis.{Analysis, fault_count, fault_numbered, part_numbered, part_of}
use Rattle.campaign_plan.specs.Batches.{Entry, class_in_lane, class_of_fault, class_with}
use Rattle.campaign_plan.specs.Laws.{fault_share}
use Rattle.campaign_plan.specs.Weights.{weight}
use Rattle.result_file.specs.RowPlanes.{Planes}
use Rattle.result_merge.specs.Union.{found}
use Rattle.metric_bounds.specs.declared.End.{End}
use Rattle.metric_bounds.specs.declared.End.TheVariants.{Best, Worst, MostLatent}
use Rattle.metric_bounds.specs.Missing.{AgreeWith, planes_when_missing, planes_at_end}
use Rattle.metric_bounds.specs.Steps.{is_on_mechanism}
use Rattle.metric_bounds.proofs.Comparing.{Compared, subst_four}

-- ---- whether a mechanism covers the part is no matter to the sums

pub same_share : (d n : Bool) (role : Role) (covered permanent : Bool) (w : ℕ)
    → share_of (class_of d n role false permanent) permanent w ≡ share_of (class_of d n role covered permanent) permanent w
same_share d n role false permanent w = refl
same_share d n Other true permanent w = refl
same_share true n Mission true permanent w = refl
same_share true n Mechanism true permanent w = refl
same_share false n Mission true permanent w = refl
same_share false n Mechanism true permanent w = refl

-- ---- a fault of a missing batch

pub missing_compared : (d n : Bool) (role : Role) (permanent : Bool) (w : ℕ) → (moved : ℕ) × Compared
    (share_of (class_of false true role false permanent) permanent w) (share_of (class_of true false role false permanent) permanent w)
    (share_of (class_of (not (is_mechanism role)) false role false permanent) permanent w) (share_of (class_of d n role false permanent) permanent w) moved
missing_compared d n Other true w = (
  0,
  record {
    all_best = refl;
    all_worst = refl;
    all_most = refl;
    transient_best = refl;
    transient_worst = refl;
    danger_best = omega arith;
    danger_worst = omega arith;
    danger_most = omega arith;
    upset_best = omega arith;
    upset_worst = omega arith;
    latent_best = omega arith;
    latent_most = omega arith;
    apart = omega arith;
    apart_best = omega arith;
    apart_most = omega arith;
  },
)
missing_compared true n Mission true w = (
  0,
  record {
    all_best = refl;
    all_worst = refl;
    all_most = refl;
    transient_best = refl;
    transient_worst = refl;
    danger_best = omega arith;
    danger_worst = omega arith;
    danger_most = omega arith;
    upset_best = omega arith;
    upset_worst = omega arith;
    latent_best = omega arith;
    latent_most = omega arith;
    apart = omega arith;
    apart_best = omega arith;
    apart_most = omega arith;
  },
)
missing_compared false true Mission true w = (
  0,
  record {
    all_best = refl;
    all_worst = refl;
    all_most = refl;
    transient_best = refl;
    transient_worst = refl;
    danger_best = omega arith;
    danger_worst = omega arith;
    danger_most = omega arith;
    upset_best = omega arith;
    upset_worst = omega arith;
    latent_best = omega arith;
    latent_most = omega arith;
    apart = omega arith;
    apart_best = omega arith;
    apart_most = omega arith;
  },
)
missing_compared false false Mission true w = (
  0,
  record {
    all_best = refl;
    all_worst = refl;
    all_most = refl;
    transient_best = refl;
    transient_worst = refl;
    danger_best = omega arith;
    danger_worst = omega arith;
    danger_most = omega arith;
    upset_best = omega arith;
    upset_worst = omega arith;
    latent_best = omega arith;
    latent_most = omega arith;
    apart = omega arith;
    apart_best = omega arith;
    apart_most = omega arith;
  },
)
missing_compared true n Mechanism true w = (
  w,
  record {
    all_best = refl;
    all_worst = refl;
    all_most = refl;
    transient_best = refl;
    transient_worst = refl;
    danger_best = omega arith;
    danger_worst = omega arith;
    danger_most = omega arith;
    upset_best = omega arith;
    upset_worst = omega arith;
    latent_best = omega arith;
    latent_most = omega arith;
    apart = omega arith;
    apart_best = omega arith;
    apart_most = omega arith;
  },
)
missing_compared false true Mechanism true w = (
  0,
  record {
    all_best = refl;
    all_worst = refl;
    all_most = refl;
    transient_best = refl;
    transient_worst = refl;
    danger_best = omega arith;
    danger_worst = omega arith;
    danger_most = omega arith;
    upset_best = omega arith;
    upset_worst = omega arith;
    latent_best = omega arith;
    latent_most = omega arith;
    apart = omega arith;
    apart_best = omega arith;
    apart_most = omega arith;
  },
)
missing_compared false false Mechanism true w = (
  0,
  record {
    all_best = refl;
    all_worst = refl;
    all_most = refl;
    transient_best = refl;
    transient_worst = refl;
    danger_best = omega arith;
    danger_worst = omega arith;
    danger_most = omega arith;
    upset_best = omega arith;
    upset_worst = omega arith;
    latent_best = omega arith;
    latent_most = omega arith;
    apart = omega arith;
    apart_best = omega arith;
    apart_most = omega arith;
  },
)
missing_compared d n Other false w = (
  0,
  record {
    all_best = refl;
    all_worst = refl;
    all_most = refl;
    transient_best = refl;
    transient_worst = refl;
    danger_best = omega arith;
    danger_worst = omega arith;
    danger_most = omega arith;
    upset_best = omega arith;
    upset_worst = omega arith;
    latent_best = omega arith;
    latent_most = omega arith;
    apart = omega arith;
    apart_best = omega arith;
    apart_most = omega arith;
  },
)
missing_compared true n Mission false w = (
  0,
  record {
    all_best = refl;
    all_worst = refl;
    all_most = refl;
    transient_best = refl;
    transient_worst = refl;
    danger_best = omega arith;
    danger_worst = omega arith;
    danger_most = omega arith;
    upset_best = omega arith;
    upset_worst = omega arith;
    latent_best = omega arith;
    latent_most = omega arith;
    apart = omega arith;
    apart_best = omega arith;
    apart_most = omega arith;
  },
)
missing_compared false true Mission false w = (
  0,
  record {
    all_best = refl;
    all_worst = refl;
    all_most = refl;
    transient_best = refl;
    transient_worst = refl;
    danger_best = omega arith;
    danger_worst = omega arith;
    danger_most = omega arith;
    upset_best = omega arith;
    upset_worst = omega arith;
    latent_best = omega arith;
    latent_most = omega arith;
    apart = omega arith;
    apart_best = omega arith;
    apart_most = omega arith;
  },
)
missing_compared false false Mission false w = (
  0,
  record {
    all_best = refl;
    all_worst = refl;
    all_most = refl;
    transient_best = refl;
    transient_worst = refl;
    danger_best = omega arith;
    danger_worst = omega arith;
    danger_most = omega arith;
    upset_best = omega arith;
    upset_worst = omega arith;
    latent_best = omega arith;
    latent_most = omega arith;
    apart = omega arith;
    apart_best = omega arith;
    apart_most = omega arith;
  },
)
missing_compared true n Mechanism false w = (
  0,
  record {
    all_best = refl;
    all_worst = refl;
    all_most = refl;
    transient_best = refl;
    transient_worst = refl;
    danger_best = omega arith;
    danger_worst = omega arith;
    danger_most = omega arith;
    upset_best = omega arith;
    upset_worst = omega arith;
    latent_best = omega arith;
    latent_most = omega arith;
    apart = omega arith;
    apart_best = omega arith;
    apart_most = omega arith;
  },
)
missing_compared false true Mechanism false w = (
  0,
  record {
    all_best = refl;
    all_worst = refl;
    all_most = refl;
    transient_best = refl;
    transient_worst = refl;
    danger_best = omega arith;
    danger_worst = omega arith;
    danger_most = omega arith;
    upset_best = omega arith;
    upset_worst = omega arith;
    latent_best = omega arith;
    latent_most = omega arith;
    apart = omega arith;
    apart_best = omega arith;
    apart_most = omega arith;
  },
)
missing_compared false false Mechanism false w = (
  0,
  record {
    all_best = refl;
    all_worst = refl;
    all_most = refl;
    transient_best = refl;
    transient_worst = refl;
    danger_best = omega arith;
    danger_worst = omega arith;
    danger_most = omega arith;
    upset_best = omega arith;
    upset_worst = omega arith;
    latent_best = omega arith;
    latent_most = omega arith;
    apart = omega arith;
    apart_best = omega arith;
    apart_most = omega arith;
  },
)

-- ---- a fault of a kept batch

pub kept_compared : (class : Class) (permanent : Bool) (w : ℕ)
    → Compared (share_of class permanent w) (share_of class permanent w) (share_of class permanent w) (share_of class permanent w) 0
kept_compared Safe true w = record {
  all_best = refl;
  all_worst = refl;
  all_most = refl;
  transient_best = refl;
  transient_worst = refl;
  danger_best = omega arith;
  danger_worst = omega arith;
  danger_most = omega arith;
  upset_best = omega arith;
  upset_worst = omega arith;
  latent_best = omega arith;
  latent_most = omega arith;
  apart = omega arith;
  apart_best = omega arith;
  apart_most = omega arith;
}
kept_compared Safe false w = record {
  all_best = refl;
  all_worst = refl;
  all_most = refl;
  transient_best = refl;
  transient_worst = refl;
  danger_best = omega arith;
  danger_worst = omega arith;
  danger_most = omega arith;
  upset_best = omega arith;
  upset_worst = omega arith;
  latent_best = omega arith;
  latent_most = omega arith;
  apart = omega arith;
  apart_best = omega arith;
  apart_most = omega arith;
}
kept_compared Detected true w = record {
  all_best = refl;
  all_worst = refl;
  all_most = refl;
  transient_best = refl;
  transient_worst = refl;
  danger_best = omega arith;
  danger_worst = omega arith;
  danger_most = omega arith;
  upset_best = omega arith;
  upset_worst = omega arith;
  latent_best = omega arith;
  latent_most = omega arith;
  apart = omega arith;
  apart_best = omega arith;
  apart_most = omega arith;
}
kept_compared Detected false w = record {
  all_best = refl;
  all_worst = refl;
  all_most = refl;
  transient_best = refl;
  transient_worst = refl;
  danger_best = omega arith;
  danger_worst = omega arith;
  danger_most = omega arith;
  upset_best = omega arith;
  upset_worst = omega arith;
  latent_best = omega arith;
  latent_most = omega arith;
  apart = omega arith;
  apart_best = omega arith;
  apart_most = omega arith;
}
kept_compared Residual true w = record {
  all_best = refl;
  all_worst = refl;
  all_most = refl;
  transient_best = refl;
  transient_worst = refl;
  danger_best = omega arith;
  danger_worst = omega arith;
  danger_most = omega arith;
  upset_best = omega arith;
  upset_worst = omega arith;
  latent_best = omega arith;
  latent_most = omega arith;
  apart = omega arith;
  apart_best = omega arith;
  apart_most = omega arith;
}
kept_compared Residual false w = record {
  all_best = refl;
  all_worst = refl;
  all_most = refl;
  transient_best = refl;
  transient_worst = refl;
  danger_best = omega arith;
  danger_worst = omega arith;
  danger_most = omega arith;
  upset_best = omega arith;
  upset_worst = omega arith;
  latent_best = omega arith;
  latent_most = omega arith;
  apart = omega arith;
  apart_best = omega arith;
  apart_most = omega arith;
}
kept_compared SinglePoint true w = record {
  all_best = refl;
  all_worst = refl;
  all_most = refl;
  transient_best = refl;
  transient_worst = refl;
  danger_best = omega arith;
  danger_worst = omega arith;
  danger_most = omega arith;
  upset_best = omega arith;
  upset_worst = omega arith;
  latent_best = omega arith;
  latent_most = omega arith;
  apart = omega arith;
  apart_best = omega arith;
  apart_most = omega arith;
}
kept_compared SinglePoint false w = record {
  all_best = refl;
  all_worst = refl;
  all_most = refl;
  transient_best = refl;
  transient_worst = refl;
  danger_best = omega arith;
  danger_worst = omega arith;
  danger_most = omega arith;
  upset_best = omega arith;
  upset_worst = omega arith;
  latent_best = omega arith;
  latent_most = omega arith;
  apart = omega arith;
  apart_best = omega arith;
  apart_most = omega arith;
}
kept_compared Latent true w = record {
  all_best = refl;
  all_worst = refl;
  all_most = refl;
  transient_best = refl;
  transient_worst = refl;
  danger_best = omega arith;
  danger_worst = omega arith;
  danger_most = omega arith;
  upset_best = omega arith;
  upset_worst = omega arith;
  latent_best = omega arith;
  latent_most = omega arith;
  apart = omega arith;
  apart_best = omega arith;
  apart_most = omega arith;
}
kept_compared Latent false w = record {
  all_best = refl;
  all_worst = refl;
  all_most = refl;
  transient_best = refl;
  transient_worst = refl;
  danger_best = omega arith;
  danger_worst = omega arith;
  danger_most = omega arith;
  upset_best = omega arith;
  upset_worst = omega arith;
  latent_best = omega arith;
  latent_most = omega arith;
  apart = omega arith;
  apart_best = omega arith;
  apart_most = omega arith;
}
kept_compared Outside true w = record {
  all_best = refl;
  all_worst = refl;
  all_most = refl;
  transient_best = refl;
  transient_worst = refl;
  danger_best = omega arith;
  danger_worst = omega arith;
  danger_most = omega arith;
  upset_best = omega arith;
  upset_worst = omega arith;
  latent_best = omega arith;
  latent_most = omega arith;
  apart = omega arith;
  apart_best = omega arith;
  apart_most = omega arith;
}
kept_compared Outside false w = record {
  all_best = refl;
  all_worst = refl;
  all_most = refl;
  transient_best = refl;
  transient_worst = refl;
  danger_best = omega arith;
  danger_worst = omega arith;
  danger_most = omega arith;
  upset_best = omega arith;
  upset_worst = omega arith;
  latent_best = omega arith;
  latent_most = omega arith;
  apart = omega arith;
  apart_best = omega arith;
  apart_most = omega arith;
}

-- ---- the planes at the ends

no_bit : (lane : ℕ) → lane < 64 → bit 0 lane ≡ false
unfolding plane_below
no_bit lane lt = bit-plane_of (λ _. false) lane lt

module _ (p : Analysis) (i : ℕ) where
  -- what the fault adds, where its batch has these planes
  abbrev share_by : Outcome → Sums
  share_by own = share_of (class_in_lane p (i / 64) own (i % 64)) (is_permanent (fault_numbered p i)) (weight p i)

  number : fault_number (i / 64) (i % 64) ≡ i
  number = omega arith

  lane_is : i % 64 < 64
  lane_is = omega arith

  abbrev role : Role
  role = (part_numbered p (part_of p (fault_numbered p i))).role

  abbrev covered : Bool
  covered = (part_numbered p (part_of p (fault_numbered p i))).covered

  abbrev permanent : Bool
  permanent = is_permanent (fault_numbered p i)

  share_is : (own : Outcome) (d n : Bool) → bit own.danger (i % 64) ≡ d → bit own.noticed (i % 64) ≡ n
      → share_of (class_of d n role false permanent) permanent (weight p i) ≡ share_by own
  share_is own d n e f =
      same_share d n role covered permanent (weight p i)
      ∙ sym (ap (λ j. share_of (class_with p j (bit own.danger (i % 64)) (bit own.noticed (i % 64))) permanent (weight p i)) number
      ∙ ap (λ b. share_of (class_with p i b (bit own.noticed (i % 64))) permanent (weight p i)) e
      ∙ ap (λ b. share_of (class_with p i d b) permanent (weight p i)) f)

  used : i < fault_count p → is_used (fault_count p) (i / 64) (i % 64) ≡ true
  used lt = (let is = number in grind (arith, is, lt))

  used_bit : i < fault_count p → bit (used_plane (fault_count p) (i / 64)) (i % 64) ≡ true
  used_bit lt = bit-plane_of (is_used (fault_count p) (i / 64)) (i % 64) lane_is ∙ used lt

  other_bit : i < fault_count p → bit (planes_when_missing p MostLatent (i / 64)).danger (i % 64) ≡ not (is_mechanism role)
  other_bit lt =
      bit-plane_of (λ lane. is_used (fault_count p) (i / 64) lane && not (is_on_mechanism p (fault_number (i / 64) lane))) (i % 64) lane_is
      ∙ ap (λ b. b && not (is_on_mechanism p (fault_number (i / 64) (i % 64)))) (used lt)
      ∙ ap (λ j. not (is_on_mechanism p j)) number

  of_missing : (own : Outcome) → i < fault_count p → (moved : ℕ) × Compared
      (share_by (planes_when_missing p Best (i / 64))) (share_by (planes_when_missing p Worst (i / 64))) (share_by (planes_when_missing p MostLatent (i / 64))) (share_by own) moved
  of_missing own lt =
      let d = bit own.danger (i % 64) in
      let n = bit own.noticed (i % 64) in
      let compared = missing_compared d n role permanent (weight p i) in (
        compared.0,
        subst_four (λ b w m s. Compared b w m s compared.0)
            (share_is (planes_when_missing p Best (i / 64)) false true (no_bit (i % 64) lane_is) (used_bit lt))
            (share_is (planes_when_missing p Worst (i / 64)) true false (used_bit lt) (no_bit (i % 64) lane_is))
            (share_is (planes_when_missing p MostLatent (i / 64)) (not (is_mechanism role)) false (other_bit lt) (no_bit (i % 64) lane_is))
            (share_is own d n refl refl) compared.1,
      )

  of_kept : (own : Outcome) → Compared (share_by own) (share_by own) (share_by own) (share_by own) 0
  of_kept own = kept_compared (class_in_lane p (i / 64) own (i % 64)) permanent (weight p i)

  -- what the fault adds at each end, and by planes that agree with what is kept
  pub fault_compared : (entries : List Entry) (planes : Planes) → AgreeWith entries planes → i < fault_count p → (moved : ℕ) × Compared
      (fault_share p (class_of_fault p (planes_at_end p entries Best)) i) (fault_share p (class_of_fault p (planes_at_end p entries Worst)) i)
      (fault_share p (class_of_fault p (planes_at_end p entries MostLatent)) i) (fault_share p (class_of_fault p planes) i) moved
  fault_compared entries planes agree lt = by_found (found entries (i / 64)) refl
    where
      at : (end : End) (kept : Option Outcome) → found entries (i / 64) ≡ kept → share_by (unwrap_or kept (planes_when_missing p end (i / 64))) ≡ share_by (planes_at_end p entries end (i / 64))
      at end kept e = sym (ap (λ o. share_by (unwrap_or o (planes_when_missing p end (i / 64)))) e)

      by_found : (kept : Option Outcome) → found entries (i / 64) ≡ kept → (moved : ℕ) × Compared
          (share_by (planes_at_end p entries Best (i / 64))) (share_by (planes_at_end p entries Worst (i / 64)))
          (share_by (planes_at_end p entries MostLatent (i / 64))) (share_by (planes (i / 64))) moved
      by_found (Some own) e = (
        0,
        subst_four (λ b w m s. Compared b w m s 0) (at Best (Some own) e) (at Worst (Some own) e) (at MostLatent (Some own) e)
            (sym (ap share_by (agree (i / 64) own e))) (of_kept own),
      )
      by_found None e =
          let compared = of_missing (planes (i / 64)) lt in
          (compared.0, subst_four (λ b w m s. Compared b w m s compared.0) (at Best None e) (at Worst None e) (at MostLatent None e) refl compared.1)
