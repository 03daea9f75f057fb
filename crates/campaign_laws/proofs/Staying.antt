-- A target that is met or missed stays so.
use Rattle.std.proofs.Common.{◌≡◌, ◌≢◌, ℕ, Bool, true, false, ◌⊎◌, inl, inr, List, length, refl, ap, sym, ◌∙◌, arith}
use Rattle.std.specs.Prelude.{Option, Some, None, option_map, codes, nat_lt}
use Rattle.fm_base.specs.Names.{Bytes}
use Rattle.metric_sums.specs.declared.Fraction.{Fraction}
use Rattle.metric_sums.specs.declared.Sums.{Sums}
use Rattle.metric_sums.specs.Metrics.{lfm, lfm_target, meets, pmhf_target, spfm_permanent, spfm_target, spfm_transient, term}
use Rattle.campaign_plan.specs.Analysis.{Analysis}
use Rattle.campaign_plan.specs.Batches.{Entry}
use Rattle.campaign_plan.specs.Laws.{SumsAreOfFaults}
use Rattle.fmeda_report.specs.Report.{all_sums, report}
use Rattle.result_file.specs.RowPlanes.{Planes}
use Rattle.fmeda_report.specs.Words.{target_word}
use Rattle.metric_bounds.specs.declared.Ends.{Ends}
use Rattle.metric_bounds.specs.declared.Standing.{Standing}
use Rattle.metric_bounds.specs.declared.Standing.TheVariants.{Met, Missed}
use Rattle.metric_bounds.specs.Bounds.{end_sums, lfm_ends, ratio_standing, spfm_ends, standing, standing_of, term_standing}
use Rattle.metric_bounds.specs.Laws.{AreEnds, AreTermEnds, BoundsHold, IsKeptIn, LimitStands, LimitStandsSo, StandsSo, TargetsStand}
use Rattle.metric_bounds.specs.Missing.{AgreeWith}
use Rattle.metric_bounds.specs.Progress.{progress, stands}
use Rattle.campaign_laws.specs.Targets.{KeepsVerdicts, PrintedVerdictsStay, Stays, StaysOrGoes}
use Rattle.campaign_laws.proofs.Printing.{ends_word, progress_prints_verdicts, report_prints_verdicts, standings_of, verdicts_of}
use Rattle.campaign_laws.proofs.Counted.{permanent_value, transient_value}

-- ---- the words

-- words of other lengths
other_word : (a b : Bytes) → length a ≢ length b → a ≡ b → ⊥
other_word a b apart e = apart (ap length e)

module _ (percent : ℕ) where
  word_met : (least greatest : Option Fraction) → stands (option_map (meets percent) least) (option_map (meets percent) greatest) ≡ codes "met"
      → ratio_standing percent least greatest ≡ Some Met
  word_met (Some l) (Some g) e = by_tests (meets percent l) (meets percent g) e
    where
      by_tests : (a b : Bool) → stands (Some a) (Some b) ≡ codes "met" → Some (standing a b) ≡ Some Met
      by_tests true b e = refl
      by_tests false true e = absurd (other_word (codes "open") (codes "met") (omega arith) e)
      by_tests false false e = absurd (other_word (codes "missed") (codes "met") (omega arith) e)
  word_met (Some l) None e = absurd (other_word (codes "-") (codes "met") (omega arith) e)
  word_met None g e = absurd (other_word (codes "-") (codes "met") (omega arith) e)

  word_missed : (least greatest : Option Fraction) → stands (option_map (meets percent) least) (option_map (meets percent) greatest) ≡ codes "missed"
      → ratio_standing percent least greatest ≡ Some Missed
  word_missed (Some l) (Some g) e = by_tests (meets percent l) (meets percent g) e
    where
      by_tests : (a b : Bool) → stands (Some a) (Some b) ≡ codes "missed" → Some (standing a b) ≡ Some Missed
      by_tests true b e = absurd (other_word (codes "met") (codes "missed") (omega arith) e)
      by_tests false true e = absurd (other_word (codes "open") (codes "missed") (omega arith) e)
      by_tests false false e = refl
  word_missed (Some l) None e = absurd (other_word (codes "-") (codes "missed") (omega arith) e)
  word_missed None g e = absurd (other_word (codes "-") (codes "missed") (omega arith) e)

  word_none : (least greatest : Option Fraction) → stands (option_map (meets percent) least) (option_map (meets percent) greatest) ≡ codes "-"
      → ratio_standing percent least greatest ≡ None
  word_none (Some l) (Some g) e = by_tests (meets percent l) (meets percent g) e
    where
      by_tests : (a b : Bool) → stands (Some a) (Some b) ≡ codes "-" → Some (standing a b) ≡ None
      by_tests true b e = absurd (other_word (codes "met") (codes "-") (omega arith) e)
      by_tests false true e = absurd (other_word (codes "open") (codes "-") (omega arith) e)
      by_tests false false e = absurd (other_word (codes "missed") (codes "-") (omega arith) e)
  word_none (Some l) None e = refl
  word_none None g e = refl

  -- where there is a standing, there is a least value
  some_least : (least greatest : Option Fraction) (how : Standing) → ratio_standing percent least greatest ≡ Some how → (q : Fraction) × (least ≡ Some q)
  some_least (Some l) (Some g) how e = (l, refl)
  some_least (Some l) None how e = absurd (cc)
  some_least None g how e = absurd (cc)

-- ---- a word that is made of values that some planes give which agree with the first rows

-- met: where each value meets the percentage
-- missed: where each misses it
-- none: where there is no value
-- and where the word is `-` though it needn't be, some such planes give no value
record IsLater (p : Analysis) (first : List Entry) (metric : Sums → Option Fraction) (percent : ℕ) (word : Bytes) : Type 0 where
  met : ((planes : Planes) → AgreeWith first planes → (q : Fraction) → metric (all_sums p planes) ≡ Some q → meets percent q ≡ true)
      → (word ≡ codes "met") ⊎ ((word ≡ codes "-") × ((planes : Planes) × (metric (all_sums p planes) ≡ None)))
  missed : ((planes : Planes) → AgreeWith first planes → (q : Fraction) → metric (all_sums p planes) ≡ Some q → meets percent q ≡ false)
      → (word ≡ codes "missed") ⊎ ((word ≡ codes "-") × ((planes : Planes) × (metric (all_sums p planes) ≡ None)))
  none : ((planes : Planes) → AgreeWith first planes → metric (all_sums p planes) ≡ None) → word ≡ codes "-"

-- so is the word of a report
later_report : (p : Analysis) (first : List Entry) (metric : Sums → Option Fraction) (percent : ℕ) (planes : Planes) → AgreeWith first planes
    → IsLater p first metric percent (target_word (option_map (meets percent) (metric (all_sums p planes))))
later_report p first metric percent planes agree = by_value (metric (all_sums p planes)) refl
  where
    by_value : (o : Option Fraction) → metric (all_sums p planes) ≡ o → IsLater p first metric percent (target_word (option_map (meets percent) o))
    by_value None is = record { met = λ _. inr (refl, (planes, is)); missed = λ _. inr (refl, (planes, is)); none = λ _. refl }
    by_value (Some q) is = record {
      met = λ each. inl (ap (λ b. target_word (Some b)) (each planes agree q is));
      missed = λ each. inl (ap (λ b. target_word (Some b)) (each planes agree q is));
      none = λ never. (let clashes : Some q ≡ None = sym is ∙ never planes agree in absurd (cc));
    }

-- and the word of `progress` for more rows
later_progress : (p : Analysis) (first later : List Entry) (metric : Sums → Option Fraction) (percent : ℕ) (ends : Ends) → IsKeptIn first later
    → AreEnds p later metric ends → IsLater p first metric percent (ends_word percent ends)
later_progress p first later metric percent ends kept are = by_ends ends.least ends.greatest are.least.2 are.greatest.2
  where
    agree : (planes : Planes) → AgreeWith later planes → AgreeWith first planes
    agree planes own batch outcome e = own batch outcome (kept batch outcome e)

    by_ends : (least greatest : Option Fraction) → metric (all_sums p are.least.0) ≡ least → metric (all_sums p are.greatest.0) ≡ greatest
        → IsLater p first metric percent (stands (option_map (meets percent) least) (option_map (meets percent) greatest))
    by_ends None greatest e f = record { met = λ _. inr (refl, (are.least.0, e)); missed = λ _. inr (refl, (are.least.0, e)); none = λ _. refl }
    by_ends (Some l) None e f = record { met = λ _. inr (refl, (are.greatest.0, f)); missed = λ _. inr (refl, (are.greatest.0, f)); none = λ _. refl }
    by_ends (Some l) (Some g) e f = record {
      met = λ each. inl (ap (λ b. stands (Some b) (Some (meets percent g))) (each are.least.0 (agree are.least.0 are.least.1) l e));
      missed = λ each. inl (
          ap (λ b. stands (Some b) (Some (meets percent g))) (each are.least.0 (agree are.least.0 are.least.1) l e)
          ∙ ap (λ b. stands (Some false) (Some b)) (each are.greatest.0 (agree are.greatest.0 are.greatest.1) g f));
      none = λ never. (let clashes : Some l ≡ None = sym e ∙ never are.least.0 (agree are.least.0 are.least.1) in absurd (cc));
    }

-- ---- percentages

module _ (p : Analysis) (first : List Entry) (metric : Sums → Option Fraction) (percent : ℕ) (ends : Ends) (are : AreEnds p first metric ends)
    (stand : StandsSo p first metric percent (standing_of percent ends)) (word : Bytes) (later : IsLater p first metric percent word) where
  meets_all : ends_word percent ends ≡ codes "met"
      → (planes : Planes) → AgreeWith first planes → (q : Fraction) → metric (all_sums p planes) ≡ Some q → meets percent q ≡ true
  meets_all e = stand.met (word_met percent ends.least ends.greatest e)

  misses_all : ends_word percent ends ≡ codes "missed"
      → (planes : Planes) → AgreeWith first planes → (q : Fraction) → metric (all_sums p planes) ≡ Some q → meets percent q ≡ false
  misses_all e = stand.missed (word_missed percent ends.least ends.greatest e)

  none_at_all : ends_word percent ends ≡ codes "-" → word ≡ codes "-"
  none_at_all e = later.none (stand.none (word_none percent ends.least ends.greatest e))

  word_or_none : (said : Bytes) → (word ≡ said) ⊎ ((word ≡ codes "-") × ((planes : Planes) × (metric (all_sums p planes) ≡ None))) → (word ≡ said) ⊎ (word ≡ codes "-")
  word_or_none said (inl e) = inl e
  word_or_none said (inr gone) = inr gone.0

  stays_or_goes : StaysOrGoes (ends_word percent ends) word
  stays_or_goes = record {
    met = λ e. word_or_none (codes "met") (later.met (meets_all e));
    missed = λ e. word_or_none (codes "missed") (later.missed (misses_all e));
    none = none_at_all;
  }

  -- a metric that has a value for some planes has one for all
  module _ (always : (one other : Planes) (q : Fraction) → metric (all_sums p one) ≡ Some q → metric (all_sums p other) ≡ None → ⊥) where
    word_said : (said : Bytes) (how : Standing) → ratio_standing percent ends.least ends.greatest ≡ Some how
        → (word ≡ said) ⊎ ((word ≡ codes "-") × ((planes : Planes) × (metric (all_sums p planes) ≡ None))) → word ≡ said
    word_said said how is (inl e) = e
    word_said said how is (inr gone) =
        let some = some_least percent ends.least ends.greatest how is in
        absurd (always are.least.0 gone.1.0 some.0 (are.least.2 ∙ some.1) gone.1.1)

    stays : Stays (ends_word percent ends) word
    stays = record {
      met = λ e. word_said (codes "met") Met (word_met percent ends.least ends.greatest e) (later.met (meets_all e));
      missed = λ e. word_said (codes "missed") Missed (word_missed percent ends.least ends.greatest e) (later.missed (misses_all e));
      none = none_at_all;
    }

-- ---- the limit of the term

limit_met : (a b : Bool) → stands (Some a) (Some b) ≡ codes "met" → standing a b ≡ Met
limit_met true b e = refl
limit_met false true e = absurd (other_word (codes "open") (codes "met") (omega arith) e)
limit_met false false e = absurd (other_word (codes "missed") (codes "met") (omega arith) e)

limit_missed : (a b : Bool) → stands (Some a) (Some b) ≡ codes "missed" → standing a b ≡ Missed
limit_missed true b e = absurd (other_word (codes "met") (codes "missed") (omega arith) e)
limit_missed false true e = absurd (other_word (codes "open") (codes "missed") (omega arith) e)
limit_missed false false e = refl

limit_some : (a b : Bool) → stands (Some a) (Some b) ≡ codes "-" → ⊥
limit_some true b e = other_word (codes "met") (codes "-") (omega arith) e
limit_some false true e = other_word (codes "open") (codes "-") (omega arith) e
limit_some false false e = other_word (codes "missed") (codes "-") (omega arith) e

module _ (p : Analysis) (first : List Entry) (stand : LimitStandsSo p first p.settings.asil (term_standing p.settings.asil (end_sums p first))) where
  abbrev limit : ℕ
  limit = pmhf_target p.settings.asil

  abbrev worst : Bool
  worst = nat_lt (term (end_sums p first).worst) limit

  abbrev best : Bool
  best = nat_lt (term (end_sums p first).best) limit

  limit_report : (planes : Planes) → AgreeWith first planes → Stays (stands (Some worst) (Some best)) (target_word (Some (nat_lt (term (all_sums p planes)) limit)))
  limit_report planes agree = record {
    met = λ e. ap (λ b. target_word (Some b)) (stand.met (limit_met worst best e) planes agree);
    missed = λ e. ap (λ b. target_word (Some b)) (stand.missed (limit_missed worst best e) planes agree);
    none = λ e. absurd (limit_some worst best e);
  }

  limit_progress : (later : List Entry) → IsKeptIn first later → AreTermEnds p later (term (end_sums p later).best) (term (end_sums p later).worst)
      → Stays (stands (Some worst) (Some best)) (stands (Some (nat_lt (term (end_sums p later).worst) limit)) (Some (nat_lt (term (end_sums p later).best) limit)))
  limit_progress later kept are = record {
    met = λ e. ap (λ b. stands (Some b) (Some now_best)) (worst_is true (stand.met (limit_met worst best e)));
    missed = λ e. ap (λ b. stands (Some b) (Some now_best)) (worst_is false (stand.missed (limit_missed worst best e)))
        ∙ ap (λ b. stands (Some false) (Some b)) (best_is false (stand.missed (limit_missed worst best e)));
    none = λ e. absurd (limit_some worst best e);
  }
    where
      now_best : Bool
      now_best = nat_lt (term (end_sums p later).best) limit

      agree : (planes : Planes) → AgreeWith later planes → AgreeWith first planes
      agree planes own batch outcome e = own batch outcome (kept batch outcome e)

      worst_is : (b : Bool) → ((planes : Planes) → AgreeWith first planes → nat_lt (term (all_sums p planes)) limit ≡ b)
          → nat_lt (term (end_sums p later).worst) limit ≡ b
      worst_is b each = ap (λ t. nat_lt t limit) (sym are.greatest.2) ∙ each are.greatest.0 (agree are.greatest.0 are.greatest.1)

      best_is : (b : Bool) → ((planes : Planes) → AgreeWith first planes → nat_lt (term (all_sums p planes)) limit ≡ b)
          → nat_lt (term (end_sums p later).best) limit ≡ b
      best_is b each = ap (λ t. nat_lt t limit) (sym are.least.2) ∙ each are.least.0 (agree are.least.0 are.least.1)

-- ---- the texts

module _ (sums : SumsAreOfFaults) (bound : BoundsHold) (target : TargetsStand) (limits : LimitStands) (p : Analysis) where
  more_rows : (first later : List Entry) → IsKeptIn first later → KeepsVerdicts (progress p first) (progress p later)
  more_rows first later kept =
      let asil = p.settings.asil in
      let before = bound p first in
      let after = bound p later in
      let spfm = target p first (spfm_target asil) in
      let own = (target p first (lfm_target asil)).lfm in
      record {
        first = standings_of asil (end_sums p first);
        later = standings_of asil (end_sums p later);
        said_first = progress_prints_verdicts p first;
        said_later = progress_prints_verdicts p later;
        spfm_permanent = stays p first spfm_permanent (spfm_target asil) (spfm_ends spfm_permanent (end_sums p first)) before.spfm_permanent spfm.spfm_permanent
            (ends_word (spfm_target asil) (spfm_ends spfm_permanent (end_sums p later)))
            (later_progress p first later spfm_permanent (spfm_target asil) (spfm_ends spfm_permanent (end_sums p later)) kept after.spfm_permanent) (permanent_value sums p);
        spfm_transient = stays p first spfm_transient (spfm_target asil) (spfm_ends spfm_transient (end_sums p first)) before.spfm_transient spfm.spfm_transient
            (ends_word (spfm_target asil) (spfm_ends spfm_transient (end_sums p later)))
            (later_progress p first later spfm_transient (spfm_target asil) (spfm_ends spfm_transient (end_sums p later)) kept after.spfm_transient) (transient_value sums p);
        lfm = stays_or_goes p first lfm (lfm_target asil) (lfm_ends (end_sums p first)) before.lfm own (ends_word (lfm_target asil) (lfm_ends (end_sums p later)))
            (later_progress p first later lfm (lfm_target asil) (lfm_ends (end_sums p later)) kept after.lfm);
        term = limit_progress p first (limits p first asil) later kept after.term;
      }

  at_the_end : (entries : List Entry) (planes : Planes) → AgreeWith entries planes → KeepsVerdicts (progress p entries) (report p planes)
  at_the_end entries planes agree =
      let asil = p.settings.asil in
      let s = all_sums p planes in
      let before = bound p entries in
      let spfm = target p entries (spfm_target asil) in
      let own = (target p entries (lfm_target asil)).lfm in
      record {
        first = standings_of asil (end_sums p entries);
        later = verdicts_of asil s;
        said_first = progress_prints_verdicts p entries;
        said_later = report_prints_verdicts p planes;
        spfm_permanent = stays p entries spfm_permanent (spfm_target asil) (spfm_ends spfm_permanent (end_sums p entries)) before.spfm_permanent spfm.spfm_permanent
            (target_word (option_map (meets (spfm_target asil)) (spfm_permanent s))) (later_report p entries spfm_permanent (spfm_target asil) planes agree) (permanent_value sums p);
        spfm_transient = stays p entries spfm_transient (spfm_target asil) (spfm_ends spfm_transient (end_sums p entries)) before.spfm_transient spfm.spfm_transient
            (target_word (option_map (meets (spfm_target asil)) (spfm_transient s))) (later_report p entries spfm_transient (spfm_target asil) planes agree) (transient_value sums p);
        lfm = stays_or_goes p entries lfm (lfm_target asil) (lfm_ends (end_sums p entries)) before.lfm own (target_word (option_map (meets (lfm_target asil)) (lfm s)))
            (later_report p entries lfm (lfm_target asil) planes agree);
        term = limit_report p entries (limits p entries asil) planes agree;
      }

pub verdicts_stay : SumsAreOfFaults → BoundsHold → TargetsStand → LimitStands → PrintedVerdictsStay
verdicts_stay sums bound target limits p = record { more = more_rows sums bound target limits p; ends = at_the_end sums bound target limits p }
