-- THE BOUNDS HOLD: whatever planes the missing batches have, each metric of the whole plan lies within its bounds, and some planes reach
-- each end.
use Rattle.std.specs.Prelude.{◌≡◌, ℕ, ◌*◌, ◌<◌, ◌≤◌, Bool, true, false, List, Option, Some, None}
use Rattle.metric_sums.specs.declared.Asil.{Asil}
use Rattle.metric_sums.specs.declared.Fraction.{Fraction}
use Rattle.metric_sums.specs.declared.Sums.{Sums}
use Rattle.metric_sums.specs.Metrics.{lfm, meets, spfm_permanent, spfm_transient, targets_of, term}
use Rattle.campaign_plan.specs.declared.Outcome.{Outcome}
use Rattle.campaign_plan.specs.Analysis.{Analysis, batch_count}
use Rattle.campaign_plan.specs.Batches.{Entry}
use Rattle.fmeda_report.specs.Report.{all_sums}
use Rattle.result_file.specs.RowPlanes.{Planes}
use Rattle.result_merge.specs.Union.{found}
use Rattle.metric_bounds.specs.declared.Ends.{Ends}
use Rattle.metric_bounds.specs.declared.Standing.{Standing}
use Rattle.metric_bounds.specs.declared.Standing.TheVariants.{Met, Missed, Open}
use Rattle.metric_bounds.specs.Missing.{AgreeWith}
use Rattle.metric_bounds.specs.Bounds.{end_sums, lfm_ends, spfm_ends, standing_of, term_standing}

-- one fraction is at most another; the denominators are above 0
abbrev pub AtMost : Fraction → Fraction → Type 0
AtMost a b = a.num * b.den ≤ b.num * a.den

-- both ends are there, and the value lies between them
pub record IsBetween (ends : Ends) (value : Fraction) : Type 0 where
  pub least : Fraction
  pub greatest : Fraction
  pub from : ends.least ≡ Some least
  pub to : ends.greatest ≡ Some greatest
  pub above : AtMost least value
  pub below : AtMost value greatest

-- some planes that agree with what is kept give the metric this value
abbrev pub IsReached : {X : Type 0} → Analysis → List Entry → (Sums → X) → X → Type 0
IsReached p entries metric value = (planes : Planes) × AgreeWith entries planes × (metric (all_sums p planes) ≡ value)

-- the ends are those of a metric: each value lies between them, and each is reached; where an end isn't there, no planes have a value
pub record AreEnds (p : Analysis) (entries : List Entry) (metric : Sums → Option Fraction) (ends : Ends) : Type 0 where
  pub between : (planes : Planes) → AgreeWith entries planes → (value : Fraction) → metric (all_sums p planes) ≡ Some value → IsBetween ends value
  pub least : IsReached p entries metric ends.least
  pub greatest : IsReached p entries metric ends.greatest

-- the same of the term
pub record AreTermEnds (p : Analysis) (entries : List Entry) (low high : ℕ) : Type 0 where
  pub above : (planes : Planes) → AgreeWith entries planes → low ≤ term (all_sums p planes)
  pub below : (planes : Planes) → AgreeWith entries planes → term (all_sums p planes) ≤ high
  pub least : IsReached p entries term low
  pub greatest : IsReached p entries term high

-- so of each metric
pub record AreBounds (p : Analysis) (entries : List Entry) : Type 0 where
  pub spfm_permanent : AreEnds p entries spfm_permanent (spfm_ends spfm_permanent (end_sums p entries))
  pub spfm_transient : AreEnds p entries spfm_transient (spfm_ends spfm_transient (end_sums p entries))
  pub lfm : AreEnds p entries lfm (lfm_ends (end_sums p entries))
  pub term : AreTermEnds p entries (term (end_sums p entries).best) (term (end_sums p entries).worst)

abbrev pub BoundsHold : Type 0
BoundsHold = (p : Analysis) (entries : List Entry) → AreBounds p entries

-- ---- as rows are added

-- what is kept first is kept later too
abbrev pub IsKeptIn : (first later : List Entry) → Type 0
IsKeptIn first later = (batch : ℕ) (own : Outcome) → found first batch ≡ Some own → found later batch ≡ Some own

-- the later ends lie between the first ones
pub record AreWithin (first later : Ends) : Type 0 where
  pub least : (value : Fraction) → later.least ≡ Some value → IsBetween first value
  pub greatest : (value : Fraction) → later.greatest ≡ Some value → IsBetween first value

-- so of each metric
pub record AreNarrower (p : Analysis) (first later : List Entry) : Type 0 where
  pub spfm_permanent : AreWithin (spfm_ends spfm_permanent (end_sums p first)) (spfm_ends spfm_permanent (end_sums p later))
  pub spfm_transient : AreWithin (spfm_ends spfm_transient (end_sums p first)) (spfm_ends spfm_transient (end_sums p later))
  pub lfm : AreWithin (lfm_ends (end_sums p first)) (lfm_ends (end_sums p later))
  pub least_term : term (end_sums p first).best ≤ term (end_sums p later).best
  pub greatest_term : term (end_sums p later).worst ≤ term (end_sums p first).worst

-- THE BOUNDS ONLY NARROW as rows are added
abbrev pub BoundsNarrow : Type 0
BoundsNarrow = (p : Analysis) (first later : List Entry) → IsKeptIn first later → AreNarrower p first later

-- both ends are this value
pub record AreBoth (ends : Ends) (value : Option Fraction) : Type 0 where
  pub least : ends.least ≡ value
  pub greatest : ends.greatest ≡ value

-- each metric's ends are its value for these planes
pub record AreExact (p : Analysis) (entries : List Entry) (planes : Planes) : Type 0 where
  pub spfm_permanent : AreBoth (spfm_ends spfm_permanent (end_sums p entries)) (spfm_permanent (all_sums p planes))
  pub spfm_transient : AreBoth (spfm_ends spfm_transient (end_sums p entries)) (spfm_transient (all_sums p planes))
  pub lfm : AreBoth (lfm_ends (end_sums p entries)) (lfm (all_sums p planes))
  pub least_term : term (end_sums p entries).best ≡ term (all_sums p planes)
  pub greatest_term : term (end_sums p entries).worst ≡ term (all_sums p planes)

-- WITH ALL BATCHES KEPT THE BOUNDS ARE EXACT
abbrev pub BoundsEndExact : Type 0
BoundsEndExact = (p : Analysis) (entries : List Entry) (planes : Planes)
    → ((batch : ℕ) → batch < batch_count p → found entries batch ≡ Some (planes batch)) → AreExact p entries planes

-- ---- how the targets stand

-- some planes that agree with what is kept give the metric a value that meets the percentage, or that misses it
pub record MayGive (p : Analysis) (entries : List Entry) (metric : Sums → Option Fraction) (percent : ℕ) (answer : Bool) : Type 0 where
  pub planes : Planes
  pub agree : AgreeWith entries planes
  pub value : Fraction
  pub is : metric (all_sums p planes) ≡ Some value
  pub meets_it : meets percent value ≡ answer

-- met: each value meets the percentage
-- missed: each misses it
-- left_open: some meet it and some miss it
-- none: there is no value
pub record StandsSo (p : Analysis) (entries : List Entry) (metric : Sums → Option Fraction) (percent : ℕ) (stands : Option Standing) : Type 0 where
  pub met : stands ≡ Some Met → (planes : Planes) → AgreeWith entries planes → (value : Fraction) → metric (all_sums p planes) ≡ Some value → meets percent value ≡ true
  pub missed : stands ≡ Some Missed → (planes : Planes) → AgreeWith entries planes → (value : Fraction) → metric (all_sums p planes) ≡ Some value → meets percent value ≡ false
  pub left_open : stands ≡ Some Open → MayGive p entries metric percent true × MayGive p entries metric percent false
  pub none : stands ≡ None → (planes : Planes) → AgreeWith entries planes → metric (all_sums p planes) ≡ None

-- so of each target of a percentage
pub record TargetsStandSo (p : Analysis) (entries : List Entry) (percent : ℕ) : Type 0 where
  pub spfm_permanent : StandsSo p entries spfm_permanent percent (standing_of percent (spfm_ends spfm_permanent (end_sums p entries)))
  pub spfm_transient : StandsSo p entries spfm_transient percent (standing_of percent (spfm_ends spfm_transient (end_sums p entries)))
  pub lfm : StandsSo p entries lfm percent (standing_of percent (lfm_ends (end_sums p entries)))

-- A TARGET THAT IS MET OR MISSED STAYS SO, whatever the missing batches give, and one that is open may end either way
abbrev pub TargetsStand : Type 0
TargetsStand = (p : Analysis) (entries : List Entry) (percent : ℕ) → TargetsStandSo p entries percent

-- whether the term is below the limit of a level, as a report tells it
abbrev pub is_below_limit : Asil → Sums → Bool
is_below_limit asil s = (targets_of asil s).term

-- the same of the limit of the term, which always has a value
pub record LimitStandsSo (p : Analysis) (entries : List Entry) (asil : Asil) (stands : Standing) : Type 0 where
  pub met : stands ≡ Met → (planes : Planes) → AgreeWith entries planes → is_below_limit asil (all_sums p planes) ≡ true
  pub missed : stands ≡ Missed → (planes : Planes) → AgreeWith entries planes → is_below_limit asil (all_sums p planes) ≡ false
  pub left_open : stands ≡ Open → IsReached p entries (is_below_limit asil) true × IsReached p entries (is_below_limit asil) false

-- A LIMIT OF THE TERM THAT IS MET OR MISSED STAYS SO, and one that is open may end either way
abbrev pub LimitStands : Type 0
LimitStands = (p : Analysis) (entries : List Entry) (asil : Asil) → LimitStandsSo p entries asil (term_standing asil (end_sums p entries))
