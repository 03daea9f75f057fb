-- The sums by a reading, batch by batch and worker by worker.
use Rattle.std.proofs.Common.{◌≡◌, ℕ, ◌+◌, ◌*◌, ◌^◌, ◌<◌, ◌≤◌, Bool, true, false, refl, ap, sym, subst, ◌∙◌, add-one, arith}
use Rattle.std.specs.Prelude.{sum_by, if◌then◌else◌, nat_lt}
use Rattle.fm_base.specs.Lists.{below}
use Rattle.fm_base.proofs.Below.{below_push}
use Rattle.fm_base.proofs.SumsBelow.{sum_up, sum_by-below, sum_by-map, where_true}
use Rattle.metric_sums.specs.declared.Sums.{Sums}
use Rattle.metric_sums.specs.Totals.{AreConsistent, AreSmall, no_sums, plus, sums_by}
use Rattle.metric_sums.proofs.Running.{sums_by_push}
use Rattle.campaign_plan.specs.Analysis.{Analysis, batch_count}
use Rattle.campaign_plan.specs.Batches.{Entry, own_sums, total, true_planes}
use Rattle.campaign_plan.specs.Kept.{IsPlan}
use Rattle.campaign_plan.specs.Weights.{weight}
use Rattle.campaign_plan.proofs.Small.{cut}
use Rattle.fmeda_report.proofs.Summing.{consistent_below, first_entries}
use Rattle.reading_planes.specs.Readings.{plan_by}
use Rattle.reading_planes.specs.declared.reading.Reading.{Reading}
use Rattle.metric_breakdown.specs.Text.{sums_by_reading}
use Rattle.metric_breakdown.specs.Turns.{batch_of_turn, batch_sums, crew_sums, turn_sums}
use Rattle.batch_crew.specs.declared.rounds.WorkerShare.{WorkerShare}
use Rattle.metric_breakdown.proofs.Dividing.{crew_whole, crew_within, dealt, dealt_within}

-- ---- one turn more

pub plus_none : (s : Sums) → plus s no_sums ≡ s
plus_none s =
    let none : (n : ℕ) → n + 0 ≡ n = λ n. omega arith in
    λ i. record {
      permanent_all = none s.permanent_all i;
      permanent_danger = none s.permanent_danger i;
      latent = none s.latent i;
      transient_all = none s.transient_all i;
      transient_danger = none s.transient_danger i;
    }

module _ (own : ℕ → Sums) where
  no_number : sums_by own (below 0) ≡ no_sums
  unfolding below
  no_number = refl

  one_number : (n : ℕ) → sums_by own (below (n + 1)) ≡ plus (sums_by own (below n)) (own n)
  one_number n = ap (λ k. sums_by own (below k)) (add-one n) ∙ ap (sums_by own) (below_push n) ∙ sums_by_push own (below n) n

module _ (p : Analysis) (reading : Reading) where
  pub turn_none : (share : WorkerShare) → turn_sums p share reading 0 ≡ no_sums
  turn_none share = no_number (λ turn. batch_sums p reading (batch_of_turn share turn))

  turn_more : (share : WorkerShare) (turns : ℕ) → turn_sums p share reading (turns + 1) ≡ plus (turn_sums p share reading turns) (batch_sums p reading (batch_of_turn share turns))
  turn_more share turns = one_number (λ turn. batch_sums p reading (batch_of_turn share turn)) turns

  -- a turn with a batch adds what it shows
  pub turn_adds : (share : WorkerShare) (turns : ℕ) → batch_of_turn share turns < batch_count p
      → turn_sums p share reading (turns + 1) ≡ plus (turn_sums p share reading turns) (own_sums p (batch_of_turn share turns) (true_planes (plan_by p reading) (batch_of_turn share turns)))
  turn_adds share turns lt =
      let there : nat_lt (batch_of_turn share turns) (batch_count p) ≡ true = grind (arith, lt) in
      turn_more share turns
      ∙ ap (λ b. plus (turn_sums p share reading turns) (if b then own_sums p (batch_of_turn share turns) (true_planes (plan_by p reading) (batch_of_turn share turns)) else no_sums)) there

  -- and one without adds nothing
  pub turn_idle : (share : WorkerShare) (turns : ℕ) → batch_count p ≤ batch_of_turn share turns → turn_sums p share reading (turns + 1) ≡ turn_sums p share reading turns
  turn_idle share turns le =
      let behind : nat_lt (batch_of_turn share turns) (batch_count p) ≡ false = grind (arith, le) in
      turn_more share turns
      ∙ ap (λ b. plus (turn_sums p share reading turns) (if b then own_sums p (batch_of_turn share turns) (true_planes (plan_by p reading) (batch_of_turn share turns)) else no_sums)) behind
      ∙ plus_none (turn_sums p share reading turns)

  pub crew_none : (workers turns : ℕ) → crew_sums p reading workers turns 0 ≡ no_sums
  crew_none workers turns = no_number (λ number. turn_sums p (record { number = number; workers = workers }) reading turns)

  -- one worker more
  pub crew_more : (workers turns first : ℕ)
      → crew_sums p reading workers turns (first + 1) ≡ plus (crew_sums p reading workers turns first) (turn_sums p (record { number = first; workers = workers }) reading turns)
  crew_more workers turns first = one_number (λ number. turn_sums p (record { number = number; workers = workers }) reading turns) first

-- ---- a reading's sums are over the batches of the plan

pub of_plan : (p : Analysis) (reading : Reading) → sums_by_reading p reading ≡ total p (first_entries (true_planes (plan_by p reading)) (batch_count p))
unfolding own_sums weight
of_plan p reading = refl

pub reading_consistent : (p : Analysis) → IsPlan p → (reading : Reading) → AreConsistent (sums_by_reading p reading)
reading_consistent p plan reading =
    subst AreConsistent (sym (of_plan p reading)) (consistent_below p plan (true_planes (plan_by p reading)) (batch_count p) (omega arith))

-- ---- each of the five sums

field_if : (field : Sums → ℕ) (b : Bool) (own : Sums) → field no_sums ≡ 0 → field (if b then own else no_sums) ≡ where_true b (field own)
field_if field true own none = refl
field_if field false own none = none

module _ (p : Analysis) (reading : Reading) (field : Sums → ℕ) (none : field no_sums ≡ 0) where
  of_batch : ℕ → ℕ
  of_batch batch = field (own_sums p batch (true_planes (plan_by p reading) batch))

  abbrev turn_field : (workers number turns : ℕ) → ℕ
  turn_field workers number turns = sum_by (λ turn. field (batch_sums p reading (turn * workers + number))) (below turns)

  turn_is : (workers number turns : ℕ) → turn_field workers number turns ≡ dealt (cut of_batch (batch_count p)) workers number turns
  unfolding of_batch
  turn_is workers number turns =
      sum_by-below turns (λ turn. field (batch_sums p reading (turn * workers + number)))
      ∙ (λ j. sum_up (λ turn. field_if field (nat_lt (turn * workers + number) (batch_count p)) (own_sums p (turn * workers + number) (true_planes (plan_by p reading) (turn * workers + number))) none j) turns)

  crew_is : (workers turns first : ℕ) → sum_by (λ number. turn_field workers number turns) (below first) ≡ sum_up (λ number. dealt (cut of_batch (batch_count p)) workers number turns) first
  crew_is workers turns first =
      sum_by-below first (λ number. turn_field workers number turns) ∙ (λ j. sum_up (λ number. turn_is workers number turns j) first)

  abbrev all_field : ℕ
  all_field = sum_by (λ (entry : Entry). field (own_sums p entry.0 entry.1)) (first_entries (true_planes (plan_by p reading)) (batch_count p))

  all_is : all_field ≡ sum_up of_batch (batch_count p)
  unfolding of_batch
  all_is =
      sum_by-map (λ (entry : Entry). field (own_sums p entry.0 entry.1)) (λ batch. (batch, true_planes (plan_by p reading) batch)) (below (batch_count p))
      ∙ sum_by-below (batch_count p) of_batch

  pub turn_small : (workers number turns most : ℕ) → number < workers → all_field ≤ most → turn_field workers number turns ≤ most
  turn_small workers number turns most lt le =
      omega (arith, turn_is workers number turns, dealt_within of_batch (batch_count p) workers turns number lt, all_is, le)

  pub crew_small : (workers turns first most : ℕ) → first ≤ workers → all_field ≤ most → sum_by (λ number. turn_field workers number turns) (below first) ≤ most
  crew_small workers turns first most le small =
      omega (arith, crew_is workers turns first, crew_within of_batch (batch_count p) workers turns first le, all_is, small)

  pub crew_all : (workers turns : ℕ) → batch_count p ≤ turns * workers → sum_by (λ number. turn_field workers number turns) (below workers) ≡ all_field
  crew_all workers turns le = crew_is workers turns workers ∙ crew_whole of_batch (batch_count p) workers turns le ∙ sym all_is

module _ (p : Analysis) (plan : IsPlan p) (reading : Reading) where
  all_small : AreSmall (total p (first_entries (true_planes (plan_by p reading)) (batch_count p)))
  all_small = (consistent_below p plan (true_planes (plan_by p reading)) (batch_count p) (omega arith)).small

  -- the sums of a worker are small
  pub turns_small : (workers number turns : ℕ) → number < workers → AreSmall (turn_sums p (record { number = number; workers = workers }) reading turns)
  turns_small workers number turns lt = record {
    permanent_all = turn_small p reading (λ s. s.permanent_all) refl workers number turns (10 ^ 18) lt all_small.permanent_all;
    permanent_danger = turn_small p reading (λ s. s.permanent_danger) refl workers number turns (10 ^ 18) lt all_small.permanent_danger;
    latent = turn_small p reading (λ s. s.latent) refl workers number turns (10 ^ 18) lt all_small.latent;
    transient_all = turn_small p reading (λ s. s.transient_all) refl workers number turns (10 ^ 18) lt all_small.transient_all;
    transient_danger = turn_small p reading (λ s. s.transient_danger) refl workers number turns (10 ^ 18) lt all_small.transient_danger;
  }

  -- so are those of the first workers together
  pub crews_small : (workers turns first : ℕ) → first ≤ workers → AreSmall (crew_sums p reading workers turns first)
  crews_small workers turns first le = record {
    permanent_all = crew_small p reading (λ s. s.permanent_all) refl workers turns first (10 ^ 18) le all_small.permanent_all;
    permanent_danger = crew_small p reading (λ s. s.permanent_danger) refl workers turns first (10 ^ 18) le all_small.permanent_danger;
    latent = crew_small p reading (λ s. s.latent) refl workers turns first (10 ^ 18) le all_small.latent;
    transient_all = crew_small p reading (λ s. s.transient_all) refl workers turns first (10 ^ 18) le all_small.transient_all;
    transient_danger = crew_small p reading (λ s. s.transient_danger) refl workers turns first (10 ^ 18) le all_small.transient_danger;
  }

-- and all workers together have those of the reading
pub crew_total : (p : Analysis) (reading : Reading) (workers turns : ℕ) → batch_count p ≤ turns * workers → crew_sums p reading workers turns workers ≡ sums_by_reading p reading
crew_total p reading workers turns le = (λ i. record {
  permanent_all = crew_all p reading (λ s. s.permanent_all) refl workers turns le i;
  permanent_danger = crew_all p reading (λ s. s.permanent_danger) refl workers turns le i;
  latent = crew_all p reading (λ s. s.latent) refl workers turns le i;
  transient_all = crew_all p reading (λ s. s.transient_all) refl workers turns le i;
  transient_danger = crew_all p reading (λ s. s.transient_danger) refl workers turns le i;
}) ∙ sym (of_plan p reading)
