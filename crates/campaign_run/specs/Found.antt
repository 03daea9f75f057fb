-- The planes that a campaign finds its batches to have.
use Rattle.std.specs.Prelude.{◌≡◌, ◌==◌, ℕ, List, All, find, unwrap_or, option_map}
use Rattle.campaign_plan.specs.declared.Outcome.{Outcome}
use Rattle.campaign_plan.specs.Analysis.{Analysis}
use Rattle.campaign_plan.specs.Batches.{Entry, AreDistinct, HasEach, true_planes}
use Rattle.result_file.specs.declared.KeptRows.{KeptRows}
use Rattle.result_file.specs.KeptRows.{kept_entries}

-- the planes that were kept of a batch, or else those that it truly has
abbrev pub checkpointed_or_true : Analysis → KeptRows → ℕ → Outcome
checkpointed_or_true p k batch = unwrap_or (option_map (λ e. e.1) (find (λ e. e.0 == batch) (kept_entries k))) (true_planes p batch)

-- some batches of the plan, none of them twice, with the planes that `planes` gives
pub record IsPart (p : Analysis) (planes : ℕ → Outcome) (entries : List Entry) : Type 0 where
  pub distinct : AreDistinct p entries
  pub have : All (λ entry. entry.1 ≡ planes entry.0) entries

-- each batch of the plan once, with the planes that `planes` gives
abbrev pub IsWhole : Analysis → (ℕ → Outcome) → List Entry → Type 0
IsWhole p planes entries = IsPart p planes entries × HasEach p entries
