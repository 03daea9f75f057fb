-- Danger in time. Source: the fault tolerant time interval of ISO 26262-1:2018, here a whole number of cycles that is
-- counted from the first difference at an observation point.
use Rattle.std.specs.Prelude.{◌≡◌, ℕ, ◌+◌, ◌<◌, ◌≤◌, Bool, true, false, not, ◌&&◌, nat_le, unwrap_or}
use Rattle.fm_base.specs.Lists.{some_below}
use Rattle.alarm_points.specs.declared.Goal.{Goal}

-- the fault tolerant time interval of a goal: its own, or else that of the settings
abbrev pub interval_of : ℕ → Goal → ℕ
interval_of ftti goal = unwrap_or goal.ftti ftti

-- there is a cycle t that differs, and no alarm is raised at any cycle from 0 to t + ftti; a run that ends before has no later alarm
unfoldable pub goes_unalarmed : ℕ → ℕ → (ℕ → Bool) → (ℕ → Bool) → Bool
goes_unalarmed ftti cycles differs raised =
    some_below cycles (λ t. differs t && not (some_below cycles (λ u. nat_le u (t + ftti) && raised u)))

-- the same as a fact, which `goes_unalarmed` tests
pub record GoesUnalarmed (ftti cycles : ℕ) (differs raised : ℕ → Bool) : Type 0 where
  pub t : ℕ
  pub within : t < cycles
  pub differs_at : differs t ≡ true
  pub quiet : (u : ℕ) → u < cycles → u ≤ t + ftti → raised u ≡ false
