-- The windows of several words of lanes.
use Rattle.std.specs.Prelude.{◌≡◌, ℕ, ◌<◌, List, [], length, slice_index_or}
use Rattle.alarm_points.specs.declared.Points.{Points}
use Rattle.alarm_points.specs.Watch.{AreMadeFor, Watches}

-- the windows of a word
abbrev pub windows_at : List Watches → ℕ → Watches
windows_at words word = slice_index_or words word (record { ftti = 0; windows = [] })

-- those of each word were made for these points
abbrev pub AreAllMadeFor : Points → List Watches → Type 0
AreAllMadeFor points words = (word : ℕ) → word < length words → AreMadeFor points (windows_at words word)

-- the interval of the settings, and the windows of each of four words
pub record FourWatches : Type 0 where
  pub ftti : ℕ
  pub words : List Watches

-- there are four words of windows for these points, each with the interval of the settings
pub record AreFourMadeFor (points : Points) (four : FourWatches) : Type 0 where
  pub count : length four.words ≡ 4
  pub made : AreAllMadeFor points four.words
  pub same : (word : ℕ) → word < 4 → (windows_at four.words word).ftti ≡ four.ftti
