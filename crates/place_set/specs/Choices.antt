-- Words of four sets, or their summaries, as a search for chosen places sees them.
use Rattle.std.specs.Prelude.{◌≡◌, ℕ, ◌&&◌, ◌||◌, Bool, List, length}
use Rattle.place_set.specs.declared.words.Choice.{Choice}
use Rattle.place_set.specs.Places.{is_chosen, value_in}

-- there are as many words of each
pub record AreAlike (sets : Choice) : Type 0 where
  pub ones : length sets.ones.now ≡ length sets.zeros.now
  pub some : length sets.some.now ≡ length sets.zeros.now
  pub others : length sets.others.now ≡ length sets.zeros.now

-- a place is chosen out of them
abbrev pub is_chosen_of : List ℕ → Choice → ℕ → Bool
is_chosen_of row sets p = is_chosen row sets.zeros.now sets.ones.now sets.some.now sets.others.now p

-- by their summaries, a word may have such a place
abbrev pub is_noted : Choice → ℕ → Bool
is_noted notes i = (value_in notes.zeros.now i || value_in notes.ones.now i) || (value_in notes.some.now i && value_in notes.others.now i)
