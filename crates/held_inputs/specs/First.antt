-- The first cycle that is spoken of: from then on each held input has its later value.
use Rattle.std.specs.Prelude.{ℕ, List, fold, if◌then◌else◌, nat_le}
use Rattle.coverage_claim.specs.declared.parts.Held.{Held}

-- the greater of a cycle and the one from which an input is held
abbrev pub later_of : ℕ → Held → ℕ
later_of first h = if nat_le first h.from then h.from else first

-- the greatest of the cycles from which inputs are held; 0 where none is
abbrev pub first_cycle : List Held → ℕ
first_cycle held = fold later_of 0 held
