-- Shapes of private steps: how a netlist and a workload are put together line by line. Nothing public cites them.
use Rattle.std.specs.Prelude.{ℕ, ◌-◌, ◌%◌, [], ◌∷◌, ◌++◌, if◌then◌else◌, ◌==◌, codes, decimal}
use Rattle.fm_base.specs.Text.{line}
use Rattle.fm_base.specs.Names.{Bytes}

-- a letter and a number, as `m7`
abbrev pub with_number : Bytes → ℕ → Bytes
with_number letter i = letter ++ decimal i

-- what stage i of a row of latches reads: `d` for the first, and else the latch before it
abbrev pub source_of : Bytes → ℕ → Bytes
source_of letter i = if i == 1 then codes "d" else with_number letter (i - 1)

-- stage i of a row of latches: an inverter, and a latch behind it
abbrev pub stage_lines : (inverter latch : Bytes) → ℕ → Bytes
stage_lines inverter latch i =
    line (codes ".names" ∷ source_of latch i ∷ with_number inverter i ∷ []) ++ codes "0 1\n"
    ++ line (codes ".latch" ∷ with_number inverter i ∷ with_number latch i ∷ codes "0" ∷ [])

-- stage i of the mission's row, and of the shadow's
abbrev pub both_stages : ℕ → Bytes
both_stages i = stage_lines (codes "m") (codes "a") i ++ stage_lines (codes "n") (codes "b") i

-- the row of cycle t
abbrev pub vector_line : ℕ → Bytes
vector_line t = if t % 3 == 0 then codes "w,mission,1\n" else codes "w,mission,0\n"
