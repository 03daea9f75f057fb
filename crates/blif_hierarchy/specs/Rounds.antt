-- Rounds over the models: the number of each, and those of the models that it instances.
use Rattle.std.specs.Prelude.{ℕ, zero, suc, ◌+◌, min, Bool, if◌then◌else◌, List, map, zip, sum_by, slice_index, Vec}
use Rattle.std.specs.declared.alloc.Global.{Global}

-- the numbers one level deeper
abbrev pub next_round : ℕ → List ℕ → List (Vec ℕ Global) → List ℕ → List ℕ
next_round cap own callees before = map (λ p. min cap (p.0 + sum_by (λ k. slice_index before k) p.1.items)) (zip own callees)

-- the numbers after so many rounds
unfoldable pub rounds : ℕ → List ℕ → List (Vec ℕ Global) → List ℕ → ℕ → List ℕ
rounds cap own callees first zero = first
rounds cap own callees first (suc depth) = next_round cap own callees (rounds cap own callees first depth)

-- a test as a number
abbrev pub one_if : Bool → ℕ
one_if b = if b then 1 else 0
