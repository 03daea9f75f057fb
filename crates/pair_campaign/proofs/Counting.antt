-- How many of the first numbers pass a test.
use Rattle.std.proofs.Common.{◌≡◌, ℕ, Bool, refl}
use Rattle.std.specs.Prelude.{count_by}
use Rattle.fm_base.specs.Lists.{below}

pub count_none : (test : ℕ → Bool) → 0 ≡ count_by test (below 0)
unfolding below
count_none test = refl
