-- The first number that passes a test.
use Rattle.std.proofs.Common.{◌≡◌, ℕ, ◌<◌, Bool, false, arith}
use Rattle.std.specs.Prelude.{find, None}
use Rattle.fm_base.specs.Lists.{below}
use Rattle.result_merge.proofs.Looking.{none_passes}

-- where none is found, no number below the bound passes
pub find_none_at : (test : ℕ → Bool) (n k : ℕ) → k < n → find test (below n) ≡ None → test k ≡ false
unfolding below
find_none_at test n k lt e = none_passes test 0 n e k (omega arith) (omega (arith, lt))
