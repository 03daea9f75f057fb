-- What is read off the table of weights.
use Rattle.std.proofs.Common.{◌≡◌, ℕ, ◌<◌, List, length, map, get_or, ap, ◌∙◌, arith}
use Rattle.std.proofs.lemmas.List.FromFn.{get_or-map-range_with_len, length-map-range_with_len}
use Rattle.fm_base.specs.Lists.{below}

-- a table over the numbers below n has the value of each
pub length_table : (f : ℕ → ℕ) (n : ℕ) (xs : List ℕ) → xs ≡ map f (below n) → length xs ≡ n
unfolding below
length_table f n xs e = ap length e ∙ length-map-range_with_len f 0 n

pub table_at : (f : ℕ → ℕ) (n : ℕ) (xs : List ℕ) (i d : ℕ) → xs ≡ map f (below n) → i < n → get_or xs i d ≡ f i
unfolding below
table_at f n xs i d e lt = ap (λ (ys : List ℕ). get_or ys i d) e ∙ get_or-map-range_with_len f 0 n i i d lt (omega arith)
