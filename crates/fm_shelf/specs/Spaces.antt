-- Words as they go out, one by one.
use Rattle.std.specs.Prelude.{ℕ, List, [], ◌∷◌, ◌++◌}
use Rattle.std.specs.Borrow.{Bor}

-- a word and a space behind it
abbrev pub with_space : Bor (List ℕ) → List ℕ
with_space word = word.now ++ 32 ∷ []
