-- Words as they are added to a line, one by one.
use Rattle.std.specs.Prelude.{◌∷◌}
use Rattle.std.specs.Borrow.{Bor}
use Rattle.fm_base.specs.Names.{Bytes}

-- a space, and a word behind it
abbrev pub after_space : Bor Bytes → Bytes
after_space word = 32 ∷ word.now
