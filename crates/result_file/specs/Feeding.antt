-- Shapes of private steps: cycles and digests as they are fed to a hasher. Nothing public cites them.
use Rattle.std.specs.Prelude.{ℕ, List, [], ◌∷◌, ◌++◌, codes, decimal}
use Rattle.std.specs.List.{flat_map}
use Rattle.std.specs.Str.{byte}
use Rattle.sha2.specs.Sha256.{sha256}
use Rattle.fm_base.specs.Names.{Bytes}
use Rattle.fm_base.specs.Text.{line}
use Rattle.result_file.specs.ResultText.{digest_text}

-- a comma and a number
abbrev pub after_comma : ℕ → Bytes
after_comma cycle = byte "," ∷ decimal cycle

-- the first number, and each other behind a comma, or `none`
abbrev pub cycles_fed : (cycles : List ℕ) → Bytes
cycles_fed [] = codes "none"
cycles_fed (cycle ∷ cycles) = decimal cycle ++ flat_map after_comma cycles

-- a line with the digest of a file's bytes
abbrev pub digest_line : Bytes → Bytes
digest_line bytes = line (digest_text (sha256 bytes) ∷ [])
