-- The places of a row that want something.
use Rattle.std.specs.Prelude.{ℕ, not, List, count_by}
use Rattle.circuit.specs.declared.parts.Lit.{Lit}
use Rattle.collapse_map.specs.Fixed.{is_dash_literal}

-- how many places of a row have no dash
abbrev pub wants : List Lit → ℕ
wants row = count_by (λ lit. not (is_dash_literal lit)) row
