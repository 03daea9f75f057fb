-- What the position of a line means.
use Rattle.std.specs.Prelude.{◌≡◌, List}
use Rattle.std.specs.Option.{option_map}
use Rattle.blif_model.specs.LineFault.{Said, is_inside, table_above, plane_above}
use Rattle.blif_model.specs.Tokens.{texts_of}
use Rattle.blif_model.specs.declared.position.Position.{Position}

-- it is that of the line behind these
pub record IsBehind (before : List Said) (position : Position) : Type 0 where
  pub inside : position.inside ≡ is_inside before
  pub table : option_map (λ ins. texts_of ins.now) position.table ≡ table_above before
  pub output : option_map (λ output. output.now) position.output ≡ plane_above before
