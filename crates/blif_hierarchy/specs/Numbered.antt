-- Lines that instance a model of a number.
use Rattle.std.specs.Prelude.{ℕ, false, ◌==◌, List, Option}
use Rattle.fm_base.specs.Firsts.{first_where, given}
use Rattle.blif_model.specs.Models.{Model, Instance, at_model, instances}

-- the number of a line that instances a model of this number
abbrev pub numbered_line : List Model → (Model → ℕ) → ℕ → Instance → Option ℕ
numbered_line models f number i = given (at_model models i.name (λ m. f m == number) false) i.line

-- the first such line of a model
abbrev pub first_numbered : List Model → (Model → ℕ) → ℕ → Model → Option ℕ
first_numbered models f number m = first_where (numbered_line models f number) (instances m)

-- the first line of a model that instances one of the number of its own
abbrev pub own_line : List Model → (Model → ℕ) → Model → Option ℕ
own_line models f m = first_numbered models f (f m) m

-- the first such line of a file
abbrev pub ring_line : List Model → (Model → ℕ) → Option ℕ
ring_line models f = first_where (own_line models f) models
