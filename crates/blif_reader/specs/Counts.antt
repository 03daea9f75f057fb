-- What is counted of a line and of a model.
use Rattle.std.specs.Prelude.{ℕ, List}
use Rattle.fm_base.specs.Names.{Name}
use Rattle.blif_model.specs.Models.{Model, cell_count, main_of, sum_over_instances}
use Rattle.blif_model.specs.ModelSteps.{cells_from, instance_count}
use Rattle.blif_model.specs.Statement.{Statement, instance}
use Rattle.blif_reader.specs.declared.counts.Count.{Count}
use Rattle.blif_reader.specs.declared.counts.Count.TheVariants.{Instances, Cells, Mentions}
use Rattle.blif_reader.specs.Mentions.{mention_count, mentions_on}

-- the instance of a `.subckt` line
abbrev pub instances_on : Statement → ℕ
instances_on (instance name bindings) = 1
instances_on _ = 0

-- of a line with these rows below it
abbrev pub count_on : Count → Statement → List (List Name) → ℕ
count_on Instances says rows = instances_on says
count_on Cells says rows = cells_from rows says
count_on Mentions says rows = mentions_on says

-- of a model's own lines
abbrev pub model_count : Count → Model → ℕ
model_count Instances m = instance_count m
model_count Cells m = cell_count m
model_count Mentions m = mention_count m

-- of the flattened main model
abbrev pub main_count : Count → List Model → ℕ
main_count count models = sum_over_instances (model_count count) models 32 (main_of models)
