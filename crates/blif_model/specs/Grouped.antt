-- The models that lines make.
use Rattle.std.specs.Prelude.{List, map}
use Rattle.blif_model.specs.Models.{Model, items_of}
use Rattle.blif_model.specs.declared.models.ModelLines.{ModelLines}

-- the model of its lines
abbrev pub model_of : ModelLines → Model
model_of m = record { name = m.name.now; line = m.line; items = items_of m.items.now }

-- the models of a file
abbrev pub models_seen : List ModelLines → List Model
models_seen models = map model_of models
