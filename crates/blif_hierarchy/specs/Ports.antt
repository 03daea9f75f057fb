-- The formals of models and of bindings, each once.
use Rattle.std.specs.Prelude.{List, [], flat_map, fold}
use Rattle.fm_base.specs.Names.{Name, has_repeat}
use Rattle.fm_base.specs.Index.{with_name}
use Rattle.blif_model.specs.LineFault.{Said}
use Rattle.blif_model.specs.Models.{Model, formal_inputs, formals}
use Rattle.blif_model.specs.ModelSteps.{formal_names, port_names}
use Rattle.blif_hierarchy.specs.declared.ports.BoundNames.{BoundNames}
use Rattle.blif_hierarchy.specs.declared.ports.Ports.{Ports}

-- the names, each once
abbrev pub once : List Name → List Name
once names = fold with_name [] names

-- the formals of a model
abbrev pub ports_of : Model → Ports
ports_of m = record { formals = once (formals m); inputs = once (formal_inputs m) }

-- those that its lines bring
abbrev pub ports_among : List Said → Ports
ports_among lines = record {
  formals = once (flat_map (λ line. port_names line.says) lines);
  inputs = once (flat_map (λ line. formal_names line.says) lines);
}

-- the formals that are bound
abbrev pub bound_in : List Name → BoundNames
bound_in names = record { formals = once names; is_twice = has_repeat names }
