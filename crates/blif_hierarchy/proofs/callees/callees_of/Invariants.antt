use Rattle.std.proofs.Common.{◌≡◌, ◌<◌, filter_map, length, take}
use Rattle.std.specs.Prelude.{All}
use Rattle.blif_hierarchy.specs.Callees.{callee_of, models_at}
use Rattle.blif_hierarchy.specs.Lines.{instance_answer}
use Rattle.blif_hierarchy.proofs.callees.callees_of.Given as goal

abbrev pub invariant-loop-line : goal.invariant-loop-line
invariant-loop-line l = record {
  within : All (λ k. k < length l.models) l.places.items;
  models : models_at l.models l.places.items ≡ filter_map (instance_answer (callee_of l.models)) (take l.line-index l.lines);
}
