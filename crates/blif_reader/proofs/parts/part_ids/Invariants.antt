use Rattle.std.proofs.Common.{◌≡◌, length, map, take}
use Rattle.std.specs.Prelude.{flat_map}
use Rattle.blif_flatten.specs.Flat.{AreBelow, name_at}
use Rattle.blif_flatten.specs.Flattened.{flat_steps}
use Rattle.blif_reader.specs.Parts.{names_of_part}
use Rattle.blif_reader.proofs.parts.part_ids.Given as goal

abbrev pub invariant-loop-place : goal.invariant-loop-place
invariant-loop-place l = record {
  names : map (name_at l.flat.names) l.ids.items ≡ flat_map (λ s. names_of_part l.part s.act) (take l.place (flat_steps l.flat));
  within : AreBelow (length l.flat.names) l.ids.items;
}
