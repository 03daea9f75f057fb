use Rattle.std.proofs.Common.{◌≡◌, ◌++◌, drop, length}
use Rattle.blif_reader.specs.Parts.{first_ids}
use Rattle.blif_reader.proofs.outputs.first_ids.Given as goal

abbrev pub invariant-loop-name : goal.invariant-loop-name
invariant-loop-name l = record {
  left : l.firsts.items ++ first_ids l.seen.items (drop l.name-index l.names) ≡ first_ids l.initial.seen.items l.names;
  size : length l.seen.items ≡ length l.initial.seen.items;
}
