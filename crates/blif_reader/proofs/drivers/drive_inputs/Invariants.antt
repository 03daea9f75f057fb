use Rattle.std.proofs.Common.{◌≡◌, drop, length, take}
use Rattle.blif_flatten.specs.Marks.{marked}
use Rattle.blif_reader.specs.Passes.{drives_twice, unmarked}
use Rattle.blif_reader.proofs.drivers.drive_inputs.Given as goal

-- what is left is as it was at the start, and what is past was driven
abbrev pub invariant-loop-id : goal.invariant-loop-id
invariant-loop-id l = record {
  left : drives_twice l.driven.items (unmarked l.clocks (drop l.id-index l.ids)) ≡ drives_twice l.initial.driven.items (unmarked l.clocks l.ids);
  grown : l.driven.items ≡ marked l.initial.driven.items (unmarked l.clocks (take l.id-index l.ids));
  size : length l.driven.items ≡ length l.initial.driven.items;
}
