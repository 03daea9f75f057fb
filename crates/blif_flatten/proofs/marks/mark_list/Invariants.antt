use Rattle.std.proofs.Common.{◌≡◌, take}
use Rattle.blif_flatten.specs.Marks.{marked}
use Rattle.blif_flatten.proofs.marks.mark_list.Given as goal

abbrev pub invariant-loop-id : goal.invariant-loop-id
invariant-loop-id l = l.marks ≡ marked l.initial.marks (take l.id-index l.ids)
