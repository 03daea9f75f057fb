use Rattle.std.proofs.Common.{◌+◌, ◌*◌, ◌≤◌, length}
use Rattle.std.specs.Prelude.{Option}
use Rattle.blif_model.specs.Models.{items_of}
use Rattle.blif_model.specs.Walk.{enter, steps_from}
use Rattle.blif_flatten.specs.Seen.{scope_at}
use Rattle.blif_flatten.specs.Walked.{IsWalkedOn}
use Rattle.blif_flatten.specs.declared.walked.Walked.{Walked}
use Rattle.blif_flatten.proofs.walk.+walk.Given as goal

abbrev pub decreases-walk_instance : goal.decreases-walk_instance
decreases-walk_instance l = 3 * l.depth

abbrev pub decreases-walk_item : goal.decreases-walk_item
decreases-walk_item l = 3 * l.depth + 1

abbrev pub decreases-walk_lines : goal.decreases-walk_lines
decreases-walk_lines l = 3 * l.depth + 2

-- how the walk goes on by the lines that are left, it goes on by all of them
abbrev pub invariant-walk_lines-lines : goal.invariant-walk_lines-lines
invariant-walk_lines-lines l = record {
  on : (o : Option Walked) → IsWalkedOn l.walked (steps_from (enter l.models l.depth) (scope_at l.place) l.instance (items_of l.rest)) o
      → IsWalkedOn l.fn.walked (steps_from (enter l.models l.depth) (scope_at l.place) 0 (items_of l.lines)) o;
  room : l.instance + length l.rest ≤ length l.lines;
}

abbrev pub decreases-walk_lines-lines : goal.decreases-walk_lines-lines
decreases-walk_lines-lines l = length l.rest
