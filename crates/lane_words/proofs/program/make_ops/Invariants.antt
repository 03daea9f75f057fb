use Rattle.std.proofs.Common.{◌≡◌, ◌<◌, ℕ, length, get_or}
use Rattle.lane_words.specs.declared.gate.Masks.{Masks}
use Rattle.lane_words.specs.Gates.{IsOp}
use Rattle.lane_words.proofs.program.make_ops.Given as goal

abbrev pub invariant-loop-op : goal.invariant-loop-op
invariant-loop-op g l =
    (length l.masks.items ≡ l.op)
    × ((op : ℕ) (d : Masks g.row.W.Denot) → op < l.op → IsOp g.W.Word.lanes g.W.Word.lane_bit op (get_or l.masks.items op d))
