use Rattle.std.proofs.Common.{◌≡◌, map, length, take}
use Rattle.refusals.specs.Steps.{shown_byte}
use Rattle.refusals.proofs.lines.shown_head.Given as goal

abbrev pub invariant-loop-byte : goal.invariant-loop-byte
invariant-loop-byte l = (l.line ≡ map shown_byte (take l.byte-index l.byte-items)) × (length l.line ≡ l.byte-index)
