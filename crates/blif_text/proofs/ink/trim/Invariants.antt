use Rattle.std.proofs.Common.{◌≡◌, ◌+◌, ◌≤◌, length, take}
use Rattle.std.specs.List.{suffix_len}
use Rattle.blif_text.specs.Lines.{is_white}
use Rattle.blif_text.proofs.ink.trim.Given as goal

abbrev pub invariant-loop-n : goal.invariant-loop-n
invariant-loop-n l = (l.n ≤ length l.text) × (l.n + suffix_len is_white l.text ≡ length l.text + suffix_len is_white (take l.n l.text))

abbrev pub decreases-loop-n : goal.decreases-loop-n
decreases-loop-n l = l.n
