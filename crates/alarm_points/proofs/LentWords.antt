-- Words of windows that were lent and given back.
use Rattle.std.proofs.Common.{◌≡◌, List, length, take, drop, ◌++◌, ap, sym, ◌∙◌}
use Rattle.std.proofs.Math.Seq.{take-append_seam}
use Rattle.alarm_points.specs.LentWindows.{as_many}
use Rattle.alarm_points.specs.Watch.{Watches}

-- where as many are left as were lent, they are the words
pub as_many_all : (words left : List Watches) → length left ≡ length words → as_many words left ≡ left
as_many_all words left same = ap (λ n. take n (left ++ drop (length left) words)) (sym same) ∙ take-append_seam left (drop (length left) words)
