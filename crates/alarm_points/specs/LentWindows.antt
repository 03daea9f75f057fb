-- What four words of windows are once the words are no longer lent.
use Rattle.std.specs.Prelude.{List, ◌++◌, length, take, drop}
use Rattle.std.specs.Borrow.{Array, Fml, Lends, MutBor}
use Rattle.alarm_points.specs.FourWatches.{FourWatches}
use Rattle.alarm_points.specs.Watch.{Watches}
use Rattle.alarm_points.specs.contracts.windows.Windows.{the_row as windows_row}
use Rattle.alarm_points.specs.contracts.windows4.Windows4.{the_row}

-- as many words as before: those that are left, cut or filled up
abbrev pub as_many : List Watches → List Watches → List Watches
as_many words left = take (length words) (left ++ drop (length left) words)

-- the words are those that were left behind the result, and the interval is as it was
abbrev pub LendsWords : MutBor FourWatches → MutBor (List Watches) → Fml
LendsWords four words = Lends the_row (Array windows_row 0) four words (λ left. record four.now { words = as_many four.now.words left })
