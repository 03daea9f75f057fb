use Rattle.std.proofs.Common.{◌≡◌, ◌<◌, ℕ, [], List, length, get_or, sym, subst}
use Rattle.std.specs.Vec.{with_items}
use Rattle.std.proofs.lemmas.Grind.{common_steps}
use Rattle.std.proofs.Common.{arith}
use Rattle.alarm_points.specs.Watch.{IsAfterPairs, Watch, no_watch}
use Rattle.alarm_points.proofs.windows.Windows.start.Goals as goal

pub returns-clause-start : goal.returns-clause-start
returns-clause-start c =
    let e : (with_items c.self.inside.windows c.start_all.new.windows).items ≡ c.start_all.new.windows = grind (arith, common_steps) in
    let P = λ (xs : List Watch). (g : ℕ) → g < length xs → IsAfterPairs [] (get_or xs g no_watch) in
    subst P (sym e) (λ g lt. c.start_all.ensures.start g no_watch lt)
