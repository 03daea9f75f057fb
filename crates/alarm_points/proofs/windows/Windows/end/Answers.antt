use Rattle.std.proofs.Common.{◌≡◌, ◌<◌, ℕ, List, length, get_or, ap, ◌∙◌, subst}
use Rattle.fm_base.specs.Lists.{some_below}
use Rattle.fm_base.specs.Planes.{bit}
use Rattle.alarm_points.specs.Watch.{IsAfterPairs, Watch, Watches, lane_goes_unalarmed, no_watch}
use Rattle.alarm_points.proofs.windows.Windows.end.Goals as goal

pub returns : goal.returns
returns c = λ pairs k after lt.
    let e : c.deref.result.now ≡ c.args.self.now.windows = c.deref.ensures.value ∙ ap (λ (ws : Watches). ws.windows) c.self.view_is in
    let P = λ (xs : List Watch).
    ((g : ℕ) → g < length xs → IsAfterPairs (pairs g) (get_or xs g no_watch))
    → bit c.unalarmed_in.result k ≡ some_below (length xs) (λ g. lane_goes_unalarmed (get_or xs g no_watch).ftti (pairs g) k) in
    subst P e (λ held. c.unalarmed_in.ensures no_watch pairs k held lt) after
