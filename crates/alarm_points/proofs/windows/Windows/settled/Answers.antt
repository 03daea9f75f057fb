use Rattle.std.proofs.Common.{◌≡◌, List, length, get_or, ap, ◌∙◌, subst}
use Rattle.fm_base.specs.Lists.{some_below}
use Rattle.fm_base.specs.Planes.{bit}
use Rattle.alarm_points.specs.Watch.{Watch, Watches, no_watch}
use Rattle.alarm_points.proofs.windows.Windows.settled.Goals as goal

pub returns : goal.returns
returns c = λ k.
    let e : c.deref.result.now ≡ c.args.self.now.windows = c.deref.ensures.value ∙ ap (λ (ws : Watches). ws.windows) c.self.view_is in
    subst (λ (xs : List Watch). bit c.settled_in.result k ≡ some_below (length xs) (λ g. bit (get_or xs g no_watch).settled k)) e (c.settled_in.ensures no_watch k)
