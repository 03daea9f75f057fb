use Rattle.std.proofs.Common.{◌≡◌, ◌&&◌, ◌||◌, not, length, ap₂, sym, ◌∙◌, subst}
use Rattle.alarm_points.specs.Watch.{IsAfterPairs, Watch, differs_in, lane_goes_unalarmed, raised_in}
use Rattle.fm_base.specs.Planes.{bit}
use Rattle.alarm_points.proofs.Settled.{unalarmed_is}
use Rattle.alarm_points.proofs.window.Window.end.Goals as goal

pub returns : goal.returns
returns c = λ pairs k after lt.
    let was = c.self.inside in
    let now : Watch = record {
      ftti = was.ftti;
      recent = was.recent.items;
      place = was.place;
      count = was.count;
      differed = was.differed;
      raised = was.raised;
      settled = was.settled;
    } in
    let shown : IsAfterPairs pairs now = subst (IsAfterPairs pairs) (sym c.self.view_is) after in
    let P = λ (w : Watch). bit c.with_quiet.result k ≡ lane_goes_unalarmed w.ftti pairs k in
    subst P c.self.view_is
    (c.with_quiet.ensures k lt
    ∙ ap₂ (λ a b. a || b) (shown.settled k lt) (ap₂ (λ a b. a && not b) (shown.differed k lt) (shown.raised k lt))
    ∙ sym (unalarmed_is was.ftti (length pairs) (differs_in pairs k) (raised_in pairs k)))
