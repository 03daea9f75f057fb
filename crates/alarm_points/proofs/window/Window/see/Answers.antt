use Rattle.std.proofs.Common.{◌≡◌, true, ◌&&◌, ◌||◌, not, bit_or, get_or, set, refl, ap, sym, ◌∙◌, subst}
use Rattle.std.specs.Prelude.{if◌then◌else◌, nat_lt}
use Rattle.std.proofs.lemmas.Bool.{or_left}
use Rattle.fm_base.specs.Planes.{bit}
use Rattle.alarm_points.specs.Watch.{IsAfterPairs, Pair, Watch}
use Rattle.alarm_points.proofs.Rings.{after_pair}
use Rattle.alarm_points.proofs.window.Window.see.Goals as goal

pub returns-clause-step : goal.returns-clause-step
returns-clause-step c = λ pairs after.
    let was = c.self.inside in
    let pair : Pair = record { differs = c.args.differs; raised = c.args.raised } in
    let old : Watch = record {
      ftti = was.ftti;
      recent = was.recent.items;
      place = was.place;
      count = was.count;
      differed = was.differed;
      raised = was.raised;
      settled = was.settled;
    } in
    let loud = bit_or was.raised c.args.raised in
    let new : Watch = record {
      ftti = was.ftti;
      recent = set was.recent.items was.place c.args.differs;
      place = c.next_place-self-inside.result;
      count = c.count_up-self-inside.result;
      differed = bit_or was.differed c.args.differs;
      raised = loud;
      settled = c.with_quiet-self-inside.result;
    } in
    after_pair pairs pair old new c.self.invariant (subst (IsAfterPairs pairs) (sym c.self.view_is) after) (record {
      ftti = refl;
      recent = refl;
      place = c.next_place-self-inside.ensures.next;
      count = c.count_up-self-inside.ensures;
      differed = refl;
      raised = refl;
      settled = λ k lt.
          c.with_quiet-self-inside.ensures k lt
          ∙ ap (λ m. bit was.settled k || (bit m k && not (bit loud k)))
          (c.due-due.ensures
          ∙ ap (λ xs. if nat_lt was.count was.ftti then 0 else get_or xs c.next_place-self-inside.result 0) c.deref.ensures.value);
    })

pub returns-clause-stays : goal.returns-clause-stays
returns-clause-stays c = λ k lt is.
    c.with_quiet-self-inside.ensures k lt ∙ or_left _ _ (subst (λ (w : Watch). bit w.settled k ≡ true) (sym c.self.view_is) is)
