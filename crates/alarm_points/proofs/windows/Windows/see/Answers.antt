use Rattle.std.proofs.Common.{◌≡◌, true, ◌<◌, [], ◌∷◌, ◌++◌, length, get_or, refl, ap, sym, ◌∙◌, subst, get_or-set_other, get_or-set_same}
use Rattle.std.specs.Prelude.{slice_set}
use Rattle.std.proofs.lemmas.List.{get_or_default}
use Rattle.fm_base.specs.Planes.{bit}
use Rattle.alarm_points.specs.Watch.{IsAfterPairs, KeepsIntervals, Pair, Watch, Watches, no_watch, window_at}
use Rattle.alarm_points.proofs.Rings.{map_set}
use Rattle.alarm_points.proofs.windows.Windows.see.Goals as goal

pub returns-clause-keeps : goal.returns-clause-keeps
returns-clause-keeps c =
    let xs = c.self.inside.windows.items in
    let new : Watches = record { ftti = c.self.inside.ftti; windows = slice_set xs c.args.goal c.see.new.self } in
    let inside : c.args.goal < length xs = subst (λ (ws : Watches). c.args.goal < length ws.windows) (sym c.self.view_is) c.requires in
    let P = λ (ws : Watches). KeepsIntervals ws new in
    subst P c.self.view_is (record {
      ftti = refl;
      intervals = map_set (λ (w : Watch). w.ftti) xs c.args.goal c.see.new.self c.index_mut.result.now inside
          (c.see.ensures.interval ∙ ap (λ (w : Watch). w.ftti) c.index_mut.ensures.value);
    })

pub returns-clause-step : goal.returns-clause-step
returns-clause-step c = λ pairs after.
    let xs = c.self.inside.windows.items in
    let pair : Pair = record { differs = c.args.differs; raised = c.args.raised } in
    let inside : c.args.goal < length xs = subst (λ (ws : Watches). c.args.goal < length ws.windows) (sym c.self.view_is) c.requires in
    let own : get_or xs c.args.goal no_watch ≡ c.index_mut.result.now =
    get_or_default xs c.args.goal no_watch c.index_mut.result.now inside ∙ sym c.index_mut.ensures.value in
    let before : IsAfterPairs pairs (get_or xs c.args.goal no_watch) =
    subst (λ (ws : Watches). IsAfterPairs pairs (window_at ws c.args.goal)) (sym c.self.view_is) after in
    subst (IsAfterPairs (pairs ++ pair ∷ [])) (sym (get_or-set_same xs c.args.goal c.see.new.self no_watch inside))
    (c.see.ensures.step pairs (subst (IsAfterPairs pairs) own before))

pub returns-clause-others : goal.returns-clause-others
returns-clause-others c = λ g other.
    let xs = c.self.inside.windows.items in
    let P = λ (ws : Watches). get_or (slice_set xs c.args.goal c.see.new.self) g no_watch ≡ window_at ws g in
    subst P c.self.view_is (get_or-set_other xs c.args.goal g c.see.new.self no_watch other)

pub returns-clause-stays : goal.returns-clause-stays
returns-clause-stays c = λ k lt is.
    let xs = c.self.inside.windows.items in
    let inside : c.args.goal < length xs = subst (λ (ws : Watches). c.args.goal < length ws.windows) (sym c.self.view_is) c.requires in
    let own : get_or xs c.args.goal no_watch ≡ c.index_mut.result.now =
    get_or_default xs c.args.goal no_watch c.index_mut.result.now inside ∙ sym c.index_mut.ensures.value in
    let before : bit (get_or xs c.args.goal no_watch).settled k ≡ true =
    subst (λ (ws : Watches). bit (window_at ws c.args.goal).settled k ≡ true) (sym c.self.view_is) is in
    ap (λ (w : Watch). bit w.settled k) (get_or-set_same xs c.args.goal c.see.new.self no_watch inside)
    ∙ c.see.ensures.stays k lt (subst (λ (w : Watch). bit w.settled k ≡ true) own before)
