use Rattle.std.proofs.Common.{◌≡◌, ◌≢◌, ◌<◌, ◌∷◌, ◌++◌, ℕ, [], length, get_or, ap, sym, ◌∙◌, subst, arith, get_or-set_other}
use Rattle.std.specs.Prelude.{slice_index_or}
use Rattle.std.proofs.lemmas.List.{get_or_default}
use Rattle.alarm_points.specs.FourWatches.{windows_at}
use Rattle.alarm_points.specs.Watch.{IsAfterPairs, KeepsIntervals, Pair, Watches, intervals, window_at}
use Rattle.classifier.specs.Noise.{noise_at}
use Rattle.classifier.proofs.EachWord.{each_set_one}
use Rattle.classifier.proofs.see.see_goal.Goals as goal

pub see-requires : goal.see-requires
see-requires c =
    let i = c.loop-word.word in
    let ws = c.loop-word.windows in
    let began = c.args.windows.now in
    let none : Watches = windows_at [] 0 in
    let inside : i < length ws = omega (arith, c.loop-word-test.true, c.loop-word.auto.windows) in
    let old : get_or ws i c.index-windows-word.result ≡ windows_at began i = get_or_default ws i c.index-windows-word.result none inside ∙ c.loop-word.invariant.left i (omega arith) in
    subst (λ (w : Watches). c.args.goal < length w.windows) (sym old) (c.requires.goal i (omega (arith, c.loop-word-test.true)))

pub loop-word-preserved : goal.loop-word-preserved
loop-word-preserved c =
    let i = c.loop-word.word in
    let ws = c.loop-word.windows in
    let began = c.args.windows.now in
    let at = c.args.goal in
    let inv = c.loop-word.invariant in
    let none : Watches = windows_at [] 0 in
    let new = c.see.new.self in
    let pair_of : ℕ → Pair = λ j. record { differs = slice_index_or c.args.differs.now j 0; raised = (noise_at c.args.noise.now j).raised } in
    let inside : i < length ws = omega (arith, c.loop-word-test.true, c.loop-word.auto.windows) in
    let old : get_or ws i c.index-windows-word.result ≡ windows_at began i = get_or_default ws i c.index-windows-word.result none inside ∙ inv.left i (omega arith) in
    record {
      keeps = λ word.
          each_set_one (λ j w. KeepsIntervals (windows_at began j) w) ws i new none inside
          (record { ftti = c.see.ensures.keeps.ftti ∙ ap (λ (w : Watches). w.ftti) old; intervals = c.see.ensures.keeps.intervals ∙ ap (λ (w : Watches). intervals w) old })
          word (λ apart. inv.keeps word);
      others = λ word g apart.
          each_set_one (λ j w. window_at w g ≡ window_at (windows_at began j) g) ws i new none inside
          (c.see.ensures.others g apart ∙ ap (λ (w : Watches). window_at w g) old) word (λ away. inv.others word g apart);
      done = λ word pairs lt after.
          each_set_one (λ j w. IsAfterPairs pairs (window_at (windows_at began j) at) → IsAfterPairs (pairs ++ pair_of j ∷ []) (window_at w at)) ws i new none inside
          (λ is. c.see.ensures.step pairs (subst (λ (w : Watches). IsAfterPairs pairs (window_at w at)) (sym old) is))
          word (λ apart. inv.done word pairs (omega (arith, lt, apart))) after;
      left = λ word le.
          let apart : word ≢ i = omega (arith, le) in
          get_or-set_other ws i word new none apart ∙ inv.left word (omega (arith, le));
    }

pub returns-clause-step : goal.returns-clause-step
returns-clause-step c = λ word pairs lt after. c.loop-word.invariant.done word pairs (omega (arith, lt, c.loop-word-test.false, c.loop-word.auto.windows)) after
