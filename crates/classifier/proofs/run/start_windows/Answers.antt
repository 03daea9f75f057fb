use Rattle.std.proofs.Common.{◌≡◌, ◌<◌, ℕ, [], length, map, get_or, refl, ap, sym, ◌∙◌, subst, arith, length-set}
use Rattle.std.proofs.lemmas.List.{get_or_default}
use Rattle.alarm_points.specs.Interval.{interval_of}
use Rattle.alarm_points.specs.Watch.{AreMadeFor, KeepsIntervals, Watches, intervals}
use Rattle.testbench.specs.Load.{in_lane}
use Rattle.alarm_points.specs.FourWatches.{windows_at}
use Rattle.classifier.specs.Seen.{HaveSeen, known_at}
use Rattle.classifier.proofs.EachWord.{each_set, each_set_one}
use Rattle.classifier.proofs.Views.{unseen}
use Rattle.classifier.proofs.run.start_windows.Goals as goal

pub loop-word-preserved : goal.loop-word-preserved
loop-word-preserved c =
    let i = c.loop-word.word in
    let ws = c.loop-word.windows in
    let ns = c.loop-word.left in
    let inv = c.loop-word.invariant in
    let points = c.args.points.now in
    let new = c.start.new.self in
    let inside : i < length ws = omega (arith, c.loop-word-test.true, c.loop-word.auto.windows) in
    let also : i < length ns = omega (arith, inside, c.loop-word.auto.windows, c.loop-word.auto.left, c.requires.left) in
    let none : Watches = windows_at [] 0 in
    let silent : ℕ = 0 in
    let old : get_or ws i c.index-windows-word.result ≡ windows_at ws i = get_or_default ws i c.index-windows-word.result none inside in
    let made : AreMadeFor points new =
    c.start.ensures.keeps.intervals ∙ subst (λ (w : Watches). AreMadeFor points w) (sym old) (inv.made i inside)
    ∙ ap (λ f. map (interval_of f) points.goals) (sym c.start.ensures.keeps.ftti) in
    record {
      made = λ word lt.
          each_set_one (λ j w. AreMadeFor points w) ws i new none inside made word (λ apart. inv.made word (subst (λ n. word < n) (length-set ws i new) lt));
      seen = λ circuit run faults decided word lt.
          each_set (λ j w n. HaveSeen circuit points run (in_lane faults j) (known_at decided j) 0 w n) ws ns i new none silent silent inside also
          (unseen circuit points run (in_lane faults i) (known_at decided i) new made c.start.ensures.start) word
          (λ apart. let before : word < i = omega (arith, apart, lt) in inv.seen circuit run faults decided word before);
      intervals = λ word.
          each_set_one (λ j w. KeepsIntervals (windows_at c.args.windows.now j) w) ws i new none inside
          (record {
            ftti = c.start.ensures.keeps.ftti ∙ ap (λ (w : Watches). w.ftti) old ∙ (inv.intervals i).ftti;
            intervals = c.start.ensures.keeps.intervals ∙ ap (λ (w : Watches). intervals w) old ∙ (inv.intervals i).intervals;
          })
          word (λ apart. inv.intervals word);
    }

pub loop-word-init : goal.loop-word-init
loop-word-init c = record {
  made = c.requires.made;
  seen = λ circuit run faults decided word lt. absurd (omega (arith, lt));
  intervals = λ word. record { ftti = refl; intervals = refl };
}
