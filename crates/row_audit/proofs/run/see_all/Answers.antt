use Rattle.std.proofs.Common.{◌≡◌, ◌<◌, [], ap, ◌∙◌, length, get_or, subst, arith}
use Rattle.std.proofs.lemmas.List.{get_or_default}
use Rattle.classifier.proofs.WindowCounts.{window_count}
use Rattle.row_audit.specs.declared.watcher.Watcher.{Watcher}
use Rattle.row_audit.specs.Watched.{watcher_at}
use Rattle.row_audit.proofs.Stepped.{none_stepped, one_stepped}
use Rattle.row_audit.proofs.Steps.{Sees}
use Rattle.row_audit.proofs.run.see_all.Goals as goal

pub see_cycle-requires-clause-windows : goal.see_cycle-requires-clause-windows
see_cycle-requires-clause-windows g c =
    let i = c.loop-word.word in
    let ws = c.loop-word.watchers in
    let before : i < length c.args.watchers.now = omega (arith, c.loop-word-test.true, c.loop-word.invariant.count) in
    let inside : i < length ws = omega (arith, c.loop-word-test.true, c.loop-word.invariant.count) in
    ap (λ (w : Watcher). length w.windows.windows) (get_or_default ws i c.index-watchers-word.result (watcher_at [] 0) inside ∙ c.loop-word.invariant.left i (omega arith))
    ∙ window_count c.args.points.now (watcher_at c.args.watchers.now i).windows (c.requires.seen.2 i before).made

pub loop-word-init : goal.loop-word-init
loop-word-init g c = none_stepped (Sees (g.B.Circuits.IsAfter c.args.circuits.now) (g.B.Circuits.loaded c.args.circuits.now) c.args.points.now) (watcher_at [] 0) c.args.watchers.now

pub loop-word-preserved : goal.loop-word-preserved
loop-word-preserved g c =
    let i = c.loop-word.word in
    let ws = c.loop-word.watchers in
    let none : Watcher = watcher_at [] 0 in
    let new = c.see_cycle.new.watcher in
    let step = Sees (g.B.Circuits.IsAfter c.args.circuits.now) (g.B.Circuits.loaded c.args.circuits.now) c.args.points.now in
    let inside : i < length ws = omega (arith, c.loop-word-test.true, c.loop-word.invariant.count) in
    let old : get_or ws i c.index-watchers-word.result ≡ get_or ws i none = get_or_default ws i c.index-watchers-word.result none inside in
    one_stepped step none c.args.watchers.now ws i new c.loop-word.invariant inside
    (subst (λ (w : Watcher). step i w new) old (record { keeps = c.see_cycle.ensures.keeps; seen = c.see_cycle.ensures.seen }))

pub returns-clause-keeps : goal.returns-clause-keeps
returns-clause-keeps g c = λ word lt. (c.loop-word.invariant.done word (omega (arith, lt, c.loop-word-test.false, c.loop-word.invariant.count))).keeps

pub returns-clause-seen : goal.returns-clause-seen
returns-clause-seen g c = λ run t within at seen word lt.
    let before : word < length c.args.watchers.now = omega (arith, lt, c.loop-word.invariant.count) in
    (c.loop-word.invariant.done word (omega (arith, before, c.loop-word-test.false, c.loop-word.invariant.count))).seen run t within at (seen word before)
