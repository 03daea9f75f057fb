use Rattle.std.proofs.Common.{◌≡◌, ◌<◌, [], length, get_or, subst, arith}
use Rattle.std.proofs.lemmas.List.{get_or_default}
use Rattle.row_audit.specs.declared.watcher.Watcher.{Watcher}
use Rattle.row_audit.specs.Watched.{watcher_at}
use Rattle.row_audit.proofs.Stepped.{none_stepped, one_stepped}
use Rattle.row_audit.proofs.Steps.{Starts}
use Rattle.row_audit.proofs.run.start_all.Goals as goal

pub loop-word-init : goal.loop-word-init
loop-word-init c = none_stepped Starts (watcher_at [] 0) c.args.watchers.now

pub loop-word-preserved : goal.loop-word-preserved
loop-word-preserved c =
    let i = c.loop-word.word in
    let ws = c.loop-word.watchers in
    let none : Watcher = watcher_at [] 0 in
    let new = c.start.new.self in
    let inside : i < length ws = omega (arith, c.loop-word-test.true, c.loop-word.invariant.count) in
    let old : get_or ws i c.index-watchers-word.result ≡ get_or ws i none = get_or_default ws i c.index-watchers-word.result none inside in
    one_stepped Starts none c.args.watchers.now ws i new c.loop-word.invariant inside
    (subst (λ (w : Watcher). Starts i w new) old (record { keeps = c.start.ensures.keeps; seen = c.start.ensures.seen }))

pub returns-clause-keeps : goal.returns-clause-keeps
returns-clause-keeps c = λ word lt. (c.loop-word.invariant.done word (omega (arith, lt, c.loop-word-test.false, c.loop-word.invariant.count))).keeps

pub returns-clause-seen : goal.returns-clause-seen
returns-clause-seen c = λ circuit run faults word lt.
    let before : word < length c.args.watchers.now = omega (arith, lt, c.loop-word.invariant.count) in
    (c.loop-word.invariant.done word (omega (arith, before, c.loop-word-test.false, c.loop-word.invariant.count))).seen circuit c.args.points.now run (faults word)
    (c.requires word before).made
