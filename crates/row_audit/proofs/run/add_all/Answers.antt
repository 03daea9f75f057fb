use Rattle.std.proofs.Common.{◌≡◌, ◌<◌, [], length, get_or, subst, arith}
use Rattle.std.proofs.lemmas.List.{get_or_default}
use Rattle.row_audit.specs.declared.watcher.Watcher.{Watcher}
use Rattle.row_audit.specs.Watched.{watcher_at}
use Rattle.row_audit.proofs.Stepped.{none_stepped, one_stepped}
use Rattle.row_audit.proofs.Steps.{Adds}
use Rattle.row_audit.proofs.run.add_all.Goals as goal

pub loop-word-init : goal.loop-word-init
loop-word-init c = none_stepped (Adds c.args.kind) (watcher_at [] 0) c.args.watchers.now

pub loop-word-preserved : goal.loop-word-preserved
loop-word-preserved c =
    let i = c.loop-word.word in
    let ws = c.loop-word.watchers in
    let none : Watcher = watcher_at [] 0 in
    let new = c.add_run.new.self in
    let inside : i < length ws = omega (arith, c.loop-word-test.true, c.loop-word.invariant.count) in
    let old : get_or ws i c.index-watchers-word.result ≡ get_or ws i none = get_or_default ws i c.index-watchers-word.result none inside in
    one_stepped (Adds c.args.kind) none c.args.watchers.now ws i new c.loop-word.invariant inside
    (subst (λ (w : Watcher). Adds c.args.kind i w new) old
    (record { batch = c.add_run.ensures.batch; windows = c.add_run.ensures.windows; planes = c.add_run.ensures.planes }))

pub returns-clause-batch : goal.returns-clause-batch
returns-clause-batch c = λ word lt. (c.loop-word.invariant.done word (omega (arith, lt, c.loop-word-test.false, c.loop-word.invariant.count))).batch

pub returns-clause-windows : goal.returns-clause-windows
returns-clause-windows c = λ word lt. (c.loop-word.invariant.done word (omega (arith, lt, c.loop-word-test.false, c.loop-word.invariant.count))).windows

pub returns-clause-planes : goal.returns-clause-planes
returns-clause-planes c = λ circuit points runs run faults word kind seen lt before.
    (c.loop-word.invariant.done word (omega (arith, lt, c.loop-word-test.false, c.loop-word.invariant.count))).planes circuit points runs run (faults word) kind (seen word lt) before
