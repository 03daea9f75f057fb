use Rattle.std.proofs.Common.{◌≡◌, ◌<◌, ◌==◌, false, vec_len, sym, ◌∙◌, arith}
use Rattle.std.specs.List.{list_any}
use Rattle.std.proofs.lemmas.List.{get_or_read_under}
use Rattle.campaign_board.specs.Boards.{batches_of}
use Rattle.campaign_board.proofs.Marking.{missing_none, missing_push, missing_skip}
use Rattle.campaign_board.proofs.missing.missing_batches.Goals.{then-not-index+in_ok-push, else-not-index}
use Rattle.campaign_board.proofs.missing.missing_batches.Goals as goal

pub loop-batch-init : goal.loop-batch-init
loop-batch-init c = c.new-todo.ensures ∙ sym (missing_none (batches_of c.args.rows.now))

pub loop-batch-preserved : goal.loop-batch-preserved
loop-batch-preserved c =
    let marks = c.in_ok-marks.marks in
    let batch = c.loop-batch.batch in
    let kept = batches_of c.args.rows.now in
    let lt = c.loop-batch-test.true in
    let in_len : batch < vec_len marks = omega (arith, c.in_ok-marks.ensures.len) in
    let mark : c.index.result.now ≡ list_any (λ other. other == batch) kept =
    get_or_read_under marks.items batch (vec_len marks) c.index.result.now false c.index.ensures in_len (omega (arith, marks.ok.0)) ∙ c.in_ok-marks.ensures.marks batch lt in
    elim c.if-not-index.branch [
      | then-not-index+in_ok-push w ↦ missing_push batch kept c.loop-batch.todo c.if-not-index.todo c.index.result.now c.loop-batch.invariant mark w.if-not-index.true (w.todo-is ∙ w.in_ok-push.ensures.ok)
      | else-not-index w ↦ missing_skip batch kept c.loop-batch.todo c.if-not-index.todo c.index.result.now c.loop-batch.invariant mark w.if-not-index.false w.todo-is
    ]
