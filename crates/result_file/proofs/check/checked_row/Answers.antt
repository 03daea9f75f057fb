use Rattle.std.proofs.Common.{length, ap, sym, ◌∙◌, arith}
use Rattle.campaign_plan.proofs.Small.{small_sums}
use Rattle.result_file.proofs.Checks.{small_more, sums_more, once_more, sums_equal}
use Rattle.result_file.proofs.CheckSteps.{unused_by, says_repeated, says_unused, says_sums, says_none}
use Rattle.result_file.proofs.check.checked_row.Goals as goal

pub returns-then-has_batch : goal.returns-then-has_batch
returns-then-has_batch c =
    says_repeated c.args.plan.now c.args.rows.now c.args.piece.now c.in-Some.row c.in-Some.ensures.0 c.in-Some.ensures.1
    (grind arith) (sym c.has_batch.ensures ∙ c.if-has_batch.true)

pub returns-then-has_unused_lane : goal.returns-then-has_unused_lane
returns-then-has_unused_lane c =
    says_unused c.args.plan.now c.args.rows.now c.args.piece.now c.in-Some.row c.in-Some.ensures.0 c.in-Some.ensures.1
    (grind arith) (sym c.has_batch.ensures ∙ c.if-has_batch.false) (unused_by c.args.plan.now c.len.result c.in-Some.row _ (sym (c.len.ensures.count ∙ ap length c.faults.ensures.value)) (sym c.has_unused_lane.ensures ∙ c.if-has_unused_lane.true))

pub plus-computed-requires : goal.plus-computed-requires
plus-computed-requires c =
    small_more c.args.plan.now c.args.rows.now c.in-Some.row c.args.sums.now c.own_sums.result (small_sums c.args.plan.now c.batches.ensures.plan) c.requires.distinct (grind arith)
    (sym c.has_batch.ensures ∙ c.if-has_batch.false) c.requires.sums c.own_sums.ensures

pub returns-then-not-are_same : goal.returns-then-not-are_same
returns-then-not-are_same c =
    let p = c.args.plan.now in
    let sums = c.plus-computed.ensures ∙ sums_more p c.args.rows.now c.in-Some.row c.args.sums.now c.own_sums.result c.requires.sums c.own_sums.ensures in
    says_sums p c.args.rows.now c.args.piece.now c.in-Some.row c.plus-computed.result c.in-Some.ensures.0 c.in-Some.ensures.1
    (grind arith) (sym c.has_batch.ensures ∙ c.if-has_batch.false) (unused_by c.args.plan.now c.len.result c.in-Some.row _ (sym (c.len.ensures.count ∙ ap length c.faults.ensures.value)) (sym c.has_unused_lane.ensures ∙ c.if-has_unused_lane.false)) sums (sym c.are_same.ensures ∙ c.if-not-are_same.true)

pub returns : goal.returns
returns c =
    let p = c.args.plan.now in
    let sums = c.plus-computed.ensures ∙ sums_more p c.args.rows.now c.in-Some.row c.args.sums.now c.own_sums.result c.requires.sums c.own_sums.ensures in
    let same = sym c.are_same.ensures ∙ c.if-not-are_same.false in
    let fresh = sym c.has_batch.ensures ∙ c.if-has_batch.false in (
      c.in-Some.ensures.0,
      says_none p c.args.rows.now c.args.piece.now c.in-Some.row c.plus-computed.result c.in-Some.ensures.0 c.in-Some.ensures.1
          (grind arith) fresh (unused_by c.args.plan.now c.len.result c.in-Some.row _ (sym (c.len.ensures.count ∙ ap length c.faults.ensures.value)) (sym c.has_unused_lane.ensures ∙ c.if-has_unused_lane.false)) sums same,
      sums_equal c.in-Some.row.sums c.plus-computed.result same ∙ sums,
      once_more p c.args.rows.now c.in-Some.row c.requires.distinct (grind arith) fresh,
    )
