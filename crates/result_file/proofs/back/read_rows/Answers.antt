use Rattle.std.proofs.Common.{◌≡◌, ◌+◌, ◌*◌, ◌++◌, ◌∷◌, [], map, subst, arith}
use Rattle.std.specs.Prelude.{Some, None, slice_range}
use Rattle.std.proofs.lemmas.Grind.{common_steps}
use Rattle.campaign_plan.specs.Batches.{total}
use Rattle.result_file.specs.KeptRows.{whole_pieces, entry_of}
use Rattle.result_file.specs.Steps.{fault_over}
use Rattle.campaign_plan.specs.Batches.{AreDistinct}
use Rattle.result_file.proofs.Pieces.{length-pieces, piece_cut, read_more, read_bad, read_all}
use Rattle.result_file.proofs.back.read_rows.Goals as goal

pub returns-in-Err : goal.returns-in-Err
returns-in-Err c =
    let p = c.args.plan.now in
    let k = c.loop-k.k in
    let lt = c.loop-k-test.true in
    read_bad p (whole_pieces c.args.bytes.now) k c.loop-k.rows c.loop-k.sums _ c.in-Err.why c.loop-k.invariant
    (omega (arith, lt, length-pieces c.args.bytes.now)) (piece_cut c.args.bytes.now k lt)
    (subst (λ rows. fault_over p rows (slice_range c.args.bytes.now (89 + 130 * k) (89 + 130 * k + 130)) ≡ Some c.in-Err.why) c.as_slice.ensures c.in-Err.ensures)

pub loop-k-preserved : goal.loop-k-preserved
loop-k-preserved c =
    let p = c.args.plan.now in
    let k = c.loop-k.k in
    let lt = c.loop-k-test.true in
    let row = c.in-Ok.row in
    let piece = slice_range c.args.bytes.now (89 + 130 * k) (89 + 130 * k + 130) in
    let e = c.in-Ok.ensures in
    let items : c.push.new.self ≡ c.loop-k.rows ++ row ∷ [] = grind (arith, common_steps) in
    rw items (read_more p (whole_pieces c.args.bytes.now) k c.loop-k.rows c.loop-k.sums piece row c.loop-k.invariant
    (omega (arith, lt, length-pieces c.args.bytes.now)) (piece_cut c.args.bytes.now k lt) e.0
    (subst (λ rows. fault_over p rows piece ≡ None) c.as_slice.ensures e.1)
    (subst (λ rows. row.sums ≡ total p (map entry_of (rows ++ row ∷ []))) c.as_slice.ensures e.2)
    (subst (λ rows. AreDistinct p (map entry_of (rows ++ row ∷ []))) c.as_slice.ensures e.3))

pub returns : goal.returns
returns c =
    let end = c.loop-k-test.false in
    read_all c.args.plan.now (whole_pieces c.args.bytes.now) c.loop-k.k c.loop-k.rows c.loop-k.sums c.loop-k.invariant
    (omega (arith, end, length-pieces c.args.bytes.now))
