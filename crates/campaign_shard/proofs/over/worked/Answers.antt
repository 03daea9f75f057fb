use Rattle.std.proofs.Common.{◌≡◌, ◌∙◌, true, sym, inl, inr}
use Rattle.std.specs.Result.{is_err}
use Rattle.campaign_board.proofs.Posting.{on_err}
use Rattle.campaign_shard.proofs.Posting.{begins, no_row}
use Rattle.campaign_shard.proofs.over.worked.Goals as goal

pub returns-then-is_err : goal.returns-then-is_err
returns-then-is_err g c =
    let bad : is_err c.append_header.result ≡ true = sym c.is_err.ensures.value ∙ c.if-is_err.true in
    let failed = on_err c.append_header.result bad c.append_header.ensures.failed in
    let torn = on_err c.append_header.result bad c.append_header.ensures.torn in
    let stops = rw c.requires.fresh.0.rows at (on_err c.append_header.result bad c.append_header.ensures.stops) in
    inr (failed.0, torn, stops)

pub work_part-requires-clause-seat : goal.work_part-requires-clause-seat
work_part-requires-clause-seat g c =
    begins c.args.prepared.place.shared g.N.Origin.start c.args.shard.part c.args.shard.parts c.args.prepared.place.seat c.put.new.seat _ c.requires.seat c.put.ensures.0 c.put.ensures.1

pub returns : goal.returns
returns g c =
    inl (
      c.close.ensures.written,
      no_row c.args.prepared.place.shared g.N.Origin.start c.args.shard.part c.args.shard.parts _ c.work_part.new.seat c.close.result.rows c.close.result.failed c.work_part.ensures c.close.ensures.closed,
    )
