use Rattle.std.proofs.Common.{◌≡◌, ◌∙◌, true, false, sym, inl, inr}
use Rattle.std.specs.Result.{is_err}
use Rattle.campaign_board.proofs.Posting.{on_err, on_ok}
use Rattle.campaign_run.proofs.over.worked.Goals as goal

pub returns-then-is_err : goal.returns-then-is_err
returns-then-is_err g c =
    let bad : is_err c.append_header.result ≡ true = sym c.is_err.ensures.value ∙ c.if-is_err.true in
    let torn = rw c.board.ensures.value at (on_err c.append_header.result bad c.append_header.ensures.torn) in
    let stops = rw (c.board.ensures.value, c.requires.fresh.rows) at (on_err c.append_header.result bad c.append_header.ensures.stops) in
    rw c.into_board.ensures (inr ((on_err c.append_header.result bad c.append_header.ensures.failed).0, torn, stops))

pub campaign-requires-clause-written : goal.campaign-requires-clause-written
campaign-requires-clause-written g c κs within =
    let fine : is_err c.append_header.result ≡ false = sym c.is_err.ensures.value ∙ c.if-is_err.false in
    (on_ok c.append_header.result fine c.append_header.ensures.ok).0

pub returns : goal.returns
returns g c = inl (c.campaign.ensures.written, c.campaign.ensures.finished)
