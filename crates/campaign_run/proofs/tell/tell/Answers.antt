use Rattle.std.proofs.Common.{◌≡◌, ◌∙◌, false, sym}
use Rattle.campaign_run.proofs.Reporting.{hold_each}
use Rattle.campaign_run.proofs.tell.tell.Goals as goal

pub write_text-requires-clause-rows : goal.write_text-requires-clause-rows
write_text-requires-clause-rows g c =
    let fine : c.args.board.failed ≡ false = sym c.failed.ensures ∙ c.if-failed.false in
    rw c.rows.ensures.rows (hold_each c.args.plan.now _ _ c.requires.entries c.rows.ensures.kept.1 (c.requires.rows fine))
