use Rattle.std.proofs.Common.{◌<◌, inr, arith, drop}
use Rattle.fmeda_top.proofs.program.send_rest.Goals as goal

-- a write has failed since, for no fewer had failed before it
pub returns-in-Err-clause-sends : goal.returns-in-Err-clause-sends
returns-in-Err-clause-sends g c =
    let page = c.flush.new.self in
    inr (
      c.failed_code-in-Err.ensures,
      (λ few. let rose : (g.O.Sink.seen c.args.page.now.out).faults < (g.O.Sink.seen page.out).faults = c.in-Err.ensures.sends.failed.0 few in omega (arith, rose, c.requires.grown)),
      (drop page.sent page.page.items, c.in-Err.ensures.waits),
    )
