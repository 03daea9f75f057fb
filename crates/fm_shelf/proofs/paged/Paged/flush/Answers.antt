use Rattle.std.proofs.Common.{ℕ, List, take, drop, ap, ◌∙◌, ◌-◌}
use Rattle.fm_shelf.specs.Sink.{with_more}
use Rattle.fm_shelf.proofs.Pages.{waits_is, on_err}
use Rattle.fm_shelf.proofs.paged.Paged.flush.Goals as goal

pub returns-in_err-send-clause-waits : goal.returns-in_err-send-clause-waits
returns-in_err-send-clause-waits g c =
    on_err c.from_residual.result
    (waits_is (g.O.Sink.seen c.args.self.now.out).written (g.O.Sink.seen c.send.new.out).written c.args.self.now.page.items c.args.self.now.sent c.send.new.sent
    c.send.ensures.forward
    (c.send.ensures.written
    ∙ ap (λ (page : List ℕ). with_more (g.O.Sink.seen c.args.self.now.out).written (take (c.send.new.sent - c.args.self.now.sent) (drop c.args.self.now.sent page)))
    c.as_slice.ensures.value))
