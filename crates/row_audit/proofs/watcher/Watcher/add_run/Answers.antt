use Rattle.std.proofs.Common.{arith}
use Rattle.row_audit.proofs.Ends.{adds_run}
use Rattle.row_audit.proofs.watcher.Watcher.add_run.Goals as goal

pub returns-clause-planes : goal.returns-clause-planes
returns-clause-planes c = λ circuit points runs run faults kind seen before.
    adds_run circuit points c.args.self.now.windows.ftti runs run faults c.args.self.now.planes c.shown.result c.either-self.result before
    (λ k lane. c.shown.ensures.danger circuit points run faults k kind seen lane)
    (λ k lane. c.shown.ensures.noticed circuit points run faults k kind seen lane)
    c.either-self.ensures.danger c.either-self.ensures.noticed (omega (arith, c.either-self.type_inv), omega (arith, c.either-self.type_inv))
