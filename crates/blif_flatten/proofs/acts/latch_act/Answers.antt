use Rattle.std.proofs.Common.{refl}
use Rattle.blif_model.specs.Meant.{latch_line_of}
use Rattle.blif_model.specs.WalkSteps.{flat_latch_of}
use Rattle.blif_flatten.specs.Seen.{scope_at}
use Rattle.blif_flatten.proofs.Numbering.{kept_whole, latch_numbered}
use Rattle.blif_flatten.proofs.acts.latch_act.Goals as goal

pub returns : goal.returns
returns c =
    kept_whole _ _ (λ seen. refl) (latch_numbered (flat_latch_of (scope_at c.args.place.now) (latch_line_of c.args.line)) _
    c.in_ok-from.ensures c.in_ok-to.ensures c.in_ok-control.ensures c.edge_of.ensures refl)
