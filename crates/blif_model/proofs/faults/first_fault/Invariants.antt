use Rattle.std.proofs.Common.{◌≡◌, [], take, drop}
use Rattle.fm_base.specs.Firsts.{first_after}
use Rattle.blif_model.specs.LineSteps.{fault_of}
use Rattle.blif_model.specs.Position.{IsBehind}
use Rattle.blif_model.proofs.faults.first_fault.Given as goal

abbrev pub invariant-loop-line : goal.invariant-loop-line
invariant-loop-line l = record {
  here : IsBehind (take l.line-index l.lines) l.position;
  told : first_after fault_of (take l.line-index l.lines) (drop l.line-index l.lines) ≡ first_after fault_of [] l.lines;
}
