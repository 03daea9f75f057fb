use Rattle.std.proofs.Common.{◌≡◌, ◌∙◌, List, length, ap}
use Rattle.std.specs.Prelude.{Option}
use Rattle.circuit.specs.declared.parts.Fault.{Fault}
use Rattle.fm_base.proofs.Lists.{written_whole}
use Rattle.fault_runs.proofs.draw.FaultDraw.load_batches.Goals as goal

pub returns-clause-count : goal.returns-clause-count
returns-clause-count c =
    let old = c.args.self.now.faults in
    let new : List (List (Option Fault)) = c.put_batches.new.draw in
    let count : length new ≡ length old.items = c.put_batches.auto.draw ∙ ap length c.as_mut_slice.ensures.value in
    ap length (written_whole new old.items old.len count old.ok.0) ∙ count
