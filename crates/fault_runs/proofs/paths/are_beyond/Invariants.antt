use Rattle.std.proofs.Common.{drop}
use Rattle.lane_words.specs.Loads.{somes}
use Rattle.reach.specs.Reached.{nets_of}
use Rattle.fault_runs.proofs.Beyond.{AreBeyond}
use Rattle.fault_runs.proofs.paths.are_beyond.Given as goal

-- where none of the faults that are left can, none of all can
abbrev pub invariant-loop-fault : goal.invariant-loop-fault
invariant-loop-fault l =
    AreBeyond l.reach.circuit (nets_of l.reach.points l.sort) (somes (drop l.fault-index l.faults)) → AreBeyond l.reach.circuit (nets_of l.reach.points l.sort) (somes l.faults)
