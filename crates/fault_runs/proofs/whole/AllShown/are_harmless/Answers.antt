use Rattle.std.proofs.Common.{subst}
use Rattle.circuit.specs.Sound.{IsNetlist}
use Rattle.lane_words.specs.Loads.{somes}
use Rattle.reach.specs.Reached.{Reached, nets_of}
use Rattle.reach.specs.declared.points.Sort.TheVariants.{Observation}
use Rattle.fault_runs.proofs.Beyond.{AreBeyond, goal_never}
use Rattle.fault_runs.proofs.whole.AllShown.are_harmless.Goals as goal

pub returns : goal.returns
returns c = λ is g lt.
    let bench = c.args.self.now.bench.now in
    let x = somes c.args.faults.now in
    let sound : IsNetlist bench.circuit = subst IsNetlist c.net.ensures c.latches-latches.ensures.sound in
    goal_never bench.circuit x sound bench.points c.reach.ensures.fit
    (subst (λ (r : Reached). AreBeyond r.circuit (nets_of r.points Observation) x) c.reach.ensures.made (c.are_beyond.ensures is)) g lt
