use Rattle.std.proofs.Common.{◌≡◌, [], subst, ◌∙◌}
use Rattle.circuit.specs.declared.parts.NetId.{NetId}
use Rattle.circuit.specs.Sound.{IsNetlist}
use Rattle.lane_words.specs.Loads.{somes}
use Rattle.reach.specs.Reached.{Reached}
use Rattle.fault_runs.specs.Whole.{alarm_alone}
use Rattle.fault_runs.proofs.Beyond.{AreBeyond, alarm_never}
use Rattle.fault_runs.proofs.whole.AllShown.are_silent.Goals as goal
use Rattle.testbench.specs.Points.{alarm_at}

pub returns-in-Some : goal.returns-in-Some
returns-in-Some c = λ is lt.
    let bench = c.args.self.now.bench.now in
    let x = somes c.args.faults.now in
    let net : NetId = alarm_at bench.points.alarm c.args.a in
    let none : Reached = record { circuit = bench.circuit; points = alarm_alone net } in
    let found = c.in-Some.ensures.lookup.3 in
    let sound : IsNetlist bench.circuit = subst IsNetlist c.net.ensures c.latches.ensures.sound in
    let made : c.in-Some.reach.now ≡ none = found.1 none ∙ c.requires.paths.each c.args.a none found.0 in
    alarm_never bench.circuit x sound net (c.requires.nets c.args.a (alarm_at [] 0) lt)
    (subst (λ (r : Reached). AreBeyond r.circuit r.points.alarm x) made (c.are_beyond.ensures is))
