use Rattle.std.proofs.Common.{◌∙◌, sym, arith}
use Rattle.std.proofs.lemmas.Bool.{true≢false}
use Rattle.reach.specs.Reached.{nets_of}
use Rattle.fault_runs.proofs.Beyond.{beyond_all, beyond_none, beyond_some}
use Rattle.fault_runs.proofs.paths.are_beyond.Goals as goal
use Rattle.fault_runs.proofs.paths.are_beyond.Goals.{in-Some+else-can_change, in-None}

pub loop-fault-preserved : goal.loop-fault-preserved
loop-fault-preserved c = λ rest.
    let net = c.args.reach.now.circuit in
    let goals = nets_of c.args.reach.now.points c.args.sort in
    let faults = c.args.faults.now in
    let i = c.loop-fault.fault-index in
    elim c.match-fault.branch [
      | in-Some+else-can_change w ↦ c.loop-fault.invariant (beyond_some net goals faults i w.in-Some.fault (omega (arith, c.loop-fault-test.true)) w.in-Some.is
          (λ can. true≢false (sym (w.can_change.ensures.1 can) ∙ w.if-can_change.false)) rest)
      | in-None w ↦ c.loop-fault.invariant (beyond_none net goals faults i (omega (arith, c.loop-fault-test.true)) w.in-None.is rest)
    ]

pub returns : goal.returns
returns c = λ none. c.loop-fault.invariant (beyond_all c.args.reach.now.circuit (nets_of c.args.reach.now.points c.args.sort) c.args.faults.now c.loop-fault.fault-index (omega (arith, c.loop-fault-test.false)))
