use Rattle.std.proofs.Common.{sym, subst, ◌∙◌, arith}
use Rattle.std.proofs.lemmas.List.{get_or_default}
use Rattle.alarm_points.specs.PointsFile.{observed}
use Rattle.circuit.specs.declared.parts.Fault.{Fault}
use Rattle.claim_search.specs.Answer.{IsAnswer}
use Rattle.claim_search.specs.Faults.{IsFaultAnswer}
use Rattle.claim_search.specs.declared.answer.Answer.TheVariants.{Alarmed, Open}
use Rattle.claim_search.proofs.Faulty.{can_change}
use Rattle.reach.specs.Paths.{CanChangeSome}
use Rattle.always_answers.proofs.Faulted.{acts_on_net, free_there, own_within}
use Rattle.always_answers.proofs.faults.answer_at.Goals as goal

pub answer_fault-requires-clause-free : goal.answer_fault-requires-clause-free
answer_fault-requires-clause-free c = λ claim posed net acts leads is_at.
    let own = c.args.searched.now.netlist.now in
    let faults = c.args.faults.now in
    let n = c.net_of-net.result.0 in
    let within = own_within own faults c.requires.faults c.args.i c.requires.number c.fault-fault.result c.fault-fault.ensures n c.net_of-net.ensures in
    subst (IsAnswer claim) (get_or_default c.args.free.now n Open Alarmed (let it = c.requires.size in omega (arith, within, it)))
    (free_there own c.args.posed.now c.args.seen.now c.args.free.now c.fault-fault.result n c.net_of-net.ensures c.requires.seen c.requires.free claim posed net acts leads
    (acts_on_net own faults c.requires.faults c.args.i c.requires.number c.fault-fault.result c.fault-fault.ensures net acts) is_at)

pub answer_fault-requires-clause-net : goal.answer_fault-requires-clause-net
answer_fault-requires-clause-net c = acts_on_net c.args.searched.now.netlist.now c.args.faults.now c.requires.faults c.args.i c.requires.number c.fault-fault.result c.fault-fault.ensures

pub returns-then-can_change-clause-answer : goal.returns-then-can_change-clause-answer
returns-then-can_change-clause-answer c = λ claim posed.
    let own = c.args.searched.now.netlist.now in (
      subst (λ (fault : Fault). CanChangeSome own fault (observed claim.points)) c.fault-fault.ensures
          (can_change own c.args.reach.now.circuit c.fault-fault.result (observed c.args.reach.now.points) (observed claim.points) c.requires.circuit (c.requires.points ∙ sym posed.observed)
          (c.can_change.ensures.0 c.if-can_change.true)),
      c.requires.contradicted c.if-is_contradicted.true claim posed,
    )

pub returns-clause-answer : goal.returns-clause-answer
returns-clause-answer c = λ claim posed.
    subst (λ (fault : Fault). IsFaultAnswer c.args.searched.now.netlist.now claim fault c.answer_fault.result) c.fault-fault.ensures (c.answer_fault.ensures.answer claim posed)
