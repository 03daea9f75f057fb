use Rattle.std.proofs.Common.{refl, sym, subst, ◌∙◌}
use Rattle.alarm_points.specs.PointsFile.{observed}
use Rattle.circuit.specs.declared.parts.Fault.{Fault}
use Rattle.circuit.specs.declared.parts.Fault.TheVariants.{Stuck}
use Rattle.coverage_claim.specs.Region.{region_of}
use Rattle.reach.specs.Paths.{ActsOn, LeadsToSome}
use Rattle.claim_search.proofs.Faulty.{can_change, flip_answer, pulse_answer, stuck_at, stuck_leads}
use Rattle.claim_search.proofs.Regions.{posed_so}
use Rattle.claim_search.specs.Answer.{IsAnswer}
use Rattle.claim_search.specs.Question.{with_region}
use Rattle.claim_search.proofs.sites.AnswerSearch.answer_fault.Goals as goal

pub answer_stuck-requires-clause-net : goal.answer_stuck-requires-clause-net
answer_stuck-requires-clause-net c = c.requires.net c.in-Stuck.net (subst (ActsOn c.args.searched.now.netlist.now c.in-Stuck.net) (sym c.in-Stuck.is) refl)

pub answer_stuck-requires-clause-free : goal.answer_stuck-requires-clause-free
answer_stuck-requires-clause-free c = λ claim posed.
    let net = c.args.searched.now.netlist.now in
    let goals = c.args.posed.now.observed.now in
    c.requires.free claim posed c.in-Stuck.net (subst (ActsOn net c.in-Stuck.net) (sym c.in-Stuck.is) refl)
    (stuck_leads net c.args.fault goals c.in-Stuck.net c.in-Stuck.value c.in-Stuck.is
    (can_change net c.args.reach.now.circuit c.args.fault (observed c.args.reach.now.points) goals c.requires.circuit c.requires.points (c.can_change.ensures.0 c.if-not-can_change.false)))

pub returns-in-Stuck-clause-answer : goal.returns-in-Stuck-clause-answer
returns-in-Stuck-clause-answer c = λ claim posed.
    let net = c.args.searched.now.netlist.now in (
      can_change net c.args.reach.now.circuit c.args.fault (observed c.args.reach.now.points) (observed claim.points) c.requires.circuit (c.requires.points ∙ sym posed.observed)
          (c.can_change.ensures.0 c.if-not-can_change.false),
      subst (λ (fault : Fault). IsAnswer (with_region claim (region_of net fault)) c.answer_stuck.result) (sym c.in-Stuck.is)
          (c.answer_stuck.ensures.answer (with_region claim (region_of net (Stuck c.in-Stuck.net c.in-Stuck.value)))
          (posed_so net c.args.posed.now claim (region_of net (Stuck c.in-Stuck.net c.in-Stuck.value)) posed) (stuck_at net c.in-Stuck.net c.in-Stuck.value)),
    )

pub returns-in-Flip : goal.returns-in-Flip
returns-in-Flip c = record {
  ready = c.requires.ready;
  answer = λ claim posed. (
      let net = c.args.searched.now.netlist.now in
      let can = can_change net c.args.reach.now.circuit c.args.fault (observed c.args.reach.now.points) (observed claim.points) c.requires.circuit (c.requires.points ∙ sym posed.observed)
      (c.can_change.ensures.0 c.if-not-can_change.false) in (
        can,
        flip_answer net c.args.fault (observed claim.points) can claim c.args.free
            (λ each acts leads. c.requires.free (with_region claim (region_of net c.args.fault)) (posed_so net c.args.posed.now claim (region_of net c.args.fault) posed) each acts
            (subst (LeadsToSome net each) posed.observed leads)) _ _ c.in-Flip.is,
      ));
}

pub returns-in-Pulse : goal.returns-in-Pulse
returns-in-Pulse c = record {
  ready = c.requires.ready;
  answer = λ claim posed. (
      let net = c.args.searched.now.netlist.now in
      let can = can_change net c.args.reach.now.circuit c.args.fault (observed c.args.reach.now.points) (observed claim.points) c.requires.circuit (c.requires.points ∙ sym posed.observed)
      (c.can_change.ensures.0 c.if-not-can_change.false) in (
        can,
        pulse_answer net c.args.fault (observed claim.points) can claim c.args.free
            (λ each acts leads. c.requires.free (with_region claim (region_of net c.args.fault)) (posed_so net c.args.posed.now claim (region_of net c.args.fault) posed) each acts
            (subst (LeadsToSome net each) posed.observed leads)) _ _ c.in-Pulse.is,
      ));
}
