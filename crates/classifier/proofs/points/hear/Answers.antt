use Rattle.std.proofs.Common.{◌<◌, ◌≤◌, ◌&&◌, ◌||◌, List, length, not, get_or, ap, ap₂, sym, ◌∙◌, arith, take_all}
use Rattle.std.specs.List.{list_any}
use Rattle.std.proofs.lemmas.List.Folds.{list_any_more}
use Rattle.circuit.specs.declared.parts.NetId.{NetId}
use Rattle.campaign_plan.specs.Danger.{golden, with_faults}
use Rattle.lane_words.specs.Loads.{loaded_faults}
use Rattle.classifier.proofs.PointBits.{raised_where, silenced_where}
use Rattle.classifier.proofs.points.hear.Goals as goal

pub loop-net-preserved : goal.loop-net-preserved
loop-net-preserved g c =
    let circuit = c.args.lanes.now.circuit in
    let nets = c.args.nets.now in
    let i = c.loop-net.net-index in
    let none : NetId = record { 0 = 0 } in
    let net = get_or nets i none in
    let within : i < length nets = omega arith in
    record {
      raised = λ run t k lt after row lane.
          let faults = loaded_faults c.args.lanes.now.in_force k in
          c.louder-found.ensures.raised k lane
          ∙ ap₂ (λ a b. a || b) (c.loop-net.invariant.raised run t k lt after row lane)
          (ap₂ (λ d o. d && not o) (c.difference_at.ensures run t k lt after lane (c.requires i none within)) (c.value_in_words-golden.ensures ∙ row net.0 (c.requires i none within))
          ∙ raised_where (with_faults circuit faults run t net) (golden circuit run t net))
          ∙ sym (list_any_more (λ (n : NetId). with_faults circuit faults run t n && not (golden circuit run t n)) nets i none within);
      silenced = λ run t k lt after row lane.
          let faults = loaded_faults c.args.lanes.now.in_force k in
          c.louder-found.ensures.silenced k lane
          ∙ ap₂ (λ a b. a || b) (c.loop-net.invariant.silenced run t k lt after row lane)
          (ap₂ (λ d o. d && o) (c.difference_at.ensures run t k lt after lane (c.requires i none within)) (c.value_in_words-golden.ensures ∙ row net.0 (c.requires i none within))
          ∙ silenced_where (with_faults circuit faults run t net) (golden circuit run t net))
          ∙ sym (list_any_more (λ (n : NetId). not (with_faults circuit faults run t n) && golden circuit run t n) nets i none within);
    }

pub loop-net-init : goal.loop-net-init
loop-net-init g c = record {
  raised = λ run t k lt after row lane. c.all.ensures k lane;
  silenced = λ run t k lt after row lane. c.all-2.ensures k lane;
}

pub returns-clause-raised : goal.returns-clause-raised
returns-clause-raised g c = λ run t k lt after row lane.
    let circuit = c.args.lanes.now.circuit in
    let faults = loaded_faults c.args.lanes.now.in_force k in
    let done : length c.args.nets.now ≤ c.loop-net.net-index = c.loop-net-test.false in
    c.loop-net.invariant.raised run t k lt after row lane
    ∙ ap (λ (nets : List NetId). list_any (λ (n : NetId). with_faults circuit faults run t n && not (golden circuit run t n)) nets)
    (take_all c.loop-net.net-index c.args.nets.now done)

pub returns-clause-silenced : goal.returns-clause-silenced
returns-clause-silenced g c = λ run t k lt after row lane.
    let circuit = c.args.lanes.now.circuit in
    let faults = loaded_faults c.args.lanes.now.in_force k in
    let done : length c.args.nets.now ≤ c.loop-net.net-index = c.loop-net-test.false in
    c.loop-net.invariant.silenced run t k lt after row lane
    ∙ ap (λ (nets : List NetId). list_any (λ (n : NetId). not (with_faults circuit faults run t n) && golden circuit run t n) nets)
    (take_all c.loop-net.net-index c.args.nets.now done)
