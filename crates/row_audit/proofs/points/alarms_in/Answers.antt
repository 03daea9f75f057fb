use Rattle.std.proofs.Common.{◌<◌, ◌≤◌, ◌&&◌, ◌||◌, List, length, not, ap, ap₂, sym, ◌∙◌, arith, take_all}
use Rattle.std.specs.List.{list_any}
use Rattle.std.proofs.lemmas.List.Folds.{list_any_more}
use Rattle.circuit.specs.declared.parts.NetId.{NetId}
use Rattle.campaign_plan.specs.Danger.{golden, with_faults}
use Rattle.row_audit.proofs.points.alarms_in.Goals as goal

pub loop-net-preserved : goal.loop-net-preserved
loop-net-preserved g c =
    let loaded = g.B.Circuits.loaded c.args.circuits.now in
    let nets = c.args.nets.now in
    let i = c.loop-net.net-index in
    let none : NetId = record { 0 = 0 } in
    let within : i < length nets = omega arith in
    record {
      raised = λ run t k lt after lane.
          c.louder-found.ensures.raised k lane
          ∙ ap₂ (λ a b. a || b) (c.loop-net.invariant.raised run t k lt after lane)
          (ap₂ (λ v o. v && not o) (c.values_of.ensures run t k lt after lane (c.requires.nets i none within)) (c.golden_of.ensures run t lt after (c.requires.nets i none within)))
          ∙ sym (list_any_more (λ (n : NetId). with_faults loaded.circuit (loaded.faults c.args.word k) run t n && not (golden loaded.circuit run t n)) nets i none within);
      silenced = λ run t k lt after lane.
          c.louder-found.ensures.silenced k lane
          ∙ ap₂ (λ a b. a || b) (c.loop-net.invariant.silenced run t k lt after lane)
          (ap₂ (λ v o. not v && o) (c.values_of.ensures run t k lt after lane (c.requires.nets i none within)) (c.golden_of.ensures run t lt after (c.requires.nets i none within)))
          ∙ sym (list_any_more (λ (n : NetId). not (with_faults loaded.circuit (loaded.faults c.args.word k) run t n) && golden loaded.circuit run t n) nets i none within);
    }

pub returns-clause-raised : goal.returns-clause-raised
returns-clause-raised g c = λ run t k lt after lane.
    let loaded = g.B.Circuits.loaded c.args.circuits.now in
    let done : length c.args.nets.now ≤ c.loop-net.net-index = c.loop-net-test.false in
    c.loop-net.invariant.raised run t k lt after lane
    ∙ ap (λ (nets : List NetId). list_any (λ (n : NetId). with_faults loaded.circuit (loaded.faults c.args.word k) run t n && not (golden loaded.circuit run t n)) nets)
    (take_all c.loop-net.net-index c.args.nets.now done)

pub returns-clause-silenced : goal.returns-clause-silenced
returns-clause-silenced g c = λ run t k lt after lane.
    let loaded = g.B.Circuits.loaded c.args.circuits.now in
    let done : length c.args.nets.now ≤ c.loop-net.net-index = c.loop-net-test.false in
    c.loop-net.invariant.silenced run t k lt after lane
    ∙ ap (λ (nets : List NetId). list_any (λ (n : NetId). not (with_faults loaded.circuit (loaded.faults c.args.word k) run t n) && golden loaded.circuit run t n) nets)
    (take_all c.loop-net.net-index c.args.nets.now done)
