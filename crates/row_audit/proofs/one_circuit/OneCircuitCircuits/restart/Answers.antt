use Rattle.std.proofs.Common.{◌≡◌, ◌<◌, List, [], length, sym, subst, arith}
use Rattle.std.specs.Vec.{with_items}
use Rattle.std.proofs.lemmas.Grind.{common_steps}
use Rattle.circuit.specs.declared.parts.NetId.{NetId}
use Rattle.circuit.specs.Circuit.{Circuit}
use Rattle.circuit.specs.After.{IsAfter}
use Rattle.cycle_sim.specs.Sim.{Simulation}
use Rattle.row_audit.specs.Alone.{AreSims, fault_alone, sim_at}
use Rattle.row_audit.proofs.one_circuit.OneCircuitCircuits.restart.Goals as goal

-- the list that was lent is filled again
whole : (c : goal.After-self-1) → (with_items c.args.self.now.sims c.start_all.new.sims).items ≡ c.start_all.new.sims
whole c = grind (arith, common_steps)

alike : (c : goal.After-self-1) → AreSims c.start.new.self.circuit c.start.new.self.order c.start_all.new.sims
alike c =
    let old : Simulation = c.args.self.now.golden in
    let new : Simulation = c.start.new.self in
    let sims = c.start_all.new.sims in
    subst (λ (x : Circuit). AreSims x new.order sims) (sym c.start.ensures.circuit)
    (subst (λ (nets : List NetId). AreSims old.circuit nets sims) (sym c.start.ensures.order)
    (c.start_all.ensures.alike old.circuit old.order (subst (λ (xs : List Simulation). AreSims old.circuit old.order xs) (sym c.deref_mut.ensures.value) c.requires.sound)))

pub returns-clause-sound : goal.returns-clause-sound
returns-clause-sound c = subst (λ (sims : List Simulation). AreSims c.start.new.self.circuit c.start.new.self.order sims) (sym (whole c)) (alike c)

pub returns-clause-keeps : goal.returns-clause-keeps
returns-clause-keeps c = λ i. record {
  circuit = c.start.ensures.circuit i;
  order = c.start.ensures.order i;
  faults = λ word k. fault_alone c.args.self.now.faults k;
}

pub returns-clause-start : goal.returns-clause-start
returns-clause-start c =
    let golden : Simulation = c.start.new.self in
    let faults = c.args.self.now.faults in
    record {
      alike = subst (λ (sims : List Simulation). AreSims golden.circuit golden.order sims) (sym (whole c)) (alike c);
      golden = c.start.ensures.start [];
      each = λ k lane.
          let sims = c.start_all.new.sims in
          let before : k < length c.deref_mut.result.now = omega (arith, lane, c.start_all.auto.sims, (alike c).count) in
          let inside : k < length sims = omega (arith, lane, (alike c).count) in
          subst (λ (xs : List Simulation). IsAfter golden.circuit (fault_alone faults k) [] (sim_at golden xs k).moment) (sym (whole c))
          (subst (λ (x : Circuit). IsAfter x (fault_alone faults k) [] (sim_at golden sims k).moment) ((alike c).each k golden inside).circuit
          (c.start_all.ensures.start golden k (fault_alone faults k) before));
    }
