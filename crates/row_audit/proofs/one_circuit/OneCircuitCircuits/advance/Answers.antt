use Rattle.std.proofs.Common.{◌≡◌, ◌<◌, List, [], ◌∷◌, ◌++◌, length, sym, ◌∙◌, subst, arith}
use Rattle.std.specs.Vec.{with_items}
use Rattle.std.proofs.lemmas.Grind.{common_steps}
use Rattle.std.proofs.lemmas.List.{get_or_default}
use Rattle.circuit.specs.declared.parts.NetId.{NetId}
use Rattle.circuit.specs.Circuit.{Circuit}
use Rattle.circuit.specs.After.{IsAfter}
use Rattle.cycle_sim.specs.Sim.{Simulation}
use Rattle.row_audit.specs.Alone.{AreSims, fault_alone, sim_at}
use Rattle.row_audit.proofs.one_circuit.OneCircuitCircuits.advance.Goals as goal

-- the list that was lent is filled again
whole : (c : goal.After-self-1) → (with_items c.args.self.now.sims c.advance_all.new.sims).items ≡ c.advance_all.new.sims
whole c = grind (arith, common_steps)

alike : (c : goal.After-self-1) → AreSims c.cycle.new.self.circuit c.cycle.new.self.order (with_items c.args.self.now.sims c.advance_all.new.sims).items
alike c =
    let golden : Simulation = c.cycle.new.self in
    let made = c.cycle.ensures.made in
    subst (λ (xs : List Simulation). AreSims golden.circuit golden.order xs) (sym (whole c))
    (subst (λ (x : Circuit). AreSims x golden.order c.advance_all.new.sims) (sym made.circuit)
    (subst (λ (nets : List NetId). AreSims c.args.net.now nets c.advance_all.new.sims) (sym made.order) c.advance_all.ensures.alike))

pub returns-clause-sound : goal.returns-clause-sound
returns-clause-sound c = alike c

pub returns-clause-keeps : goal.returns-clause-keeps
returns-clause-keeps c =
    let made = c.cycle.ensures.made in
    let was = c.requires.made in
    λ i. record {
      circuit = (made.circuit ∙ sym was.circuit) i;
      order = (made.order ∙ sym was.order) i;
      faults = λ word k. fault_alone c.args.self.now.faults k;
    }

pub returns-clause-step : goal.returns-clause-step
returns-clause-step c = λ vectors ran.
    let old = c.args.self.now in
    let golden : Simulation = c.cycle.new.self in
    let sims = c.advance_all.new.sims in
    let net = c.args.net.now in
    let more = vectors ++ c.args.inputs.now ∷ [] in
    let of : golden.circuit ≡ net = c.cycle.ensures.made.circuit in
    let was : old.golden.circuit ≡ net = c.requires.made.circuit in
    record {
      alike = alike c;
      golden =
          subst (λ (x : Circuit). IsAfter x [] more golden.moment) (sym of)
          (c.cycle.ensures.step vectors (subst (λ (x : Circuit). IsAfter x [] vectors old.golden.moment) was ran.golden));
      each = λ k lane.
          let inside : k < length old.sims.items = omega (arith, lane, ran.alike.count) in
          let own = fault_alone old.faults k in
          subst (λ (xs : List Simulation). IsAfter golden.circuit own more (sim_at golden xs k).moment) (sym (whole c))
          (subst (λ (x : Circuit). IsAfter x own more (sim_at golden sims k).moment) (sym of)
          (c.advance_all.ensures.step golden vectors k lane
          (subst (λ (x : Circuit). IsAfter x own vectors (sim_at golden c.deref_mut.result.now k).moment) was
          (subst (λ (xs : List Simulation). IsAfter old.golden.circuit own vectors (sim_at golden xs k).moment) (sym c.deref_mut.ensures.value)
          (subst (λ (s : Simulation). IsAfter old.golden.circuit own vectors s.moment) (get_or_default old.sims.items k old.golden golden inside) (ran.each k lane))))));
    }
