use Rattle.std.proofs.Common.{◌≡◌, ◌≢◌, ◌<◌, Bool, List, [], length, inl, inr, ap, sym, subst, ◌∙◌, arith}
use Rattle.std.proofs.lemmas.Bool.{cases_eq}
use Rattle.std.proofs.lemmas.List.{get_or_default}
use Rattle.circuit.specs.declared.parts.Fault.{Fault}
use Rattle.circuit.specs.Circuit.{Circuit}
use Rattle.golden_difference.specs.Beside.{IsStateOf}
use Rattle.lane_words.specs.Loads.{loaded_faults, somes}
use Rattle.place_set.specs.Places.{Places}
use Rattle.fault_runs.specs.First.{fault_in}
use Rattle.fault_runs.specs.Stretch.{state_at}
use Rattle.fault_runs.proofs.stretch.put_group.Goals as goal

-- the state of a fault, by the circuit, the faults and the state that stand there
state_there : (c e : Circuit) (x y : List Fault) (vectors : List (List Bool)) (s r : Places) → e ≡ c → y ≡ x → r ≡ s → IsStateOf c x vectors s → IsStateOf e y vectors r
state_there c e x y vectors s r at_c at_x at_s is =
    subst (λ (m : Circuit). IsStateOf m y vectors r) (sym at_c) (subst (λ (fs : List Fault). IsStateOf c fs vectors r) (sym at_x) (subst (λ (p : Places). IsStateOf c x vectors p) (sym at_s) is))

pub put-requires-clause-bound : goal.put-requires-clause-bound
put-requires-clause-bound g c =
    let group = c.args.group.now in
    let lane = c.loop-lane.lane in
    let states = c.args.states.now in
    let in_group : lane < length group = omega (arith, c.loop-lane-test.true, c.lanes_of-lane-end.ensures) in
    let inside : fault_in group lane < length states = omega (arith, c.requires.group lane 0 in_group, c.requires.states) in
    ap (λ (s : Places). s.bound) (c.index-states-i.is ∙ get_or_default states (fault_in group lane) c.index-states-i.result (state_at [] 0) inside)
    ∙ c.requires.bound (fault_in group lane) inside ∙ ap (λ (m : Circuit). length m.latches) (sym c.loop-lane.invariant.keeps.circuit)

pub loop-lane-preserved : goal.loop-lane-preserved
loop-lane-preserved g c =
    let inv = c.loop-lane.invariant in
    let group = c.args.group.now in
    let draw = c.args.draw.now in
    let states = c.args.states.now in
    let lane = c.loop-lane.lane in
    let i = fault_in group lane in
    let new = c.put.new.self in
    let none : Places = state_at [] 0 in
    let in_group : lane < length group = omega (arith, c.loop-lane-test.true, c.lanes_of-lane-end.ensures) in
    let in_draw : i < length draw = c.requires.group lane 0 in_group in
    let inside : i < length states = omega (arith, in_draw, c.requires.states) in
    record {
      keeps = record {
        circuit = c.put.ensures.keeps.circuit ∙ inv.keeps.circuit;
        order = c.put.ensures.keeps.order ∙ inv.keeps.order;
        loads = c.put.ensures.keeps.loads ∙ inv.keeps.loads;
      };
      cycle = c.put.ensures.cycle ∙ inv.cycle;
      put = λ k less.
          elim (cases_eq k lane) as (λ _. loaded_faults new.in_force k ≡ loaded_faults draw (fault_in group k)) [
            | inl here ↦
                (let own : loaded_faults new.in_force lane ≡ loaded_faults draw i = c.put.ensures.own ∙ ap somes (get_or_default draw i _ [] in_draw) in
                subst (λ j. loaded_faults new.in_force j ≡ loaded_faults draw (fault_in group j)) (sym here) own)
            | inr apart ↦ c.put.ensures.others k apart ∙ inv.put k (omega (arith, less, apart))
          ];
      empty = λ k le lt.
          let apart : k ≢ lane = omega (arith, le) in
          c.put.ensures.others k apart ∙ inv.empty k (omega (arith, le)) lt;
      between = λ vectors between stands.
          c.put.ensures.between vectors (inv.between vectors between stands)
          (state_there c.args.lanes.now.circuit c.loop-lane.lanes.circuit (loaded_faults draw i) _ vectors (state_at states i) c.index-states-i.result
          inv.keeps.circuit (ap somes (get_or_default draw i _ [] in_draw)) (c.index-states-i.is ∙ get_or_default states i c.index-states-i.result none inside) (stands lane in_group));
    }
