use Rattle.std.proofs.Common.{◌≡◌, ◌≢◌, ◌<◌, ℕ, List, [], length, inl, inr, ap, sym, subst, ◌∙◌, arith, get_or-set_other}
use Rattle.std.proofs.lemmas.Bool.{cases_lt}
use Rattle.std.proofs.lemmas.List.{get_or_default}
use Rattle.circuit.specs.declared.parts.Fault.{Fault}
use Rattle.golden_difference.specs.Beside.{IsStateOf}
use Rattle.lane_words.specs.Loads.{loaded_faults}
use Rattle.place_set.specs.Places.{Places}
use Rattle.fault_runs.specs.First.{fault_in}
use Rattle.fault_runs.specs.Stretch.{state_at}
use Rattle.fault_runs.proofs.EachItem.{each_set}
use Rattle.fault_runs.proofs.stretch.keep_group.Goals as goal

pub loop-lane-preserved : goal.loop-lane-preserved
loop-lane-preserved g c =
    let inv = c.loop-lane.invariant in
    let group = c.args.group.now in
    let lane = c.loop-lane.lane in
    let i = fault_in group lane in
    let states = c.loop-lane.states in
    let circuit = c.args.lanes.now.circuit in
    let new : Places = c.keep.new.state in
    let none : Places = state_at [] 0 in
    let in_group : lane < length group = omega (arith, c.loop-lane-test.true, c.lanes_of-lane-end.ensures) in
    let inside : i < length states = omega (arith, c.requires.group lane 0 in_group, c.loop-lane.auto.states) in
    let before : i < length c.args.states.now = c.requires.group lane 0 in_group in
    record {
      bound = λ j lt.
          each_set (λ (m : ℕ) (s : Places). s.bound ≡ length circuit.latches) states i new none inside
          (c.keep.ensures.bound ∙ ap (λ (s : Places). s.bound) (get_or_default states i _ none inside) ∙ inv.bound i before) j (λ apart. inv.bound j lt);
      kept = λ vectors draw k between in_force less.
          each_set (λ (m : ℕ) (s : Places). IsStateOf circuit (loaded_faults draw m) vectors s) states i new none inside
          (subst (λ (x : List Fault). IsStateOf circuit x vectors new) (in_force lane in_group) (c.keep.ensures.state vectors between))
          (fault_in group k)
          (λ apart. elim (cases_lt k lane) [
            | inl early ↦ inv.kept vectors draw k between in_force early
            | inr late ↦ (let same : k ≡ lane = omega (arith, late, less) in absurd (apart (ap (λ m. fault_in group m) same)))
          ]);
      others = λ j outside.
          let apart : j ≢ i = λ same. outside lane in_group (sym same) in
          get_or-set_other states i j new none apart ∙ inv.others j outside;
    }
