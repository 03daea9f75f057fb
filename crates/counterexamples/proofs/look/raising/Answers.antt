use Rattle.std.proofs.Common.{◌<◌, ◌≤◌, ◌||◌, List, length, ap, ap₂, sym, ◌∙◌, arith, take_all}
use Rattle.std.proofs.lemmas.List.Folds.{list_any_more}
use Rattle.circuit.specs.Trace.{trace}
use Rattle.circuit.specs.declared.parts.NetId.{NetId}
use Rattle.lane_words.specs.Loads.{loaded_faults}
use Rattle.counterexamples.specs.Contradicted.{some_raised}
use Rattle.counterexamples.proofs.look.raising.Goals as goal

pub loop-net-preserved : goal.loop-net-preserved
loop-net-preserved c = λ vectors t k after size lane.
    let bank = c.args.lanes.now in
    let nets = c.args.nets.now in
    let i = c.loop-net.net-index in
    let none : NetId = record { 0 = 0 } in
    let within : i < length nets = omega arith in
    c.either_lanes-raised.ensures k
    ∙ ap₂ (λ a b. a || b) (c.loop-net.invariant vectors t k after size lane) (c.net-values.ensures vectors t k after size lane (c.requires.nets i none within))
    ∙ sym (list_any_more (λ (net : NetId). trace bank.circuit (loaded_faults bank.loads k) vectors t net.0) nets i none within)

pub returns : goal.returns
returns c = λ vectors t k after size lane.
    let bank = c.args.lanes.now in
    let done : length c.args.nets.now ≤ c.loop-net.net-index = c.loop-net-test.false in
    c.loop-net.invariant vectors t k after size lane
    ∙ ap (λ (nets : List NetId). some_raised nets (trace bank.circuit (loaded_faults bank.loads k) vectors t)) (take_all c.loop-net.net-index c.args.nets.now done)
