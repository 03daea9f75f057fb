use Rattle.std.proofs.Common.{◌≡◌, ◌<◌, ◌+◌, List, length, take, get_or, min, ap, sym, ◌∙◌, subst}
use Rattle.std.specs.Prelude.{Option}
use Rattle.std.proofs.lemmas.List.{length-take-le}
use Rattle.circuit.specs.declared.parts.Fault.{Fault}
use Rattle.circuit.specs.Circuit.{Circuit}
use Rattle.workload.specs.Runs.{run_at}
use Rattle.golden_difference.specs.Beside.{IsStateOf}
use Rattle.lane_words.specs.Loads.{loaded_faults}
use Rattle.testbench.specs.Load.{Load}
use Rattle.testbench.proofs.LoadIsKept.{load_kept}
use Rattle.fault_runs.specs.First.{fault_in}
use Rattle.fault_runs.specs.Records.{record_of}
use Rattle.fault_runs.specs.Shown.{HasShown}
use Rattle.fault_runs.specs.Stretch.{AreInForce, state_at}
use Rattle.fault_runs.proofs.Standing.{same_then, shown_same}
use Rattle.fault_runs.proofs.stretch.follow_stretch.Goals as goal

pub put_group-requires-clause-bound : goal.put_group-requires-clause-bound
put_group-requires-clause-bound g c = λ i lt.
    c.requires.bound i lt ∙ ap (λ (m : Circuit). length m.latches) (sym (c.empty.ensures.keeps.circuit ∙ c.requires.made.circuit))

pub follow_cycles-requires-clause-made : goal.follow_cycles-requires-clause-made
follow_cycles-requires-clause-made g c = record {
  circuit = c.put_group.ensures.keeps.circuit ∙ c.empty.ensures.keeps.circuit ∙ c.requires.made.circuit;
  order = c.put_group.ensures.keeps.order ∙ c.empty.ensures.keeps.order ∙ c.requires.made.order;
}

pub follow_cycles-requires-clause-cycles : goal.follow_cycles-requires-clause-cycles
follow_cycles-requires-clause-cycles g c = c.put_group.ensures.cycle ∙ c.empty.ensures.cycle

pub follow_cycles-requires-clause-after : goal.follow_cycles-requires-clause-after
follow_cycles-requires-clause-after g c =
    let run = run_at c.args.bench.now.runs c.args.run in
    let group = c.args.group.now in
    let vectors = take c.args.from run.vectors in
    let size : length vectors ≡ c.args.from = length-take-le c.args.from run.vectors c.requires.from in
    c.put_group.ensures.between vectors (c.empty.ensures.between vectors size)
    (λ k lt.
    subst (λ (m : Circuit). IsStateOf m (loaded_faults c.args.draw.now (fault_in group k)) vectors (state_at c.args.states.now (fault_in group k)))
    (sym (c.empty.ensures.keeps.circuit ∙ c.requires.made.circuit)) (c.requires.stand k lt).latches)

pub follow_cycles-requires-clause-group : goal.follow_cycles-requires-clause-group
follow_cycles-requires-clause-group g c = λ k d lt. subst (λ n. get_or c.args.group.now k d < n) (sym (c.begin.ensures.faults ∙ c.requires.faults)) (c.requires.group k d lt)

pub follow_cycles-requires-clause-fit : goal.follow_cycles-requires-clause-fit
follow_cycles-requires-clause-fit g c = c.begin.ensures.fit c.args.bench.now.points c.requires.fit

pub follow_cycles-requires-clause-known : goal.follow_cycles-requires-clause-known
follow_cycles-requires-clause-known g c = c.begin.ensures.known c.args.group.now

pub keep_group-requires-clause-group : goal.keep_group-requires-clause-group
keep_group-requires-clause-group g c = λ k d lt. subst (λ n. get_or c.args.group.now k d < n) (sym c.requires.states) (c.requires.group k d lt)

pub keep_group-requires-clause-bound : goal.keep_group-requires-clause-bound
keep_group-requires-clause-bound g c = λ i lt.
    c.requires.bound i lt
    ∙ ap (λ (m : Circuit). length m.latches)
    (sym (ap (λ (l : Load). l.circuit) c.follow_cycles.ensures.load ∙ c.put_group.ensures.keeps.circuit ∙ c.empty.ensures.keeps.circuit ∙ c.requires.made.circuit))

pub returns : goal.returns
returns g c =
    let bench = c.args.bench.now in
    let run = run_at bench.runs c.args.run in
    let draw = c.args.draw.now in
    let group = c.args.group.now in
    let from = c.args.from in
    let to = c.min-to.result in
    let was = c.args.records.now in
    let begun = c.begin.new.self in
    let new = c.follow_cycles.new.records in
    let circuit : c.follow_cycles.new.lanes.circuit ≡ bench.circuit =
    ap (λ (l : Load). l.circuit) c.follow_cycles.ensures.load ∙ c.put_group.ensures.keeps.circuit ∙ c.empty.ensures.keeps.circuit ∙ c.requires.made.circuit in
    let in_force : AreInForce draw group c.follow_cycles.new.lanes.in_force =
    subst (λ (fs : List (List (Option Fault))). AreInForce draw group fs) (sym c.follow_cycles.ensures.in_force) c.put_group.ensures.in_force in
    record {
      load =
          c.follow_cycles.ensures.load ∙ load_kept c.empty.new.self c.put_group.new.lanes c.put_group.ensures.keeps
          ∙ load_kept c.args.lanes.now c.empty.new.self c.empty.ensures.keeps;
      bound = λ i lt. c.keep_group.ensures.bound i lt ∙ ap (λ (m : Circuit). length m.latches) circuit;
      faults = c.follow_cycles.ensures.faults ∙ c.begin.ensures.faults;
      fit = c.follow_cycles.ensures.fit;
      to = c.min-to.ensures ∙ ap (λ n. min n (from + 256)) c.cycles-cycles.ensures.count;
      stand = λ k lt.
          let i = fault_in group k in
          let x = loaded_faults draw i in
          let before : HasShown bench.circuit bench.points run x from (record_of begun i) =
          shown_same bench.circuit bench.points run x from (record_of was i) (record_of begun i) (c.begin.ensures.same i) (c.requires.stand k lt).shown in
          record {
            latches = subst (λ (m : Circuit). IsStateOf m x (take to run.vectors) (state_at c.keep_group.new.states i)) circuit
                (c.keep_group.ensures.kept (take to run.vectors) draw k c.follow_cycles.ensures.after in_force lt);
            shown = c.follow_cycles.ensures.shown draw k c.put_group.ensures.in_force lt before;
          };
      other_states = c.keep_group.ensures.others;
      other_records = λ i outside. same_then (record_of was i) (record_of begun i) (record_of new i) (c.begin.ensures.same i) (c.follow_cycles.ensures.others i outside);
      cost = c.follow_cycles.ensures.cost;
    }
