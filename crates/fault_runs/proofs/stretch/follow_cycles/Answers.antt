use Rattle.std.proofs.Common.{◌≡◌, ◌<◌, ◌≤◌, List, length, take, get_or, refl, ap, sym, ◌∙◌, subst, arith}
use Rattle.std.specs.Prelude.{Option}
use Rattle.circuit.specs.declared.parts.Fault.{Fault}
use Rattle.workload.specs.Runs.{run_at}
use Rattle.golden_difference.specs.Beside.{AreBetween}
use Rattle.lane_words.specs.Loads.{loaded_faults}
use Rattle.testbench.specs.Load.{Load}
use Rattle.fault_runs.specs.First.{fault_in}
use Rattle.fault_runs.specs.Records.{record_of}
use Rattle.fault_runs.specs.Stretch.{AreInForce}
use Rattle.fault_runs.proofs.Standing.{cost_more, same_self, same_then, shown_more}
use Rattle.fault_runs.proofs.stretch.follow_cycles.Goals as goal

pub loop-t-init : goal.loop-t-init
loop-t-init g c = record {
  load = refl;
  in_force = refl;
  cycles = c.requires.cycles;
  after = c.requires.after;
  faults = refl;
  fit = c.requires.fit;
  known = c.requires.known;
  shown = λ draw k in_force lt has. has;
  others = λ i outside. same_self (record_of c.args.records.now i);
  cost = omega arith;
}

pub run_cycle-requires-clause-made : goal.run_cycle-requires-clause-made
run_cycle-requires-clause-made g c =
    let inv = c.loop-t.invariant in
    record {
      circuit = ap (λ (l : Load). l.circuit) inv.load ∙ c.requires.made.circuit;
      order = ap (λ (l : Load). l.order) inv.load ∙ c.requires.made.order;
    }

pub run_cycle-requires-clause-group : goal.run_cycle-requires-clause-group
run_cycle-requires-clause-group g c = λ k d lt. subst (λ n. get_or c.args.group.now k d < n) (sym c.loop-t.invariant.faults) (c.requires.group k d lt)

pub loop-t-preserved : goal.loop-t-preserved
loop-t-preserved g c =
    let inv = c.loop-t.invariant in
    let ran = c.run_cycle.ensures in
    let bench = c.args.bench.now in
    let run = run_at bench.runs c.args.run in
    let was = c.args.records.now in
    let old = c.loop-t.records in
    let new = c.run_cycle.new.records in
    let group = c.args.group.now in
    record {
      load = ran.load ∙ inv.load;
      in_force = ran.in_force ∙ inv.in_force;
      cycles = ran.cycles;
      after = ran.after;
      faults = ran.faults ∙ inv.faults;
      fit = ran.fit;
      known = ran.known;
      shown = λ draw k in_force lt has.
          let i = fault_in group k in
          let now : AreInForce draw group c.loop-t.lanes.in_force =
          subst (λ (fs : List (List (Option Fault))). AreInForce draw group fs) (sym inv.in_force) in_force in
          shown_more bench.circuit bench.points run (loaded_faults draw i) c.loop-t.t (record_of old i) (record_of new i) (inv.shown draw k in_force lt has) (ran.seen draw k now lt);
      others = λ i outside. same_then (record_of was i) (record_of old i) (record_of new i) (inv.others i outside) (ran.others i outside);
      cost =
          cost_more c.args.steps.now c.loop-t.steps c.run_cycle.new.steps c.args.from c.loop-t.t (length bench.circuit.tables) (omega (arith, c.requires.from, c.loop-t.auto.t)) inv.cost ran.cost;
    }

pub returns-clause-after : goal.returns-clause-after
returns-clause-after g c =
    let within : c.loop-t.t ≤ c.args.to = c.loop-t.auto.t-end c.requires.from in
    let end : c.loop-t.t ≡ c.args.to = omega (arith, within, c.loop-t-test.false) in
    subst (λ n. AreBetween g.W.Word.lanes g.W.Word.lane_bit (take n (run_at c.args.bench.now.runs c.args.run).vectors) c.loop-t.lanes) end c.loop-t.invariant.after
