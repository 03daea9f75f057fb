use Rattle.std.proofs.Common.{◌≡◌, ◌+◌, ◌++◌, ◌∷◌, List, [], Bool, length, take, ap, ap₂, sym, ◌∙◌, subst, arith}
use Rattle.std.specs.Prelude.{Option}
use Rattle.std.proofs.lemmas.List.{length-take-le, take_more}
use Rattle.circuit.specs.declared.parts.Fault.{Fault}
use Rattle.circuit.specs.Circuit.{Circuit}
use Rattle.circuit.specs.Trace.{trace, vector_at}
use Rattle.circuit.proofs.Cycles.{trace_taken}
use Rattle.workload.specs.Runs.{run_at}
use Rattle.alarm_points.specs.declared.Points.{Points}
use Rattle.alarm_points.specs.PointsKept.{ArePointsFor}
use Rattle.golden_difference.specs.Beside.{AreBeside, IsGoldenRow}
use Rattle.lane_words.specs.Loads.{loaded_faults}
use Rattle.testbench.specs.Load.{Load}
use Rattle.fault_runs.specs.First.{fault_in}
use Rattle.fault_runs.specs.Records.{AreRecordsFor, record_of}
use Rattle.fault_runs.specs.Shown.{SeesCycle}
use Rattle.fault_runs.specs.Stretch.{AreInForce, IsAfterCycle}
use Rattle.fault_runs.proofs.stretch.run_cycle.Goals as goal

pub see_cycle-requires-clause-points : goal.see_cycle-requires-clause-points
see_cycle-requires-clause-points g c =
    subst (λ (ps : Points). ArePointsFor c.advance.new.lanes.circuit ps) (sym c.points.ensures.points)
    (subst (λ (m : Circuit). ArePointsFor m c.args.bench.now.points) (sym (ap (λ (l : Load). l.circuit) c.advance.ensures.keeps ∙ c.requires.made.circuit)) c.points.ensures.fit)

pub see_cycle-requires-clause-fit : goal.see_cycle-requires-clause-fit
see_cycle-requires-clause-fit g c = subst (λ (ps : Points). AreRecordsFor ps c.args.records.now) (sym c.points.ensures.points) c.requires.fit

pub returns : goal.returns
returns g c =
    let net = c.args.bench.now.circuit in
    let points = c.args.bench.now.points in
    let run = run_at c.args.bench.now.runs c.args.run in
    let t = c.args.t in
    let row = c.row-row.result.now in
    let lt = c.requires.cycle in
    let group = c.args.group.now in
    let lanes = g.W.Word.lanes in
    let bit = g.W.Word.lane_bit in
    let old = c.args.records.now in
    let new = c.see_cycle.new.records in
    let shown = c.points.result.now in
    let same : shown ≡ points = c.points.ensures.points in
    let golden : IsGoldenRow net run.vectors t row = c.row-row.ensures in
    let circuit : c.advance.new.lanes.circuit ≡ net = ap (λ (l : Load). l.circuit) c.advance.ensures.keeps ∙ c.requires.made.circuit in
    let size : length (take t run.vectors) ≡ t = length-take-le t run.vectors (omega (arith, lt)) in
    let joined : take t run.vectors ++ vector_at run.vectors t ∷ [] ≡ take (t + 1) run.vectors = sym (take_more run.vectors t [] lt) in
    let here : IsGoldenRow net (take t run.vectors ++ vector_at run.vectors t ∷ []) (length (take t run.vectors)) row =
    λ n within. golden n within ∙ sym (trace_taken net [] run.vectors t n lt) ∙ ap₂ (λ (vs : List (List Bool)) m. trace net [] vs m n) (sym joined) (sym size) in
    let beside : AreBeside lanes bit (take (t + 1) run.vectors) c.advance.new.lanes =
    subst (λ (vs : List (List Bool)). AreBeside lanes bit vs c.advance.new.lanes) joined (c.advance.ensures.from_state (take t run.vectors) (vector_at run.vectors t) c.requires.after here) in
    record {
      load = c.advance.ensures.keeps;
      in_force = c.advance.ensures.in_force;
      cycles = c.advance.ensures.cycles ∙ ap (λ n. n + 1) c.requires.cycles;
      after = λ k in_lanes. (beside k in_lanes).between;
      faults = c.see_cycle.ensures.faults;
      fit = subst (λ (ps : Points). AreRecordsFor ps new) same c.see_cycle.ensures.fit;
      known = c.see_cycle.ensures.known;
      seen = λ draw k in_force in_group.
          let x = loaded_faults draw (fault_in group k) in
          let after : IsAfterCycle lanes bit run t draw group row c.advance.new.lanes = record {
            within = lt;
            beside = beside;
            golden = subst (λ (m : Circuit). IsGoldenRow m run.vectors t row) (sym circuit) golden;
            in_force = subst (λ (fs : List (List (Option Fault))). AreInForce draw group fs) (sym c.advance.ensures.in_force) in_force;
          } in
          subst (λ (ps : Points). SeesCycle net ps run x t (record_of old (fault_in group k)) (record_of new (fault_in group k))) same
          (subst (λ (m : Circuit). SeesCycle m shown run x t (record_of old (fault_in group k)) (record_of new (fault_in group k))) circuit
          (c.see_cycle.ensures.seen run draw k after in_group));
      others = c.see_cycle.ensures.others;
      cost = c.advance.ensures.cost;
    }
