use Rattle.std.proofs.Common.{◌≡◌, length, ap, sym, subst, ◌∙◌, arith}
use Rattle.circuit.specs.Circuit.{Circuit}
use Rattle.alarm_points.specs.declared.Points.{Points}
use Rattle.fault_runs.specs.Records.{AreRecordsFor}
use Rattle.fault_runs.proofs.draw.FaultDraw.new.Goals as goal

pub returns-clause-made : goal.returns-clause-made
returns-clause-made c =
    let bench = c.args.bench.now in
    let made = c.in_ok-lanes.ensures.made in
    let count : length c.in_ok-faults.faults.items ≡ c.args.count = omega (arith, c.in_ok-faults.ensures.len, c.in_ok-faults.faults.ok.0) in
    let latches : length c.latches.result.now ≡ length bench.circuit.latches = ap length c.latches.ensures.value ∙ ap (λ (m : Circuit). length m.latches) c.net.ensures in
    record {
      lanes = record { circuit = made.circuit ∙ c.net-2.ensures; order = made.order ∙ c.order.ensures.order };
      states = c.in_ok-states.ensures.count ∙ sym count;
      bound = λ i lt. c.in_ok-states.ensures.bound i (omega (arith, lt, c.in_ok-states.ensures.count)) ∙ latches;
      records = c.in_ok-records.ensures.faults ∙ sym count;
      fit = subst (λ (ps : Points). AreRecordsFor ps c.in_ok-records.records) c.points.ensures.points c.in_ok-records.ensures.fit;
      active = c.in_ok-active.ensures.bound ∙ sym count;
      group = omega (arith, c.in_ok-group.ensures.len, c.in_ok-group.group.ok.0);
    }

pub returns-clause-count : goal.returns-clause-count
returns-clause-count c = omega (arith, c.in_ok-faults.ensures.len, c.in_ok-faults.faults.ok.0)
