use Rattle.std.proofs.Common.{◌≡◌, ◌+◌, [], take, length, ap₂, sym, ◌∙◌, arith}
use Rattle.std.proofs.lemmas.List.{length-take-le}
use Rattle.circuit.proofs.Cycles.{trace_taken}
use Rattle.lane_words.specs.Bits.{either}
use Rattle.lane_words.specs.Loads.{loaded_faults}
use Rattle.fault_runs.proofs.points.difference_at.Goals as goal

pub returns : goal.returns
returns g c = λ run t k lt after lane inside.
    let circuit = c.args.lanes.now.circuit in
    let faults = loaded_faults c.args.lanes.now.in_force k in
    let size : t + 1 ≡ length (take (t + 1) run.vectors) = sym (length-take-le (t + 1) run.vectors (omega (arith, lt))) in
    c.difference.ensures (take (t + 1) run.vectors) t k after size lane inside
    ∙ ap₂ either (trace_taken circuit faults run.vectors t c.args.net.0 lt) (trace_taken circuit [] run.vectors t c.args.net.0 lt)
