use Rattle.std.proofs.Common.{◌≡◌, ◌+◌, take, length, sym, ◌∙◌, arith}
use Rattle.std.proofs.lemmas.List.{length-take-le}
use Rattle.circuit.proofs.Cycles.{trace_taken}
use Rattle.row_audit.proofs.points.values_of.Goals as goal

pub returns : goal.returns
returns g c = λ run t k lt after lane inside.
    let loaded = g.B.Circuits.loaded c.args.circuits.now in
    let size : t + 1 ≡ length (take (t + 1) run.vectors) = sym (length-take-le (t + 1) run.vectors (omega (arith, lt))) in
    c.values.ensures (take (t + 1) run.vectors) t k after size lane inside
    ∙ trace_taken loaded.circuit (loaded.faults c.args.word k) run.vectors t c.args.net.0 lt
