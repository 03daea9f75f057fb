use Rattle.std.proofs.Common.{◌≡◌, ◌+◌, [], take, length, sym, ◌∙◌, arith}
use Rattle.std.proofs.lemmas.List.{length-take-le}
use Rattle.circuit.proofs.Cycles.{trace_taken}
use Rattle.row_audit.proofs.points.golden_of.Goals as goal

pub returns : goal.returns
returns g c = λ run t lt after inside.
    let loaded = g.B.Circuits.loaded c.args.circuits.now in
    let size : t + 1 ≡ length (take (t + 1) run.vectors) = sym (length-take-le (t + 1) run.vectors (omega (arith, lt))) in
    c.golden.ensures (take (t + 1) run.vectors) t after size inside
    ∙ trace_taken loaded.circuit [] run.vectors t c.args.net.0 lt
