use Rattle.std.proofs.Common.{◌<◌, List, ap, ◌∙◌, arith}
use Rattle.circuit.specs.declared.parts.Fault.{Fault}
use Rattle.circuit.specs.Trace.{trace}
use Rattle.row_audit.proofs.every_table.Lanes4Circuits.golden.Goals as goal

pub returns : goal.returns
returns c = λ vectors t after last inside.
    let first : 0 < 64 = omega arith in
    c.has_bit.ensures ∙ c.net.ensures vectors t 0 after.1 last first inside
    ∙ ap (λ (faults : List Fault). trace c.args.self.now.circuit faults vectors t c.args.net.0) (after.0 0 first)
