use Rattle.std.proofs.Common.{◌∙◌, ap, sym}
use Rattle.std.specs.Option.{option_map}
use Rattle.blif_flatten.specs.Flattened.{flat_steps}
use Rattle.blif_reader.proofs.Faults.{fault_at, line_faults}
use Rattle.blif_reader.proofs.walk_faults.line_fault.Goals as goal

pub returns-in-Some : goal.returns-in-Some
returns-in-Some c = λ test are.
    ap (option_map (fault_at c.args.kind)) (c.in-Some.ensures.visit test are)
    ∙ sym (line_faults c.args.kind c.args.sort c.args.wanted test (flat_steps c.args.flat.now))

pub returns-in-None : goal.returns-in-None
returns-in-None c = λ test are.
    ap (option_map (fault_at c.args.kind)) (c.in-None.ensures.visit test are)
    ∙ sym (line_faults c.args.kind c.args.sort c.args.wanted test (flat_steps c.args.flat.now))
