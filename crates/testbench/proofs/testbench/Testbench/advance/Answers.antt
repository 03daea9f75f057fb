use Rattle.std.proofs.Common.{◌++◌, ◌∷◌, [], length, subst, sym}
use Rattle.golden_difference.specs.Beside.{IsGoldenRow}
use Rattle.testbench.specs.Testbench.{Testbench}
use Rattle.testbench.proofs.LoadIsKept.{load_kept}
use Rattle.testbench.proofs.testbench.Testbench.advance.Goals as goal

pub returns-clause-keeps : goal.returns-clause-keeps
returns-clause-keeps g c = load_kept c.args.lanes.now c.cycle.new.self c.cycle.ensures.keeps

pub returns-clause-step : goal.returns-clause-step
returns-clause-step g c = λ vectors inputs after golden.
    c.cycle.ensures.step vectors inputs (λ k lt. (after k lt).between)
    (subst (λ (bench : Testbench). IsGoldenRow bench.circuit (vectors ++ inputs ∷ []) (length vectors) c.args.row.now) (sym c.self.view_is) golden)

pub returns-clause-from_state : goal.returns-clause-from_state
returns-clause-from_state g c = λ vectors inputs after golden.
    c.cycle.ensures.step vectors inputs after
    (subst (λ (bench : Testbench). IsGoldenRow bench.circuit (vectors ++ inputs ∷ []) (length vectors) c.args.row.now) (sym c.self.view_is) golden)
