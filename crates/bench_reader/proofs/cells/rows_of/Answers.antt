use Rattle.std.proofs.lemmas.Result.{IfOk-weaker}
use Rattle.bench_reader.proofs.Parity.{few_rows, few_inputs}
use Rattle.bench_reader.proofs.cells.rows_of.Goals as goal

pub returns-in-Xor-clause-few : goal.returns-in-Xor-clause-few
returns-in-Xor-clause-few c =
    IfOk-weaker c.parity_rows.result _ _ (λ rows e. few_rows c.args.inputs rows (few_inputs c.args.gate c.args.inputs c.in-Xor.is c.requires) e) c.parity_rows.ensures
