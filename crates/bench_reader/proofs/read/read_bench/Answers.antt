use Rattle.std.proofs.Common.{ap, ◌∙◌}
use Rattle.std.specs.Prelude.{Err}
use Rattle.std.proofs.lemmas.Result.{err_from_is_err_and}
use Rattle.bench_reader.proofs.Answered.{file_answered, file_ready, file_refused}
use Rattle.bench_reader.proofs.read.read_bench.Goals as goal

pub returns-in_err-gathered : goal.returns-in_err-gathered
returns-in_err-gathered c =
    let p = err_from_is_err_and c.from_residual.result c.from_residual.ensures.1 in
    file_refused c.args.bytes.now c.in_err-gathered.field-0.0 c.from_residual.result c.in_err-gathered.ensures (p.1 ∙ ap Err p.2)

pub netlist_of-requires : goal.netlist_of-requires
netlist_of-requires c = file_ready c.args.bytes.now c.in_ok-gathered.gathered c.in_ok-gathered.ensures

pub returns : goal.returns
returns c = file_answered c.args.bytes.now c.in_ok-gathered.gathered c.netlist_of.result c.in_ok-gathered.ensures c.netlist_of.ensures
