use Rattle.std.proofs.Common.{sym, subst, ◌∙◌}
use Rattle.command_reads.specs.Answers.{AnswersAs}
use Rattle.command_reads.proofs.Netlists.{in_bench, in_blif}
use Rattle.command_reads.proofs.netlist.netlist_from.Goals as goal

pub returns-then-is_bench_name : goal.returns-then-is_bench_name
returns-then-is_bench_name c =
    subst (λ r. AnswersAs r c.bench_from.result) (in_bench c.args.name.now c.args.bytes.now (sym c.is_bench_name.ensures ∙ c.if-is_bench_name.true)) c.bench_from.ensures

pub returns-else-is_bench_name : goal.returns-else-is_bench_name
returns-else-is_bench_name c =
    subst (λ r. AnswersAs r c.blif_from.result) (in_blif c.args.name.now c.args.bytes.now (sym c.is_bench_name.ensures ∙ c.if-is_bench_name.false)) c.blif_from.ensures
