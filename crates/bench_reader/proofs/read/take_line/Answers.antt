use Rattle.std.proofs.Common.{ap, subst, sym, ◌∙◌}
use Rattle.std.specs.List.{before_first}
use Rattle.std.specs.Option.{option_map}
use Rattle.blif_text.specs.Lines.{is_hash}
use Rattle.bench_reader.specs.Gather.{StatementFits, add_said}
use Rattle.bench_reader.specs.LineFault.{at_line, said}
use Rattle.bench_reader.specs.Statement.{Statement}
use Rattle.bench_reader.specs.Tokens.{tokens_of}
use Rattle.bench_reader.proofs.Rows.{statement_fits}
use Rattle.bench_reader.proofs.read.take_line.Goals as goal

pub add-requires : goal.add-requires
add-requires c = subst StatementFits (sym (c.in-Ok.ensures c.args.line).1) (statement_fits (tokens_of (before_first is_hash c.args.text.now)))

pub returns-in_ok-add-in-Ok : goal.returns-in_ok-add-in-Ok
returns-in_ok-add-in-Ok c =
    let line = said (c.args.line, c.args.text.now) in
    let says = c.in-Ok.ensures c.args.line in
    (says.0, c.in_ok-add-in-Ok.ensures line.wide ∙ ap (λ (s : Statement). add_said c.args.gathered.now (record { number = c.args.line; says = s; wide = line.wide })) says.1)

pub returns-in-Err : goal.returns-in-Err
returns-in-Err c = ap (option_map (at_line c.args.line)) (c.in-Err.ensures c.args.line)
