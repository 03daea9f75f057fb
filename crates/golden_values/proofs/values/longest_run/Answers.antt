use Rattle.std.proofs.Common.{◌<◌, ◌≤◌, ◌||◌, List, [], length, take, ap, sym, ◌∙◌, arith, take_all}
use Rattle.std.specs.Prelude.{nat_lt}
use Rattle.std.specs.List.{list_any}
use Rattle.std.proofs.lemmas.Bool.{le-ltb}
use Rattle.std.proofs.lemmas.List.Folds.{list_any_more}
use Rattle.workload.specs.declared.run.Kind.TheVariants.{Mission}
use Rattle.workload.specs.declared.run.Run.{Run}
use Rattle.workload.specs.Runs.{cycles_of}
use Rattle.golden_values.proofs.Exciting.{longest_run_more}
use Rattle.golden_values.proofs.values.longest_run.Goals as goal

pub loop-run-init : goal.loop-run-init
loop-run-init c = λ t. le-ltb t 0 (omega arith)

pub loop-run-preserved : goal.loop-run-preserved
loop-run-preserved c = λ t.
    let runs = c.args.bench.now.runs in
    let n = c.loop-run.run in
    let none : Run = record { kind = Mission; vectors = [] } in
    let within : n < length runs = omega (arith, c.runs-run-end.ensures, c.loop-run-test.true) in
    ap (nat_lt t) c.max-longest.ensures
    ∙ longest_run_more t c.cycles.result c.loop-run.longest _ (c.loop-run.invariant t)
    ∙ ap (λ m. list_any (λ (r : Run). nat_lt t (cycles_of r)) (take n runs) || nat_lt t m) c.cycles.ensures.count
    ∙ sym (list_any_more (λ (r : Run). nat_lt t (cycles_of r)) runs n none within)

pub returns : goal.returns
returns c = λ t.
    let runs = c.args.bench.now.runs in
    let done : length runs ≤ c.loop-run.run = omega (arith, c.runs-run-end.ensures, c.loop-run-test.false) in
    c.loop-run.invariant t ∙ ap (λ (rs : List Run). list_any (λ r. nat_lt t (cycles_of r)) rs) (take_all c.loop-run.run runs done)
