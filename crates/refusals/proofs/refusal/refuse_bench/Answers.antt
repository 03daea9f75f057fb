use Rattle.std.proofs.Common.{◌∷◌, ◌∙◌, ap, sym}
use Rattle.std.specs.Prelude.{codes, decimal}
use Rattle.refusals.specs.Said.{shown_bench_net}
use Rattle.refusals.proofs.Saying.{bare_said, named_said, bench_bare}
use Rattle.refusals.proofs.refusal.refuse_bench.Goals as goal

pub returns-in-Undriven : goal.returns-in-Undriven
returns-in-Undriven g c =
    named_said _ _ (codes "bench line") (decimal c.args.fault.now.line) _ _ _ _ c.bench_word-word.ensures
    (ap shown_bench_net c.in-Undriven.is ∙ ap (λ name. 32 ∷ name) (sym c.as_slice.ensures)) c.refuse_named.ensures

pub returns-in_default : goal.returns-in_default
returns-in_default g c =
    bare_said _ _ (codes "bench line") (decimal c.args.fault.now.line) _ _ _ c.bench_word-word.ensures (bench_bare _ c.in_default.not-Undriven) c.refuse_row.ensures
