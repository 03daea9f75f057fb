use Rattle.std.proofs.Common.{◌∷◌, []}
use Rattle.std.specs.Prelude.{codes, flat_map}
use Rattle.std.proofs.lemmas.Result.{err_from_is_err_and}
use Rattle.campaign_plan.specs.Analysis.{fault_count}
use Rattle.fm_base.specs.Lists.{below}
use Rattle.fm_base.specs.Text.{line}
use Rattle.fm_shelf.proofs.Sending.{sends_as, sends_stop, sends_then}
use Rattle.always.specs.Text.{named_line}
use Rattle.always.specs.Verdict.{verdict_at}
use Rattle.always.specs.declared.verdict.Verdict.TheVariants.{Open}
use Rattle.always.proofs.Telling.{names_are}
use Rattle.always.proofs.text.write_tail.Goals as goal

pub returns-in_err-write_names : goal.returns-in_err-write_names
returns-in_err-write_names g c =
    let e = err_from_is_err_and c.from_residual.result c.from_residual.ensures.1 in
    let p = c.args.plan.now in
    let verdict = verdict_at p c.args.from c.args.answers.now in
    rw e.1 (sends_as (names_are p verdict) (sends_stop (line (codes "end" ∷ [])) e.0
    (sends_stop (flat_map (named_line p verdict Open (codes "open")) (below (fault_count p))) e.0 c.in_err-write_names.ensures)))

pub returns-in_err-write_names-2 : goal.returns-in_err-write_names-2
returns-in_err-write_names-2 g c =
    let e = err_from_is_err_and c.from_residual-in_err-write_names-2.result c.from_residual-in_err-write_names-2.ensures.1 in
    let p = c.args.plan.now in
    let verdict = verdict_at p c.args.from c.args.answers.now in
    rw e.1 (sends_as (names_are p verdict) (sends_stop (line (codes "end" ∷ [])) e.0 (sends_then c.in_ok-write_names.ensures c.in_err-write_names-2.ensures)))

pub returns : goal.returns
returns g c =
    let p = c.args.plan.now in
    sends_as (names_are p (verdict_at p c.args.from c.args.answers.now)) (sends_then (sends_then c.in_ok-write_names.ensures c.in_ok-write_names-2.ensures) c.write_line.ensures)
