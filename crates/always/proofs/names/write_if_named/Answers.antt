use Rattle.std.proofs.Common.{◌∙◌, ℕ, true, false, ap, sym}
use Rattle.fm_shelf.proofs.Sending.{sends_as, sends_none}
use Rattle.always.specs.Steps.{is_named}
use Rattle.always.specs.Verdict.{verdict_at}
use Rattle.always.specs.declared.verdict.Verdict.{Verdict}
use Rattle.always.proofs.Telling.{named_is}
use Rattle.always.proofs.names.write_if_named.Goals as goal

pub returns-then-is_named : goal.returns-then-is_named
returns-then-is_named g c =
    let p = c.args.plan.now in
    let verdict : ℕ → Verdict = verdict_at p c.args.from c.args.answers.now in
    let test = ap (λ stands. is_named p stands c.args.kind c.args.i) (sym c.verdict_of-stands.ensures) ∙ sym c.is_named.ensures ∙ c.if-is_named.true in
    sends_as (named_is p verdict c.args.kind c.args.word.now c.args.i true test) c.write_named.ensures

pub returns-else-is_named : goal.returns-else-is_named
returns-else-is_named g c =
    let p = c.args.plan.now in
    let verdict : ℕ → Verdict = verdict_at p c.args.from c.args.answers.now in
    let test = ap (λ stands. is_named p stands c.args.kind c.args.i) (sym c.verdict_of-stands.ensures) ∙ sym c.is_named.ensures ∙ c.if-is_named.false in
    sends_as (named_is p verdict c.args.kind c.args.word.now c.args.i false test) (sends_none _)
