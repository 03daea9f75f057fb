use Rattle.std.proofs.Common.{◌≡◌, ◌∷◌, [], false, ap, ◌∙◌, arith}
use Rattle.std.proofs.lemmas.Bool.Decides.{nat_tests}
use Rattle.std.specs.Prelude.{◌==◌, codes, decimal}
use Rattle.fm_base.specs.Text.{line}
use Rattle.fm_shelf.proofs.Sending.{sends_as}
use Rattle.refusals.proofs.audit_text.write_audit.Goals as goal

pub returns : goal.returns
returns g c =
    let rows = c.bytes-2.ensures ∙ c.number_word-rows.ensures in
    let batches = c.bytes-3.ensures ∙ c.number_word-batches.ensures ∙ ap decimal c.from.ensures in
    let every = c.bytes-4.ensures ∙ c.number_word.ensures ∙ ap decimal c.from-2.ensures in
    let some : (c.args.every == 1) ≡ false = grind (arith, c.if-every-eq1.false, nat_tests) in
    rw some (sends_as (λ j. line (codes "audit" ∷ rows j ∷ codes "of" ∷ batches j ∷ codes "rows agree" ∷ codes "every" ∷ every j ∷ [])) c.write_line-2.ensures)
