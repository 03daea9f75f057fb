use Rattle.std.proofs.Common.{◌∙◌, ap, sym, ℕ, List, length, get_or, Bor, arith}
use Rattle.std.proofs.lemmas.Slice.Eq.{bytes_eq-Decides}
use Rattle.stopped_runs.specs.declared.names.Told.{Told}
use Rattle.stopped_runs.proofs.Noting.{mapped_more}
use Rattle.stopped_runs.proofs.names.ToldNames.are.Goals as goal

pub loop-i-preserved : goal.loop-i-preserved
loop-i-preserved c =
    let own : List Told = c.args.self.now.names.items in
    let at = c.loop-i.i in
    let same = (bytes_eq-Decides c.as_slice.result.now c.as_bytes.result.now).0 (sym c.is_same.ensures ∙ c.if-not-is_same.false) in
    mapped_more (λ (told : Told). told.name.items) (λ (name : Bor (List ℕ)). name.now) own c.args.names.now at c.index-told-i.result _
    (omega (arith, c.loop-i-test.true, c.if-told-names.false, ap length c.as_slice-told.ensures.value)) c.loop-i-test.true c.loop-i.invariant
    (ap (λ (all : List Told). (get_or all at c.index-told-i.result).name.items) (sym c.as_slice-told.ensures.value)
    ∙ sym c.as_slice.ensures.value ∙ same ∙ c.as_bytes.ensures.value)
