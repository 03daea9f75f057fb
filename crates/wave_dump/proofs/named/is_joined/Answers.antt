use Rattle.std.proofs.Common.{◌∙◌, ap, sym, List, ℕ}
use Rattle.std.specs.Str.{bytes_eq}
use Rattle.wave_dump.proofs.Naming.{joined_not, joined_rest, rest_is}
use Rattle.wave_dump.proofs.named.is_joined.Goals as goal

pub returns-then-starts_with : goal.returns-then-starts_with
returns-then-starts_with c =
    let first = c.args.first.now in
    let second = c.args.second.now in
    let text = c.args.text.now in
    c.eq.ensures ∙ ap (λ (bs : List ℕ). bytes_eq bs second) (rest_is first second text)
    ∙ joined_rest first second text (sym c.starts_with.ensures.value ∙ c.if-starts_with.true)

pub returns-else-starts_with : goal.returns-else-starts_with
returns-else-starts_with c =
    c.if-starts_with.false ∙ joined_not c.args.first.now c.args.second.now c.args.text.now (sym c.starts_with.ensures.value ∙ c.if-starts_with.false)
