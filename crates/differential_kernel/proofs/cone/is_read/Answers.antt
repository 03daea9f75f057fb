use Rattle.std.proofs.Common.{◌+◌, length, get_or, ap, sym, ◌∙◌, arith}
use Rattle.std.proofs.lemmas.Bool.{true≢false}
use Rattle.std.proofs.lemmas.List.Elements.{Contains-get_or}
use Rattle.circuit.specs.Value.{driver_at}
use Rattle.fanout.specs.Readers.{Ordered}
use Rattle.differential_kernel.proofs.Begun.{read_within}
use Rattle.differential_kernel.proofs.cone.is_read.Goals as goal

pub drives_one-requires-clause-places : goal.drives_one-requires-clause-places
drives_one-requires-clause-places c = λ k d lt.
    let o = c.args.cycle.now.fanout.now in
    let place = get_or c.readers.result.now k d in
    omega (
      arith,
      ap (λ (m : Ordered). length m.order + length m.circuit.latches) c.requires.golden.fanout,
      read_within o c.args.net.0 place ((c.readers.ensures place).0 (Contains-get_or c.readers.result.now k d lt)),
    )

pub returns-then-has : goal.returns-then-has
returns-then-has c = λ unread. record {
  outside = λ none place reads. absurd (true≢false (sym c.if-has.true ∙ c.has.ensures ∙ none));
  inside = λ there i is. c.is_input.ensures i unread (sym (ap (λ (o : Ordered). driver_at o.circuit c.args.net.0) c.requires.golden.fanout) ∙ is);
}

pub returns-else-has : goal.returns-else-has
returns-else-has c = λ unread. record {
  outside = λ none place reads. c.drives_one.ensures place unread ((c.readers.ensures place).1 reads);
  inside = λ there i is. absurd (true≢false (sym there ∙ sym c.has.ensures ∙ c.if-has.false));
}
