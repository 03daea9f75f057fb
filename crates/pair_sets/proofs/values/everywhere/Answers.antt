use Rattle.std.proofs.Common.{◌==◌, ap, sym, ◌∙◌}
use Rattle.std.proofs.lemmas.Nat.Bits.{bit_at_ones}
use Rattle.pair_sets.proofs.values.everywhere.Goals as goal

pub returns-then-value : goal.returns-then-value
returns-then-value c = λ k lt. ap (λ n. n == 1) (bit_at_ones 64 k lt) ∙ sym c.if-value.true
