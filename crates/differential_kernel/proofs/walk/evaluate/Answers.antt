use Rattle.std.proofs.Common.{◌≡◌, length, ap, subst, sym, ◌∙◌, arith}
use Rattle.circuit.specs.Value.{bit_at}
use Rattle.fanout.specs.Readers.{Ordered}
use Rattle.lane_words.specs.Gates.{plane}
use Rattle.differential_kernel.specs.Forced.{evaluated_in}
use Rattle.differential_kernel.specs.Walk.{IsGivenAt}
use Rattle.differential_kernel.proofs.Notes.{at_set_other, at_set_same}
use Rattle.differential_kernel.proofs.walk.evaluate.Goals as goal

pub store-requires-clause-net : goal.store-requires-clause-net
store-requires-clause-net g c = omega (arith, c.requires.gate.inside.to, c.requires.to, ap (λ (o : Ordered). length o.circuit.drivers) c.requires.golden.fanout)

pub returns-clause-settled : goal.returns-clause-settled
returns-clause-settled g c =
    let bit = g.W.Word.lane_bit in
    let circuit = c.args.cycle.now.netlist.now in
    let row = c.args.cycle.now.row.now in
    let net = c.args.net.0 in
    let words = c.args.nets.now.words.items in
    let forces = c.args.forces.now.by_net.items in
    record {
      value = λ k d state inputs lt given.
          ap (λ ws. bit_at (plane bit k ws) net) c.store.ensures.word
          ∙ at_set_same bit k words net c.table_difference-word.result
          (omega (arith, c.requires.gate.inside.to, c.requires.to, c.requires.nets.words, ap (λ (o : Ordered). length o.circuit.drivers) c.requires.golden.fanout))
          ∙ subst (λ n. bit c.table_difference-word.result k ≡ evaluated_in bit k circuit row forces d state inputs words n) c.requires.to
          (c.table_difference-word.ensures k d state inputs lt (subst (IsGivenAt circuit row) (sym c.requires.to) given)
          ∙ ap (λ ws. evaluated_in bit k circuit row forces d state inputs ws c.args.gate.now.to) c.deref.ensures.value);
      others = λ k n other.
          ap (λ ws. bit_at (plane bit k ws) n) c.store.ensures.word ∙ at_set_other bit k words net n c.table_difference-word.result other;
    }
