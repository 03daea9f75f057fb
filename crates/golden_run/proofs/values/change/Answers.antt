use Rattle.std.proofs.Common.{◌≡◌, ◌==◌, ℕ, cond, List, length, refl, ap, sym, subst, ◌∙◌, arith}
use Rattle.std.proofs.lemmas.Bool.{true≢false}
use Rattle.std.proofs.lemmas.List.{with_items_is}
use Rattle.std.specs.Vec.{with_items}
use Rattle.fanout.specs.Readers.{IsReadAt, Ordered}
use Rattle.place_set.specs.Places.{value_in}
use Rattle.golden_run.proofs.values.change.Goals as goal

pub returns-then-not-values : goal.returns-then-not-values
returns-then-not-values c =
    let net = c.args.net.0 in
    let row : c.deref_mut.result.now ≡ c.args.values.now.row.items = c.deref_mut.ensures.value in
    let size : length c.put_bit.new.words ≡ length c.args.values.now.row.items = c.put_bit.ensures.count ∙ ap (λ (words : List ℕ). length words) row in
    let is : (with_items c.args.values.now.row c.put_bit.new.words).items ≡ c.put_bit.new.words =
    with_items_is c.args.values.now.row c.put_bit.new.words (size ∙ sym c.args.values.now.row.ok.0) in
    record {
      sizes = record {
        row = ap (λ (words : List ℕ). length words) is ∙ size ∙ c.requires.sizes.row;
        marks = c.mark_all.ensures.bound ∙ c.requires.sizes.marks;
      };
      all = refl;
      values = λ n. ap (λ (words : List ℕ). value_in words n) is ∙ c.put_bit.ensures.bits n ∙ ap (λ (words : List ℕ). cond (n == net) c.args.value (value_in words n)) row;
      kept = c.mark_all.ensures.kept;
      marked = λ p lt reads few none.
          absurd (true≢false
          (sym (c.mark_all.ensures.marked p (omega (arith, lt, c.requires.sizes.marks)) ((c.readers.ensures p).1 (subst (λ (o : Ordered). IsReadAt o net p) (sym c.requires.wiring.fanout) reads)))
          ∙ none));
    }
