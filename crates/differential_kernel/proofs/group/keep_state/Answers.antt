use Rattle.std.proofs.Common.{◌≡◌, ◌≢◌, ◌==◌, ◌&&◌, ◌||◌, ◌<◌, Bool, true, false, inl, inr, refl, ap, sym, ◌∙◌, arith}
use Rattle.std.proofs.lemmas.Bool.{cases_eq, cases_lt, eq-eqb, ne_eqb}
use Rattle.circuit.specs.Value.{bit_at}
use Rattle.lane_words.specs.Gates.{plane}
use Rattle.place_set.specs.Places.{has}
use Rattle.differential_kernel.proofs.Dropping.{or_false}
use Rattle.differential_kernel.proofs.group.keep_state.Goals as goal

pub latches-preserved : goal.latches-preserved
latches-preserved g c =
    let bit = g.W.Word.lane_bit in
    let lane = c.args.lane in
    let now = c.in-Some.l in
    let raw = c.args.latches.now.raw.items in
    let inv = c.latches.invariant in
    let found = c.in-Some.ensures in
    let wanted = c.get-differs.result in
    let differs : wanted ≡ bit_at (plane bit lane raw) now =
    c.get-differs.ensures ∙ c.word_at.ensures lane c.requires.lane ∙ ap (λ ws. bit_at (plane bit lane ws) now) c.deref.ensures.value in
    record {
      bound = c.put_where.ensures.bound ∙ inv.bound;
      done = λ n less. elim (cases_eq n now) [
        | inl here ↦
            c.put_where.ensures.has n ∙ ap (λ b. (b && wanted) || has c.latches.state n) (eq-eqb n now here)
            ∙ ap (λ b. wanted || b) (inv.rest n (omega (arith, here, found.0))) ∙ or_false wanted ∙ differs ∙ ap (bit_at (plane bit lane raw)) (sym here)
        | inr apart ↦ c.put_where.ensures.has n ∙ ap (λ b. (b && wanted) || has c.latches.state n) (ne_eqb n now apart) ∙ elim (cases_lt n c.latches.from) [
          | inl before ↦ inv.done n before
          | inr most ↦ inv.rest n most ∙ sym (c.requires.live.same n (found.3 n most (omega (arith, less, apart))) lane c.requires.lane)
        ]
      ];
      rest = λ n le.
          let apart : n ≢ now = λ same. absurd (omega (arith, same, le)) in
          c.put_where.ensures.has n ∙ ap (λ b. (b && wanted) || has c.latches.state n) (ne_eqb n now apart) ∙ inv.rest n (omega (arith, le, found.0));
    }
