use Rattle.std.proofs.Common.{◌≡◌, ◌<◌, ◌==◌, ◌||◌, ℕ, true, cond, length, inl, inr, refl, ap, sym, ◌∙◌, arith}
use Rattle.std.proofs.lemmas.Bool.{cases_eq, cases_lt, eq-eqb, ne_eqb}
use Rattle.std.proofs.lemmas.List.{length-set}
use Rattle.circuit.specs.Value.{bit_at}
use Rattle.lane_words.specs.Gates.{plane}
use Rattle.place_set.specs.Places.{has}
use Rattle.differential_kernel.proofs.Notes.{at_set_other, at_set_same, same_put}
use Rattle.differential_kernel.proofs.group.put_state.Goals as goal

pub latches-preserved : goal.latches-preserved
latches-preserved g c =
    let bit = g.W.Word.lane_bit in
    let lane = c.args.lane in
    let now = c.in-Some.l in
    let words = c.latches.latches.raw.items in
    let first = c.args.latches.now.raw.items in
    let inv = c.latches.invariant in
    let found = c.in-Some.ensures in
    let within : now < length words = omega (arith, found.1, c.requires.bound, inv.raw) in
    let word : (k : ℕ) → k < g.W.Word.lanes → bit c.put.result k ≡ cond (k == lane) true (bit_at (plane bit k words) now) =
    λ k lt. c.put.ensures k lt ∙ ap (cond (k == lane) true) (c.word_at.ensures k lt ∙ ap (λ ws. bit_at (plane bit k ws) now) c.deref.ensures.value) in
    record {
      raw = length-set words now c.put.result ∙ inv.raw;
      bound = c.put-in-Some.ensures.bound ∙ inv.bound;
      done = λ n less. elim (cases_eq n now) [
        | inl here ↦
            ap (bit_at (plane bit lane _)) here ∙ at_set_same bit lane words now c.put.result within ∙ word lane c.requires.lane
            ∙ ap (λ b. cond b true (bit_at (plane bit lane words) now)) (eq-eqb lane lane refl)
            ∙ sym (ap (λ b. b || bit_at (plane bit lane first) n) (ap (has c.args.state.now) here ∙ found.2))
        | inr apart ↦ at_set_other bit lane words now n c.put.result apart ∙ elim (cases_lt n c.latches.from) [
          | inl before ↦ inv.done n before
          | inr most ↦
              inv.rest n most ∙ sym (ap (λ b. b || bit_at (plane bit lane first) n) (found.3 n most (omega (arith, less, apart))))
        ]
      ];
      rest = λ n le. at_set_other bit lane words now n c.put.result (omega (arith, le)) ∙ inv.rest n (omega (arith, le, found.0));
      others = λ k n lt other. elim (cases_eq n now) [
        | inl here ↦
            ap (bit_at (plane bit k _)) here ∙ at_set_same bit k words now c.put.result within ∙ word k lt
            ∙ ap (λ b. cond b true (bit_at (plane bit k words) now)) (ne_eqb k lane other) ∙ ap (bit_at (plane bit k words)) (sym here)
            ∙ inv.others k n lt other
        | inr apart ↦ at_set_other bit k words now n c.put.result apart ∙ inv.others k n lt other
      ];
      same = same_put g.W.Word.lanes bit c.latches.latches.live c.put-in-Some.new.self words now c.put.result c.put-in-Some.ensures.has inv.same;
    }
