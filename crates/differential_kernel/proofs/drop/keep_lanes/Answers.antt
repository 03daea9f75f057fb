use Rattle.std.proofs.Common.{◌≡◌, inl, inr, ◌<◌, ◌&&◌, false, not, length, ap, ap₂, sym, ◌∙◌, arith}
use Rattle.std.proofs.lemmas.Bool.{cases_eq, cases_lt}
use Rattle.circuit.specs.Value.{bit_at}
use Rattle.lane_words.specs.Bits.{either}
use Rattle.lane_words.specs.Gates.{plane}
use Rattle.differential_kernel.proofs.Notes.{at_set_other, at_set_same}
use Rattle.differential_kernel.proofs.Dropping.{at_plane, kept_bit, none_kept}
use Rattle.differential_kernel.proofs.drop.keep_lanes.Goals as goal

pub places-preserved : goal.places-preserved
places-preserved g c =
    let bit = g.W.Word.lane_bit in
    let place = c.in-Some.place in
    let words = c.places.words in
    let found = c.in-Some.ensures in
    let within : place < length words = omega (arith, found.1, c.requires.bound, c.places.auto.words) in
    record {
      done = λ k n lt less. elim (cases_eq n place) [
        | inl same ↦
            ap (bit_at (plane bit k _)) same ∙ at_set_same bit k words place c.and.result within ∙ c.and.ensures k lt
            ∙ ap₂ (λ a b. a && b)
            (ap (λ w. bit w k) c.index-words-place.is ∙ at_plane bit k words place c.index-words-place.result within ∙ c.places.invariant.rest k place found.0)
            (c.xor-keep.ensures k lt ∙ ap (either (bit c.args.out k)) (c.all.ensures k lt))
            ∙ kept_bit (bit_at (plane bit k c.args.words.now) place) (bit c.args.out k)
            ∙ ap (λ i. not (bit c.args.out k) && bit_at (plane bit k c.args.words.now) i) (sym same)
        | inr other ↦ at_set_other bit k words place n c.and.result other ∙ elim (cases_lt n c.places.from) [
          | inl before ↦ c.places.invariant.done k n lt before
          | inr most ↦
              (let between : n < place = omega (arith, less, other) in
              let none : bit_at (plane bit k c.args.words.now) n ≡ false = c.requires.same n (found.3 n most between) k lt in
              c.places.invariant.rest k n most ∙ none ∙ sym (ap (λ b. not (bit c.args.out k) && b) none ∙ none_kept (bit c.args.out k)))
        ]
      ];
      rest = λ k n le. at_set_other bit k words place n c.and.result (omega (arith, le)) ∙ c.places.invariant.rest k n (omega (arith, le, found.0));
    }

pub returns : goal.returns
returns g c = λ k n lt.
    let bit = g.W.Word.lane_bit in
    elim (cases_lt n c.places.from) [
      | inl before ↦ c.places.invariant.done k n lt before
      | inr most ↦
          (let none : bit_at (plane bit k c.args.words.now) n ≡ false = c.requires.same n (c.in_default.ensures n most) k lt in
          c.places.invariant.rest k n most ∙ none ∙ sym (ap (λ b. not (bit c.args.out k) && b) none ∙ none_kept (bit c.args.out k)))
    ]
