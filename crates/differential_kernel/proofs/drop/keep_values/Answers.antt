use Rattle.std.proofs.Common.{◌≡◌, inl, inr, ◌<◌, ◌&&◌, not, length, set, ap, ap₂, sym, ◌∙◌, arith}
use Rattle.std.proofs.lemmas.Bool.{cases_eq, cases_lt}
use Rattle.circuit.specs.Value.{bit_at}
use Rattle.lane_words.specs.Bits.{either}
use Rattle.lane_words.specs.Gates.{plane}
use Rattle.place_set.specs.Places.{value_in}
use Rattle.differential_kernel.specs.Shown.{told_in}
use Rattle.differential_kernel.proofs.Notes.{at_set_other, at_set_same}
use Rattle.differential_kernel.proofs.Dropping.{at_plane, kept_bit, none_kept}
use Rattle.differential_kernel.proofs.Told.{either_twice, told_out, told_stays, told_there}
use Rattle.differential_kernel.proofs.drop.keep_values.Goals as goal

pub places-preserved : goal.places-preserved
places-preserved g c =
    let bit = g.W.Word.lane_bit in
    let places = c.args.set.now in
    let row = c.args.row.now in
    let out = c.args.out in
    let first = c.args.values.now in
    let place = c.in-Some.place in
    let values = c.places.values in
    let v = c.kept_value.result in
    let found = c.in-Some.ensures in
    let within : place < length values = omega (arith, found.1, c.requires, c.places.auto.values) in
    let golden = value_in row place in
    record {
      done = λ k n lt less. elim (cases_eq n place) as (λ _. told_in bit k row places (set values place v) n ≡ (not (bit out k) && told_in bit k row places first n)) [
        | inl same ↦
            (let before = bit_at (plane bit k first) place in
            let own : bit c.index-values-place.result k ≡ before =
            ap (λ w. bit w k) c.index-values-place.is ∙ at_plane bit k values place c.index-values-place.result within ∙ c.places.invariant.rest k place found.0 in
            let kept : bit v k ≡ either golden (not (bit out k) && either golden before) =
            c.kept_value.ensures k lt
            ∙ ap (λ a. either a (either a (bit c.index-values-place.result k) && bit c.xor-keep.result k)) c.value_in_words.ensures
            ∙ ap₂ (λ a b. either golden (either golden a && b)) own (c.xor-keep.ensures k lt ∙ ap (either (bit out k)) (c.all.ensures k lt))
            ∙ ap (either golden) (kept_bit (either golden before) (bit out k)) in
            ap (told_in bit k row places (set values place v)) same
            ∙ told_there bit k row places (set values place v) place found.2
            ∙ ap (either golden) (at_set_same bit k values place v within ∙ kept)
            ∙ either_twice golden (not (bit out k) && either golden before)
            ∙ ap (λ b. not (bit out k) && b) (sym (told_there bit k row places first place found.2))
            ∙ ap (λ i. not (bit out k) && told_in bit k row places first i) (sym same))
        | inr other ↦ told_stays bit k row places values (set values place v) n (at_set_other bit k values place n v other) ∙ elim (cases_lt n c.places.from) [
          | inl before ↦ c.places.invariant.done k n lt before
          | inr most ↦
              (let between : n < place = omega (arith, less, other) in
              let none = found.3 n most between in
              told_out bit k row places values n none ∙ sym (ap (λ b. not (bit out k) && b) (told_out bit k row places first n none) ∙ none_kept (bit out k)))
        ]
      ];
      rest = λ k n le. at_set_other bit k values place n v (omega (arith, le)) ∙ c.places.invariant.rest k n (omega (arith, le, found.0));
    }

pub returns : goal.returns
returns g c = λ k n lt.
    let bit = g.W.Word.lane_bit in
    elim (cases_lt n c.places.from) [
      | inl before ↦ c.places.invariant.done k n lt before
      | inr most ↦
          (let none = c.in_default.ensures n most in
          told_out bit k c.args.row.now c.args.set.now c.places.values n none
          ∙ sym (ap (λ b. not (bit c.args.out k) && b) (told_out bit k c.args.row.now c.args.set.now c.args.values.now n none) ∙ none_kept (bit c.args.out k)))
    ]
