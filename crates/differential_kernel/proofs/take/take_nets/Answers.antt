use Rattle.std.proofs.Common.{inl, inr, ◌<◌, length, ap, sym, ◌∙◌, arith}
use Rattle.std.proofs.lemmas.Bool.{cases_eq, cases_lt}
use Rattle.circuit.specs.Value.{bit_at}
use Rattle.lane_words.specs.Gates.{plane}
use Rattle.differential_kernel.specs.Picked.{picked}
use Rattle.differential_kernel.proofs.Notes.{at_set_other, at_set_same, same_put}
use Rattle.differential_kernel.specs.Shown.{shown_of}
use Rattle.differential_kernel.proofs.Told.{shown_off}
use Rattle.differential_kernel.proofs.Picking.{picked_alike, picked_none}
use Rattle.differential_kernel.proofs.take.take_nets.Goals as goal

pub places-preserved : goal.places-preserved
places-preserved g c =
    let bit = g.W.Word.lane_bit in
    let others = c.args.others.now in
    let picks = c.args.picks.now in
    let now = c.in-Some.n in
    let words = c.places.words in
    let inv = c.places.invariant in
    let found = c.in-Some.ensures in
    let within : now < length words = omega (arith, found.1, c.requires.bounds, c.requires.own.bound, c.places.auto.words, c.clear.auto.words) in
    record {
      bound = c.put.ensures.bound ∙ inv.bound;
      done = λ place n lt less. elim (cases_eq n now) [
        | inl here ↦
            ap (bit_at (plane bit place _)) here ∙ at_set_same bit place words now c.gather.result within ∙ c.gather.ensures place lt
            ∙ picked_alike picks g.V.Word.lanes (g.V.Word.lane_bit c.difference.result) (λ lane. shown_of g.V.Word.lane_bit others lane now) place c.requires.below c.difference.ensures
            ∙ ap (λ m. picked picks (λ lane. shown_of g.V.Word.lane_bit others lane m) place) (sym here)
        | inr apart ↦ at_set_other bit place words now n c.gather.result apart ∙ elim (cases_lt n c.places.from) [
          | inl before ↦ inv.done place n lt before
          | inr most ↦
              (let between : n < now = omega (arith, less, apart) in
              inv.rest place n lt most
              ∙ sym (picked_none picks g.V.Word.lanes (λ lane. shown_of g.V.Word.lane_bit others lane n) place c.requires.below (λ lane low. shown_off g.V.Word.lanes g.V.Word.lane_bit others n c.requires.others (found.3 n most between) lane low)))
        ]
      ];
      rest = λ place n lt le. at_set_other bit place words now n c.gather.result (omega (arith, le)) ∙ inv.rest place n lt (omega (arith, le, found.0));
      same = same_put g.W.Word.lanes bit c.places.set c.put.new.self words now c.gather.result c.put.ensures.has inv.same;
    }

pub returns-clause-own : goal.returns-clause-own
returns-clause-own g c = record {
  bound = omega (arith, c.places.invariant.bound, c.clear.ensures.bound, c.requires.own.bound, c.places.auto.words, c.clear.auto.words);
  same = c.places.invariant.same;
}

pub returns-clause-words : goal.returns-clause-words
returns-clause-words g c = λ place n lt.
    elim (cases_lt n c.places.from) [
      | inl before ↦ c.places.invariant.done place n lt before
      | inr most ↦
          c.places.invariant.rest place n lt most
          ∙ sym (picked_none c.args.picks.now g.V.Word.lanes (λ lane. shown_of g.V.Word.lane_bit c.args.others.now lane n) place c.requires.below (λ lane low. shown_off g.V.Word.lanes g.V.Word.lane_bit c.args.others.now n c.requires.others (c.in_default.ensures n most) lane low))
    ]
