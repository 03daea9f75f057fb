use Rattle.std.proofs.Common.{inl, inr, ◌<◌, length, arith}
use Rattle.std.proofs.lemmas.Bool.{cases_lt}
use Rattle.differential_kernel.specs.Differences.{IsSame}
use Rattle.differential_kernel.proofs.Notes.{same_set}
use Rattle.differential_kernel.proofs.sources.clear.Goals as goal

pub places-init : goal.places-init
places-init g c = record { done = λ n lt k below. absurd (omega arith); off = c.requires.same }

pub places-preserved : goal.places-preserved
places-preserved g c =
    let lanes = g.W.Word.lanes in
    let bit = g.W.Word.lane_bit in
    let place = c.in-Some.place in
    let found = c.in-Some.ensures in
    let words = c.places.words in
    let within : place < length words = omega (arith, found.1, c.requires.bound, c.places.auto.words) in
    record {
      done = λ n lt.
          same_set lanes bit words place n c.all.result within c.all.ensures
          (λ apart. elim (cases_lt n c.places.from) as (λ _. IsSame lanes bit words n) [
            | inl less ↦ c.places.invariant.done n less
            | inr most ↦ c.places.invariant.off n (found.3 n most (omega (arith, lt, apart)))
          ]);
      off = λ n none. same_set lanes bit words place n c.all.result within c.all.ensures (λ apart. c.places.invariant.off n none);
    }

pub returns-clause-same : goal.returns-clause-same
returns-clause-same g c = λ n.
    elim (cases_lt n c.places.from) as (λ _. IsSame g.W.Word.lanes g.W.Word.lane_bit c.places.words n) [
      | inl less ↦ c.places.invariant.done n less
      | inr most ↦ c.places.invariant.off n (c.in_default.ensures n most)
    ]
