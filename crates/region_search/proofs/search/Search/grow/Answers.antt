use Rattle.std.proofs.Common.{◌≡◌, ◌<◌, ◌≤◌, ◌+◌, inl, inr, true, false, length, set, ap, sym, subst, ◌∙◌, arith, length-set}
use Rattle.std.proofs.lemmas.Bool.{cases_Bool, cases_lt}
use Rattle.std.proofs.lemmas.Option.{slice_get_within}
use Rattle.fm_base.proofs.Tests.{clash, or_cases, or_false}
use Rattle.circuit.specs.declared.parts.Latch.{Latch}
use Rattle.pair_sets.specs.Choice.{set_at}
use Rattle.pair_sets.specs.Pairs.{has}
use Rattle.pair_sets.specs.declared.pairs.PairSet.{PairSet}
use Rattle.region_search.proofs.FirstSets.{latch_seen}
use Rattle.region_search.proofs.Growing.{grown_here, grown_keeps, grown_other, latch_is, not_grown, rest_grown}
use Rattle.region_search.proofs.Standing.{more_left}
use Rattle.region_search.specs.BeginSteps.{latch_of}
use Rattle.region_search.specs.Window.{IsForced, leaves_from}
use Rattle.region_search.specs.Work.{pairs_left}
use Rattle.region_search.proofs.search.Search.grow.Goals as goal

pub grow_at-grows-requires-clause-to : goal.grow_at-grows-requires-clause-to
grow_at-grows-requires-clause-to c =
    (latch_seen c.args.watchers.now.circuit c.args.latches.now c.loop-number.number c.requires.made.sound c.requires.made.all c.loop-number-test.true).net

pub loop-number-preserved : goal.loop-number-preserved
loop-number-preserved c =
    let k = c.loop-number.number in
    let now = c.loop-number.starts in
    let first = c.args.starts.now in
    let start = c.grow_at-grows.new.start in
    let latches = c.args.latches.now in
    let rest = c.loop-number.invariant.rest in
    let lt : k < length now = omega (arith, c.loop-number-test.true, c.loop-number.invariant.size) in
    let same : c.grow_at-grows.result ≡ false → set now k start ≡ now = λ e. not_grown now first k start lt rest (c.grow_at-grows.ensures.same e) in
    let at_least : pairs_left first ≤ pairs_left now = elim (cases_Bool c.loop-number.some) as (λ _. pairs_left first ≤ pairs_left now) [
      | inl some ↦ (let more = c.loop-number.invariant.grows some in omega (arith, more))
      | inr none ↦ (let as_before = ap pairs_left (c.loop-number.invariant.same none) in omega (arith, as_before))
    ] in
    record {
      trial = c.grow_at-grows.ensures.trial;
      frames = c.grow_at-grows.ensures.frames ∙ c.loop-number.invariant.frames;
      size = length-set now k start ∙ c.loop-number.invariant.size;
      same = λ e. (let both = or_false c.loop-number.some c.grow_at-grows.result e in same both.1 ∙ c.loop-number.invariant.same both.0);
      keeps = λ j x y e. grown_keeps now first k start lt rest j x y (c.grow_at-grows.ensures.keeps x y) (c.loop-number.invariant.keeps j x y e);
      again = λ e s bounds q sites goes golden faulty so lie j latch less at. (
          let both = or_false c.loop-number.some c.grow_at-grows.result e in
          elim (cases_lt j k) as (λ _. leaves_from (s.region latch.to.0) (has (set_at first j)) (golden 0 latch.from.0) (faulty 0 latch.from.0) ≡ false) [
            | inl before ↦ c.loop-number.invariant.again both.0 s bounds q sites goes golden faulty so lie j latch before at
            | inr last ↦ (
                let it : j ≡ k = omega (arith, less, last) in
                let start_is : set_at now k ≡ set_at first j = rest k (omega arith) ∙ ap (set_at first) (sym it) in
                subst (λ (each : Latch). leaves_from (s.region each.to.0) (has (set_at first j)) (golden 0 each.from.0) (faulty 0 each.from.0) ≡ false) (latch_is latches k j latch it at)
                (subst (λ (p : PairSet). leaves_from (s.region (latch_of latches k).to.0) (has p) (golden 0 (latch_of latches k).from.0) (faulty 0 (latch_of latches k).from.0) ≡ false) start_is
                (c.grow_at-grows.ensures.again both.1 s bounds q sites goes golden faulty so lie)))
          ]);
      grows = λ e. elim (cases_Bool c.grow_at-grows.result) as (λ _. pairs_left first + 1 ≤ pairs_left (set now k start)) [
        | inl grew ↦ (let more = more_left now k start lt (c.grow_at-grows.ensures.grows grew) in omega (arith, more, at_least))
        | inr none ↦ elim (or_cases c.loop-number.some c.grow_at-grows.result e) as (λ _. pairs_left first + 1 ≤ pairs_left (set now k start)) [
          | inr grew ↦ absurd (clash c.grow_at-grows.result grew none)
          | inl some ↦ (
              let more = c.loop-number.invariant.grows some in
              let as_before = ap pairs_left (same none) in
              omega (arith, more, as_before))
        ]
      ];
      rest = rest_grown now first k start lt rest;
      forced = λ s bounds q sites goes j latch less at x y e. elim (cases_lt j k) as (λ _. IsForced s latch (has (set_at first j)) x y) [
        | inl before ↦ c.loop-number.invariant.forced s bounds q sites goes j latch before at x y
            (ap (λ (p : PairSet). has p x y) (sym (grown_other now first k start lt rest j (λ one. absurd (omega (arith, one, before))))) ∙ e)
        | inr last ↦ (
            let it : j ≡ k = omega (arith, less, last) in
            let start_is : set_at now k ≡ set_at first j = rest k (omega arith) ∙ ap (set_at first) (sym it) in
            let there : has start x y ≡ true =
            ap (λ (p : PairSet). has p x y) (sym (grown_here now first k start lt rest)) ∙ ap (λ i. has (set_at (set now k start) i) x y) (sym it) ∙ e in
            subst (λ (each : Latch). IsForced s each (has (set_at first j)) x y) (latch_is latches k j latch it at)
            (subst (λ (p : PairSet). IsForced s (latch_of latches k) (has p) x y) start_is (c.grow_at-grows.ensures.forced s bounds q sites goes x y there)))
      ];
    }

pub returns-clause-again : goal.returns-clause-again
returns-clause-again c = λ e s bounds q sites goes golden faulty so lie l latch at.
    c.loop-number.invariant.again e s bounds q sites goes golden faulty so lie l latch (omega (arith, slice_get_within c.args.latches.now l latch at, c.loop-number-test.false)) at

pub returns-clause-forced : goal.returns-clause-forced
returns-clause-forced c = λ s bounds q sites goes l latch at x y e.
    c.loop-number.invariant.forced s bounds q sites goes l latch (omega (arith, slice_get_within c.args.latches.now l latch at, c.loop-number-test.false)) at x y e
