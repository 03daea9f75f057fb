use Rattle.std.proofs.Common.{◌≡◌, ◌≢◌, ◌<◌, ◌⊎◌, true, [], length, inl, inr, refl, ap, ◌∙◌, arith}
use Rattle.std.proofs.lemmas.List.{get_or_default}
use Rattle.alarm_points.specs.FourWatches.{windows_at}
use Rattle.alarm_points.specs.Watch.{Watches}
use Rattle.fm_base.specs.Planes.{bit}
use Rattle.classifier.specs.Seen.{is_dropped, known_at, left_at}
use Rattle.classifier.proofs.EachWord.{each_set_one}
use Rattle.classifier.proofs.Stretches.{place_kept, place_same}
use Rattle.classifier.proofs.run.leave_words.Goals as goal

pub loop-word-preserved : goal.loop-word-preserved
loop-word-preserved g c =
    let i = c.loop-word.word in
    let ns = c.loop-word.left in
    let inv = c.loop-word.invariant in
    let decided = c.args.decided.now in
    let ws = c.args.windows.now in
    let seen = c.args.seen.now in
    let start = g.F.Followed.in_run c.args.lanes.now in
    let held = g.F.Followed.in_run c.loop-word.lanes in
    let next = g.F.Followed.in_run c.drop_more.new.lanes in
    let out = c.all_left-out.result in
    let none : Watches = windows_at [] 0 in
    let inside : i < length ns = omega (arith, c.loop-word-test.true, c.words-word-end.ensures.count, c.loop-word.auto.left, c.requires.2) in
    let has : i < length ws = omega (arith, c.loop-word-test.true, c.words-word-end.ensures.count, c.requires.1) in
    let here : c.index-windows-at.result ≡ windows_at ws i = c.index-windows-at.is ∙ get_or_default ws i c.index-windows-at.result none has in
    record {
      place = place_kept start held next inv.place c.drop_more.ensures.place;
      left = λ word k lt.
          each_set_one (λ j p. bit p k ≡ is_dropped (known_at decided j) (windows_at ws j) (left_at seen j) k) ns i out 0 inside
          (c.all_left-out.ensures k ∙ ap (λ (w : Watches). is_dropped (known_at decided i) w (left_at seen i) k) here) word (λ apart. inv.left word k (omega (arith, lt, apart)));
      dropped = λ word k lt less lane.
          each_set_one (λ j p. j < g.F.Followed.words → (next.faults j k ≡ start.faults j k) ⊎ ((bit p k ≡ true) × (next.faults j k ≡ []))) ns i out 0 inside
          (λ own.
          elim (c.drop_more.ensures.dropped i k own lane) as (λ _. (next.faults i k ≡ start.faults i k) ⊎ ((bit out k ≡ true) × (next.faults i k ≡ []))) [
            | inl same ↦ inl (same ∙ inv.rest i k (omega arith) own lane)
            | inr gone ↦ inr (gone.1, gone.2)
          ])
          word
          (λ apart own.
          let same : next.faults word k ≡ held.faults word k = c.drop_more.ensures.others word k own lane (inl apart) in
          elim (inv.dropped word k (omega (arith, lt, apart)) own lane)
          as (λ _. (next.faults word k ≡ start.faults word k) ⊎ ((bit (left_at ns word) k ≡ true) × (next.faults word k ≡ []))) [
            | inl kept ↦ inl (same ∙ kept)
            | inr gone ↦ inr (gone.0, same ∙ gone.1)
          ])
          less;
      rest = λ word k le less lane.
          let apart : word ≢ i = omega (arith, le) in
          c.drop_more.ensures.others word k less lane (inl apart) ∙ inv.rest word k (omega (arith, le)) less lane;
    }

pub returns-clause-left : goal.returns-clause-left
returns-clause-left g c = λ word k lt. c.loop-word.invariant.left word k (omega (arith, lt, c.loop-word-test.false, c.words-word-end.ensures.count))

pub returns-clause-dropped : goal.returns-clause-dropped
returns-clause-dropped g c = λ word k lt lane.
    c.loop-word.invariant.dropped word k (omega (arith, lt, c.loop-word-test.false, c.words-word-end.ensures.count)) lt lane

pub loop-word-init : goal.loop-word-init
loop-word-init g c = record {
  place = place_same (g.F.Followed.in_run c.args.lanes.now);
  left = λ word k lt. absurd (omega (arith, lt));
  dropped = λ word k lt less lane. absurd (omega (arith, lt));
  rest = λ word k le less lane. refl;
}
