use Rattle.std.proofs.Common.{◌≡◌, ◌<◌, ◌≤◌, ◌⊎◌, ℕ, true, []}
use Rattle.alarm_points.specs.FourWatches.{windows_at}
use Rattle.fm_base.specs.Planes.{bit}
use Rattle.classifier.specs.InRun.{KeepPlace}
use Rattle.classifier.specs.Seen.{is_dropped, known_at, left_at}
use Rattle.classifier.proofs.run.leave_words.Given as goal

-- the lanes of the words so far are dropped in which nothing more decides, and in the others the same faults are in force
abbrev pub invariant-loop-word : goal.invariant-loop-word
invariant-loop-word g l = record {
  place : KeepPlace (g.F.Followed.in_run l.initial.lanes) (g.F.Followed.in_run l.lanes);
  left : (word k : ℕ) → word < l.word → bit (left_at l.left word) k ≡ is_dropped (known_at l.decided word) (windows_at l.windows word) (left_at l.seen word) k;
  dropped : (word k : ℕ) → word < l.word → word < g.F.Followed.words → k < 64
      → ((g.F.Followed.in_run l.lanes).faults word k ≡ (g.F.Followed.in_run l.initial.lanes).faults word k)
      ⊎ ((bit (left_at l.left word) k ≡ true) × ((g.F.Followed.in_run l.lanes).faults word k ≡ []));
  rest : (word k : ℕ) → l.word ≤ word → word < g.F.Followed.words → k < 64
      → (g.F.Followed.in_run l.lanes).faults word k ≡ (g.F.Followed.in_run l.initial.lanes).faults word k;
}
