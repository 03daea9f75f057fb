use Rattle.std.proofs.Common.{◌≡◌, ◌≢◌, ◌≤◌, ◌<◌, ◌∷◌, ◌++◌, [], ℕ, List}
use Rattle.std.specs.Prelude.{slice_index_or}
use Rattle.alarm_points.specs.FourWatches.{windows_at}
use Rattle.alarm_points.specs.Watch.{IsAfterPairs, Pair, window_at}
use Rattle.classifier.specs.Noise.{noise_at}
use Rattle.classifier.specs.Seen.{AllKeepIntervals}
use Rattle.classifier.proofs.see.see_goal.Given as goal

-- the goal's windows of the words so far have seen the cycle, and those of the others are as they were
abbrev pub invariant-loop-word : goal.invariant-loop-word
invariant-loop-word l = record {
  keeps : AllKeepIntervals l.initial.windows l.windows;
  others : (word g : ℕ) → g ≢ l.goal → window_at (windows_at l.windows word) g ≡ window_at (windows_at l.initial.windows word) g;
  done : (word : ℕ) (pairs : List Pair) → word < l.word → IsAfterPairs pairs (window_at (windows_at l.initial.windows word) l.goal)
      → IsAfterPairs (pairs ++ record { differs = slice_index_or l.differs word 0; raised = (noise_at l.noise word).raised } ∷ [])
      (window_at (windows_at l.windows word) l.goal);
  left : (word : ℕ) → l.word ≤ word → windows_at l.windows word ≡ windows_at l.initial.windows word;
}
