use Rattle.std.proofs.Common.{◌≡◌, ◌<◌, ℕ, [], length, get_or}
use Rattle.reading_planes.specs.Folded.{planes_at}
use Rattle.reading_planes.proofs.runs.start_planes.Given as goal

-- the words so far have found nothing, and each has room for its readings
abbrev pub invariant-loop-word : goal.invariant-loop-word
invariant-loop-word l = record {
  count : (word : ℕ) → length (get_or l.planes word []) ≡ length (get_or l.initial.planes word []);
  nothing : (word r : ℕ) → word < l.word → r < length (get_or l.initial.planes word []) → planes_at l.planes word r ≡ record { danger = 0; noticed = 0 };
}
