use Rattle.std.proofs.Common.{◌≡◌, ◌<◌, ◌&&◌, ◌||◌, ℕ, length}
use Rattle.workload.specs.Runs.{is_test}
use Rattle.fm_base.specs.Planes.{bit}
use Rattle.classifier.specs.Noise.{noise_at}
use Rattle.classifier.specs.Seen.{left_at}
use Rattle.classifier.proofs.see.notice.Given as goal

-- the lanes of the words so far
abbrev pub invariant-loop-word : goal.invariant-loop-word
invariant-loop-word l = record {
  count : length l.seen ≡ 4;
  done : (word k : ℕ) → word < l.word
      → bit (left_at l.seen word) k
      ≡ (bit (left_at l.left word) k || (bit (noise_at l.noise word).raised k || (is_test l.kind && bit (noise_at l.noise word).silenced k)));
}
