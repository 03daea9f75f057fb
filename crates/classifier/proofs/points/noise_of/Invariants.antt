use Rattle.std.proofs.Common.{◌≡◌, ◌+◌, ◌*◌, ◌<◌, ℕ, length}
use Rattle.fm_base.specs.Planes.{bit}
use Rattle.classifier.specs.Noise.{noise_at}
use Rattle.classifier.proofs.points.noise_of.Given as goal

-- the alarms of the words so far
abbrev pub invariant-loop-word : goal.invariant-loop-word
invariant-loop-word g l = record {
  count : length l.noise ≡ 4;
  raised : (word k : ℕ) → word < l.word → k < 64 → bit (noise_at l.noise word).raised k ≡ g.W.Word.lane_bit l.heard.raised (word * 64 + k);
  silenced : (word k : ℕ) → word < l.word → k < 64 → bit (noise_at l.noise word).silenced k ≡ g.W.Word.lane_bit l.heard.silenced (word * 64 + k);
}
