use Rattle.std.proofs.Common.{◌≡◌, ◌+◌, ◌*◌, ◌<◌, ℕ, length}
use Rattle.differential_kernel.specs.Picked.{bit_at_place, place_in}
use Rattle.fm_base.specs.Planes.{bit}
use Rattle.classifier.specs.Noise.{noise_at}
use Rattle.classifier.proofs.narrow.spread_noise.Given as goal

-- the alarms of the words so far
abbrev pub invariant-loop-word : goal.invariant-loop-word
invariant-loop-word l = record {
  count : length l.noise ≡ 4;
  raised : (word k : ℕ) → word < l.word → k < 64 → bit (noise_at l.noise word).raised k ≡ bit_at_place l.heard.raised (place_in l.picks (word * 64 + k));
  silenced : (word k : ℕ) → word < l.word → k < 64 → bit (noise_at l.noise word).silenced k ≡ bit_at_place l.heard.silenced (place_in l.picks (word * 64 + k));
}
