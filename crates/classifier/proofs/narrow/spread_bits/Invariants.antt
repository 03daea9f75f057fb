use Rattle.std.proofs.Common.{◌≡◌, ◌+◌, ◌*◌, ◌<◌, ℕ, length}
use Rattle.std.specs.Prelude.{slice_index_or}
use Rattle.differential_kernel.specs.Picked.{bit_at_place, place_in}
use Rattle.fm_base.specs.Planes.{bit}
use Rattle.classifier.proofs.narrow.spread_bits.Given as goal

-- the planes of the words so far
abbrev pub invariant-loop-word : goal.invariant-loop-word
invariant-loop-word l = record {
  count : length l.planes ≡ 4;
  done : (word k : ℕ) → word < l.word → k < 64 → bit (slice_index_or l.planes word 0) k ≡ bit_at_place l.bits (place_in l.picks (word * 64 + k));
}
