use Rattle.std.proofs.Common.{◌≡◌, ◌+◌, ◌*◌, ◌<◌, ℕ, length}
use Rattle.std.specs.Prelude.{slice_index_or}
use Rattle.fm_base.specs.Planes.{bit}
use Rattle.classifier.proofs.points.parts_of.Given as goal

-- the planes of the words so far
abbrev pub invariant-loop-word : goal.invariant-loop-word
invariant-loop-word g l = record {
  count : length l.planes ≡ 4;
  done : (word k : ℕ) → word < l.word → k < 64 → bit (slice_index_or l.planes word 0) k ≡ g.W.Word.lane_bit l.lanes (word * 64 + k);
}
