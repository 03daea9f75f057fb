use Rattle.std.proofs.Common.{◌≡◌, ◌<◌, ℕ, length, get_or}
use Rattle.fm_base.specs.Planes.{bit}
use Rattle.wave_dump.specs.Dump.{value_at}
use Rattle.wave_dump.specs.Steps.{IsIn}
use Rattle.wave_dump.proofs.values.hold.Given as goal

abbrev pub invariant-loop-place : goal.invariant-loop-place
invariant-loop-place l = record {
  count : length l.held ≡ length l.scene.nets;
  values : (t scope j : ℕ) → IsIn l.scene t l.lanes → scope < 2 → j < l.place → bit (get_or l.held j 0) scope ≡ value_at l.scene scope j t;
}
