use Rattle.std.proofs.Common.{◌≡◌, false, not, ◌||◌, ◌&&◌}
use Rattle.std.specs.List.{list_any}
use Rattle.fm_base.specs.Lists.{below}
use Rattle.fm_base.specs.Planes.{bit}
use Rattle.fault_list.specs.Faults.{is_used}
use Rattle.result_file.proofs.check.has_unused_lane.Given as goal

abbrev pub invariant-loop-lane : goal.invariant-loop-lane
invariant-loop-lane l =
    list_any (λ k. not (is_used l.faults l.row.batch k) && (bit l.row.danger k || bit l.row.noticed k)) (below l.lane) ≡ false
