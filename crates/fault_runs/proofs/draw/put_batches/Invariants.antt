use Rattle.std.proofs.Common.{◌≡◌, ◌+◌, ◌*◌, ◌/◌, ◌%◌, ◌<◌, ℕ, [], ◌∷◌}
use Rattle.std.specs.Prelude.{Some}
use Rattle.fault_list.specs.Faults.{fault_in_lane}
use Rattle.lane_words.specs.Loads.{loaded_faults, somes}
use Rattle.fault_runs.proofs.draw.put_batches.Given as goal

-- the numbers so far hold their faults
abbrev pub invariant-loop-i : goal.invariant-loop-i
invariant-loop-i l = (j : ℕ) → j < l.i → loaded_faults l.draw j ≡ somes (fault_in_lane l.faults (Some (l.first + j / 64 * l.apart)) (j % 64) ∷ [])
