use Rattle.std.proofs.Common.{◌≡◌, ℕ, take}
use Rattle.std.specs.Prelude.{nat_lt}
use Rattle.std.specs.List.{list_any}
use Rattle.workload.specs.Runs.{cycles_of}
use Rattle.golden_values.proofs.values.longest_run.Given as goal

-- that of the runs so far
abbrev pub invariant-loop-run : goal.invariant-loop-run
invariant-loop-run l = (t : ℕ) → nat_lt t l.longest ≡ list_any (λ run. nat_lt t (cycles_of run)) (take l.run l.bench.runs)
