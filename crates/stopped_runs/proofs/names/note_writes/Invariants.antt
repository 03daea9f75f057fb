use Rattle.std.proofs.Common.{◌≡◌, ◌++◌, map, take, drop}
use Rattle.stopped_runs.specs.Stopping.{write_noted}
use Rattle.stopped_runs.proofs.names.note_writes.Given as goal

-- noted with each so far
abbrev pub invariant-loop-told : goal.invariant-loop-told
invariant-loop-told l = l.names ≡ map (write_noted l.name) (take l.told-index l.fn.names) ++ drop l.told-index l.fn.names
