use Rattle.std.proofs.Common.{◌≡◌, map, take}
use Rattle.stopped_runs.proofs.names.ToldNames.are.Given as goal

-- the names so far are the same
abbrev pub invariant-loop-i : goal.invariant-loop-i
invariant-loop-i l = map (λ told. told.name.items) (take l.i l.self.names.items) ≡ map (λ name. name.now) (take l.i l.names)
