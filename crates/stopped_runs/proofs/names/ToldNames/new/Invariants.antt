use Rattle.std.proofs.Common.{◌≡◌, map, take}
use Rattle.stopped_runs.proofs.names.ToldNames.new.Given as goal

-- the names so far
abbrev pub invariant-loop-name : goal.invariant-loop-name
invariant-loop-name l = map (λ told. told.name.items) l.told.items ≡ map (λ name. name.now) (take l.name-index l.names)
