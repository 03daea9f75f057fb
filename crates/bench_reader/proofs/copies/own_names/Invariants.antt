use Rattle.std.proofs.Common.{◌≡◌, map, take}
use Rattle.bench_reader.proofs.copies.own_names.Given as goal

abbrev pub invariant-loop-name : goal.invariant-loop-name
invariant-loop-name l = l.owned ≡ map (λ name. name.now) (take l.name-index l.names)
