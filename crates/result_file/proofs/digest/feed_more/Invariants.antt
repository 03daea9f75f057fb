use Rattle.std.proofs.Common.{ℕ, List, ◌++◌, take}
use Rattle.std.specs.List.{flat_map}
use Rattle.sha2.specs.Hashers.{Holds256}
use Rattle.result_file.specs.Feeding.{after_comma}
use Rattle.result_file.proofs.digest.feed_more.Given as goal

abbrev pub invariant-loop-cycle : goal.invariant-loop-cycle
invariant-loop-cycle l =
    (m : List ℕ) → Holds256 l.fn.hasher m → Holds256 l.hasher (m ++ flat_map after_comma (take l.cycle-index l.cycles))
