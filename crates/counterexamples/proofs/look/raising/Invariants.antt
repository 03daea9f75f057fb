use Rattle.std.proofs.Common.{◌≡◌, ◌+◌, ◌<◌, ℕ, Bool, List, length, take}
use Rattle.circuit.specs.Trace.{trace}
use Rattle.fm_base.specs.Planes.{bit}
use Rattle.lane_words.specs.Bank.{AreAfter}
use Rattle.lane_words.specs.Loads.{loaded_faults}
use Rattle.counterexamples.specs.Contradicted.{some_raised}
use Rattle.counterexamples.proofs.look.raising.Given as goal

-- the lanes in which some net so far is 1
abbrev pub invariant-loop-net : goal.invariant-loop-net
invariant-loop-net l =
    (vectors : List (List Bool)) (t k : ℕ) → AreAfter 64 bit vectors l.lanes → t + 1 ≡ length vectors → k < 64
    → bit l.raised k ≡ some_raised (take l.net-index l.nets) (trace l.lanes.circuit (loaded_faults l.lanes.loads k) vectors t)
