use Rattle.std.proofs.Common.{◌≡◌}
use Rattle.lane_words.specs.Bank.{IsBankFor}
use Rattle.test_simulators.proofs.words.word_bits.Given as goal

-- the lanes stand behind so many cycles
abbrev pub invariant-loop-t : goal.invariant-loop-t
invariant-loop-t g l = record { made : IsBankFor l.net l.order l.lanes; cycle : l.lanes.cycle ≡ l.t }
