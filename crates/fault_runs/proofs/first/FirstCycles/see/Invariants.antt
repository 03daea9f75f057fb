use Rattle.std.proofs.Common.{◌≡◌, ◌<◌, ◌*◌, ℕ, Bool, true, length, is_some}
use Rattle.fault_runs.specs.First.{AreKnown, IsNotIn, SeesSome, fault_in, first_in}
use Rattle.fault_runs.proofs.first.FirstCycles.see.Given as goal

-- the words so far were shown
abbrev pub invariant-loop-word : goal.invariant-loop-word
invariant-loop-word g l = record {
  count : length l.self.cycles ≡ length l.initial.self.cycles;
  known : AreKnown l.group l.self.known l.self.cycles;
  seen : (k : ℕ) → k < l.word * 64 → k < length l.group → g.W.Word.lane_bit l.lanes k ≡ true → is_some (first_in l.self.cycles (fault_in l.group k)) ≡ true;
  sees : (is_seen : ℕ → Bool) → ((k : ℕ) → k < length l.group → g.W.Word.lane_bit l.lanes k ≡ is_seen (fault_in l.group k))
      → SeesSome l.group is_seen l.cycle l.initial.self.cycles l.self.cycles;
  others : (i : ℕ) → IsNotIn l.group i → first_in l.self.cycles i ≡ first_in l.initial.self.cycles i;
}
