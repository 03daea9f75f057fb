use Rattle.std.proofs.Common.{◌≡◌, ◌<◌, ℕ, length}
use Rattle.lane_words.specs.Loads.{loaded_faults}
use Rattle.pair_campaign.specs.Work.{faults_in_lane}
use Rattle.pair_campaign.proofs.load.loads_of.Given as goal

-- the lanes so far hold their pairs
abbrev pub invariant-loop-lane : goal.invariant-loop-lane
invariant-loop-lane l = record {
  count : length l.loads ≡ 64;
  held : (k : ℕ) → k < l.lane → loaded_faults l.loads k ≡ faults_in_lane l.plan l.pairs l.plane k;
}
