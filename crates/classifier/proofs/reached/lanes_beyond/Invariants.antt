use Rattle.std.proofs.Common.{◌≡◌, ◌<◌, ℕ, true}
use Rattle.fm_base.specs.Planes.{bit}
use Rattle.lane_words.specs.Loads.{loaded_faults}
use Rattle.reach.specs.Reached.{nets_of}
use Rattle.classifier.proofs.Beyond.{AreBeyond}
use Rattle.classifier.proofs.reached.lanes_beyond.Given as goal

-- of each lane that is marked none of the faults can; those to come aren't marked
abbrev pub invariant-loop-lane : goal.invariant-loop-lane
invariant-loop-lane l =
    (k : ℕ) → k < 64 → bit l.lanes k ≡ true → AreBeyond l.reach.circuit (nets_of l.reach.points l.sort) (loaded_faults l.loads k)
