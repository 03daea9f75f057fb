use Rattle.std.proofs.Common.{◌≡◌, ◌<◌, map, take}
use Rattle.std.specs.Prelude.{All}
use Rattle.campaign_plan.specs.Analysis.{all_faults, part_count, part_of}
use Rattle.campaign_plan.specs.Making.{analysis}
use Rattle.campaign_plan.proofs.numbers.parts_of_faults.Given as goal

abbrev pub invariant-loop-i : goal.invariant-loop-i
invariant-loop-i l = (l.numbers.items ≡ map (part_of (analysis l.p)) (take l.i (all_faults (analysis l.p))))
    × All (λ number. number < part_count (analysis l.p)) l.numbers.items
