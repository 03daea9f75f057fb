use Rattle.campaign_shard.specs.PartSteps.{part_origin}
use Rattle.campaign_shard.proofs.run.run_part.Given as goal

-- what the board begins with, from the callee's arguments
abbrev pub ghosts-run_over : goal.ghosts-run_over
ghosts-run_over g a = record { start = part_origin a.campaign.name a.campaign.own a.campaign.p a.campaign.part a.campaign.parts (g.F.Shelf.seen a.shelf) }
