use Rattle.campaign_run.specs.Origins.{origin_of}
use Rattle.campaign_run.proofs.run.run_campaign.Given as goal

-- what the board begins with, from the callee's arguments
abbrev pub ghosts-run_over : goal.ghosts-run_over
ghosts-run_over g a = record { start = origin_of a.campaign (g.F.Shelf.seen a.shelf) }
