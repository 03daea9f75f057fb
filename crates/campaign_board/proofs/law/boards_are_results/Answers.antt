use Rattle.campaign_board.proofs.Results.{boards_are_results as law}
use Rattle.campaign_board.proofs.law.boards_are_results.Goals as goal

pub returns : goal.returns
returns c = law
