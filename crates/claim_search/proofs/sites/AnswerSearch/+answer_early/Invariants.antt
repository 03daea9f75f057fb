use Rattle.std.proofs.Common.{◌-◌}
use Rattle.claim_search.proofs.sites.AnswerSearch.+answer_early.Given as goal

abbrev pub decreases-answer_early : goal.decreases-answer_early
decreases-answer_early l = l.end - l.start
