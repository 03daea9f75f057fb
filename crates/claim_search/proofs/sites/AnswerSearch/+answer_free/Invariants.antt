use Rattle.std.proofs.Common.{◌-◌}
use Rattle.claim_search.proofs.sites.AnswerSearch.+answer_free.Given as goal

abbrev pub decreases-answer_free : goal.decreases-answer_free
decreases-answer_free l = l.end - l.start
