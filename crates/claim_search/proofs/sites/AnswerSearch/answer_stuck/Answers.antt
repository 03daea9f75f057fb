use Rattle.std.proofs.Common.{sym, ◌∙◌}
use Rattle.claim_search.proofs.Faulty.{stuck_less}
use Rattle.claim_search.proofs.sites.AnswerSearch.answer_stuck.Goals as goal

pub returns-then-is_of_parts-clause-answer : goal.returns-then-is_of_parts-clause-answer
returns-then-is_of_parts-clause-answer c =
    stuck_less c.args.searched.now.netlist.now c.args.posed.now c.args.net c.args.value c.args.free (sym c.is_of_parts.ensures ∙ c.if-is_of_parts.true) c.requires.free
