use Rattle.std.proofs.Common.{inl, inr, ◌+◌, ◌-◌, ◌/◌, sym, subst, ◌∙◌}
use Rattle.std.proofs.lemmas.Bool.{cases_lt}
use Rattle.claim_search.proofs.Halving.{early_is, early_proved, of_part}
use Rattle.claim_search.specs.Answer.{IsAnswer}
use Rattle.claim_search.specs.Sites.{answer_at}
use Rattle.claim_search.proofs.sites.AnswerSearch.+answer_free.Goals as goal

pub returns-then-is_of_parts-clause-each : goal.returns-then-is_of_parts-clause-each
returns-then-is_of_parts-clause-each t c = λ claim posed i le lt is_at.
    subst (IsAnswer claim) (sym (c.note.ensures.there i le lt))
    (of_part c.args.searched.now.netlist.now c.args.posed.now c.args.nets.now c.args.start c.args.end c.answer-whole.result c.requires.inside (sym c.is_of_parts.ensures ∙ c.if-is_of_parts.true)
    c.answer-whole.ensures.answer claim posed i le lt is_at)

pub answer_early-requires-clause-proved : goal.answer_early-requires-clause-proved
answer_early-requires-clause-proved t c =
    early_proved c.args.searched.now.netlist.now c.args.posed.now c.args.nets.now c.args.start c.args.end c.requires.inside
    (λ claim posed at. subst (IsAnswer claim) (early_is c.answer-whole.result (sym c.is_early.ensures ∙ c.if-is_early.true)) (c.answer-whole.ensures.answer claim posed at))

pub returns-clause-each : goal.returns-clause-each
returns-clause-each t c = λ claim posed i le lt is_at. elim (cases_lt i (c.args.start + (c.args.end - c.args.start) / 2)) as (λ _. IsAnswer claim (answer_at c.answer_free-2.new.answers i)) [
  | inl first ↦ subst (IsAnswer claim) (sym (c.answer_free-2.ensures.others i (inl first))) (c.answer_free.ensures.each claim posed i le first is_at)
  | inr second ↦ c.answer_free-2.ensures.each claim posed i second lt is_at
]
