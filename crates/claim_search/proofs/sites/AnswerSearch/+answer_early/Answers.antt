use Rattle.std.proofs.Common.{rules, inl, inr, ◌≡◌, ◌<◌, ◌≤◌, ◌+◌, ◌-◌, ◌/◌, length, set, ap, sym, subst, ◌∙◌, arith, get_or-set_same}
use Rattle.std.proofs.lemmas.Bool.{cases_lt}
use Rattle.claim_search.proofs.Halving.{lies_at, lies_in_more, of_part, part_of_one}
use Rattle.claim_search.specs.Answer.{IsAnswer}
use Rattle.claim_search.specs.Sites.{answer_at}
use Rattle.claim_search.specs.declared.answer.Answer.TheVariants.{Open}
use Rattle.claim_search.proofs.sites.AnswerSearch.+answer_early.Goals as goal

pub returns-then-is_of_parts-clause-each : goal.returns-then-is_of_parts-clause-each
returns-then-is_of_parts-clause-each t c = λ claim posed i le lt is_at.
    subst (IsAnswer claim) (sym (c.note.ensures.there i le lt))
    (of_part c.args.searched.now.netlist.now c.args.posed.now c.args.nets.now c.args.start c.args.end c.answer_proved-whole.result c.requires.inside (sym c.is_of_parts.ensures ∙ c.if-is_of_parts.true)
    (λ other other_posed at. c.answer_proved-whole.ensures.answer other other_posed at
    (c.requires.proved other other_posed (lies_at c.args.nets.now c.args.start c.args.end c.requires.order c.requires.inside other.region at))) claim posed i le lt is_at)

pub returns-then-start-end-2-clause-each : goal.returns-then-start-end-2-clause-each
returns-then-start-end-2-clause-each t c = λ claim posed i le lt is_at.
    let at = part_of_one c.args.nets.now c.args.start c.args.end i claim.region c.if-start-end-2.true c.requires.inside le lt is_at in
    let place : i ≡ c.args.start = omega (arith, c.if-start-end-2.true, le, lt) in
    let inside : c.args.start < length c.args.answers.now = omega (arith, c.if-start-end-2.true, c.requires.inside, c.requires.size) in
    subst (IsAnswer claim)
    (sym (ap (answer_at (set c.args.answers.now c.args.start c.answer_proved-whole.result)) place ∙ get_or-set_same c.args.answers.now c.args.start c.answer_proved-whole.result Open inside))
    (c.answer_proved-whole.ensures.answer claim posed at
    (c.requires.proved claim posed (lies_at c.args.nets.now c.args.start c.args.end c.requires.order c.requires.inside claim.region at)))

pub answer_early-requires : goal.answer_early-requires
answer_early-requires t c =
    let middle = c.args.start + (c.args.end - c.args.start) / 2 in
    let below : middle ≤ c.args.end = omega (arith, c.requires.order) in (
      search rules,
      (
        search rules,
        (
          search rules,
          (
            search rules,
            (
              search rules,
              (
                search rules,
                (
                  search rules,
                  (
                    search rules,
                    λ claim posed lies. c.requires.proved claim posed (lies_in_more c.args.nets.now c.args.start middle c.args.start c.args.end claim.region (omega arith) below lies),
                  ),
                ),
              ),
            ),
          ),
        ),
      ),
    )

pub answer_early-requires-2 : goal.answer_early-requires-2
answer_early-requires-2 t c =
    let middle = c.args.start + (c.args.end - c.args.start) / 2 in
    let above : c.args.start ≤ middle = omega arith in (
      search rules,
      (
        search rules,
        (
          search rules,
          (
            search rules,
            (
              search rules,
              (
                search rules,
                (
                  search rules,
                  (
                    search rules,
                    λ claim posed lies. c.requires.proved claim posed (lies_in_more c.args.nets.now middle c.args.end c.args.start c.args.end claim.region above (omega arith) lies),
                  ),
                ),
              ),
            ),
          ),
        ),
      ),
    )

pub returns-clause-each : goal.returns-clause-each
returns-clause-each t c = λ claim posed i le lt is_at. elim (cases_lt i (c.args.start + (c.args.end - c.args.start) / 2)) as (λ _. IsAnswer claim (answer_at c.answer_early-2.new.answers i)) [
  | inl first ↦ subst (IsAnswer claim) (sym (c.answer_early-2.ensures.others i (inl first))) (c.answer_early.ensures.each claim posed i le first is_at)
  | inr second ↦ c.answer_early-2.ensures.each claim posed i second lt is_at
]
