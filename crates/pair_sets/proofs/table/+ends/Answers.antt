use Rattle.std.proofs.Common.{rules, true, false, ◌+◌, length, sym, ap₂, ◌∙◌}
use Rattle.pair_sets.specs.Pairs.{has}
use Rattle.pair_sets.specs.Steps.{digit_behind, some_end}
use Rattle.pair_sets.proofs.Ends.{and_no, and_yes, end_last, end_none, end_some}
use Rattle.pair_sets.proofs.Rows.{room_for, row_small}
use Rattle.pair_sets.proofs.table.+ends.Goals as goal

pub ends_with-row_with-requires : goal.ends_with-row_with-requires
ends_with-row_with-requires t c = row_small c.args.golden (length c.args.rest.now + 1) c.requires.golden

pub ends_with-row_with-requires-then-has : goal.ends_with-row_with-requires-then-has
ends_with-row_with-requires-then-has t c = row_small c.args.faulty (length c.args.rest.now + 1) c.requires.faulty

pub ends_with-has_end-requires : goal.ends_with-has_end-requires
ends_with-has_end-requires t c = (
  search rules,
  (
    rw c.row_with.ensures (room_for c.args.pair.0 c.args.golden (length c.args.rest.now) c.requires.golden),
    rw c.row_with-then-has.ensures (room_for c.args.pair.1 c.args.faulty (length c.args.rest.now) c.requires.faulty),
  ),
)

pub ends_with-returns-then-has : goal.ends_with-returns-then-has
ends_with-returns-then-has t c =
    and_yes (has c.args.pairs c.args.pair.0 c.args.pair.1)
    (some_end c.args.truth c.args.ends c.args.rest.now (digit_behind c.args.pair.0 c.args.golden) (digit_behind c.args.pair.1 c.args.faulty)) c.has_end.result
    (sym c.has.ensures ∙ c.if-has.true)
    (c.has_end.ensures ∙ ap₂ (some_end c.args.truth c.args.ends c.args.rest.now) c.row_with.ensures c.row_with-then-has.ensures)

pub ends_with-returns-else-has : goal.ends_with-returns-else-has
ends_with-returns-else-has t c =
    and_no (has c.args.pairs c.args.pair.0 c.args.pair.1)
    (some_end c.args.truth c.args.ends c.args.rest.now (digit_behind c.args.pair.0 c.args.golden) (digit_behind c.args.pair.1 c.args.faulty)) c.has.result
    c.has.ensures c.if-has.false

pub has_end-gives-requires : goal.has_end-gives-requires
has_end-gives-requires t c = row_small c.args.golden (length c.args.sets.now) c.requires.golden

pub has_end-gives-requires-in_default : goal.has_end-gives-requires-in_default
has_end-gives-requires-in_default t c = row_small c.args.faulty (length c.args.sets.now) c.requires.faulty

pub has_end-returns-in_default : goal.has_end-returns-in_default
has_end-returns-in_default t c =
    end_none c.args.truth c.args.ends c.args.sets.now c.args.golden c.args.faulty c.has.result c.in_default.ensures.cases
    (c.has.ensures ∙ ap₂ (has c.args.ends) c.gives.ensures c.gives-in_default.ensures)

pub has_end-ends_with-requires : goal.has_end-ends_with-requires
has_end-ends_with-requires t c = (search rules, (rw c.in-Some.ensures.cases.1 c.requires.golden, rw c.in-Some.ensures.cases.1 c.requires.faulty))

pub has_end-returns-then-ends_with : goal.has_end-returns-then-ends_with
has_end-returns-then-ends_with t c =
    end_some c.args.truth c.args.ends c.in-Some.first.now c.in-Some.rest.now c.args.sets.now c.args.golden c.args.faulty false false c.ends_with.result
    c.in-Some.ensures.cases.0 c.ends_with.ensures c.if-ends_with.true

pub has_end-ends_with-requires-2 : goal.has_end-ends_with-requires-2
has_end-ends_with-requires-2 t c = (search rules, (rw c.in-Some.ensures.cases.1 c.requires.golden, rw c.in-Some.ensures.cases.1 c.requires.faulty))

pub has_end-returns-then-ends_with-2 : goal.has_end-returns-then-ends_with-2
has_end-returns-then-ends_with-2 t c =
    end_some c.args.truth c.args.ends c.in-Some.first.now c.in-Some.rest.now c.args.sets.now c.args.golden c.args.faulty true false c.ends_with-2.result
    c.in-Some.ensures.cases.0 c.ends_with-2.ensures c.if-ends_with-2.true

pub has_end-ends_with-requires-3 : goal.has_end-ends_with-requires-3
has_end-ends_with-requires-3 t c = (search rules, (rw c.in-Some.ensures.cases.1 c.requires.golden, rw c.in-Some.ensures.cases.1 c.requires.faulty))

pub has_end-returns-then-ends_with-3 : goal.has_end-returns-then-ends_with-3
has_end-returns-then-ends_with-3 t c =
    end_some c.args.truth c.args.ends c.in-Some.first.now c.in-Some.rest.now c.args.sets.now c.args.golden c.args.faulty false true c.ends_with-3.result
    c.in-Some.ensures.cases.0 c.ends_with-3.ensures c.if-ends_with-3.true

pub has_end-ends_with-requires-4 : goal.has_end-ends_with-requires-4
has_end-ends_with-requires-4 t c = (search rules, (rw c.in-Some.ensures.cases.1 c.requires.golden, rw c.in-Some.ensures.cases.1 c.requires.faulty))

pub has_end-returns : goal.has_end-returns
has_end-returns t c =
    end_last c.args.truth c.args.ends c.in-Some.first.now c.in-Some.rest.now c.args.sets.now c.args.golden c.args.faulty
    c.ends_with.result c.ends_with-2.result c.ends_with-3.result c.ends_with-4.result c.in-Some.ensures.cases.0
    c.ends_with.ensures c.if-ends_with.false c.ends_with-2.ensures c.if-ends_with-2.false c.ends_with-3.ensures c.if-ends_with-3.false c.ends_with-4.ensures
