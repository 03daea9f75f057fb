use Rattle.std.proofs.Common.{add-one, ap, sym, ◌∙◌}
use Rattle.blif_hierarchy.specs.Rounds.{next_round, rounds}
use Rattle.blif_hierarchy.proofs.rounds.after_rounds.Goals as goal

pub rounds-init : goal.rounds-init
unfolding rounds
rounds-init c = c.in_ok-numbers.ensures.items

pub rounds-preserved : goal.rounds-preserved
unfolding rounds
rounds-preserved c =
    c.in_ok-numbers-2.ensures ∙ ap (next_round c.args.cap c.args.own.now c.args.callees.now) (c.as_slice.ensures.value ∙ c.rounds.invariant)
    ∙ ap (rounds c.args.cap c.args.own.now c.args.callees.now c.args.first.now) (sym (add-one c.rounds._depth))
