use Rattle.std.proofs.Common.{sym, subst, ◌∙◌}
use Rattle.std.specs.Prelude.{All}
use Rattle.circuit.specs.Sound.{IsNet}
use Rattle.reach.proofs.Observed.{observed_are_nets}
use Rattle.always_answers.proofs.ask.answers_to.Goals as goal

pub answers_with-requires-clause-posed : goal.answers_with-requires-clause-posed
answers_with-requires-clause-posed c =
    let net = c.args.asked.now.netlist.now in
    let points = c.requires.points in
    record {
      observed = subst (All (IsNet net)) (sym (c.deref-2.ensures.value ∙ c.in_ok-observed.ensures)) (observed_are_nets net c.args.asked.now.points.now.goals points.goals);
      alarms = subst (All (IsNet net)) (sym c.as_slice.ensures) points.alarm;
      held = c.requires.held;
    }
