use Rattle.std.proofs.Common.{List, sym, ◌∙◌, subst}
use Rattle.std.specs.List.{All}
use Rattle.circuit.specs.declared.parts.NetId.{NetId}
use Rattle.circuit.specs.Sound.{IsNet}
use Rattle.reach.proofs.Observed.{observed_are_nets}
use Rattle.reach.proofs.points.Reach.new.Goals as goal

pub cone_of-requires-2 : goal.cone_of-requires-2
cone_of-requires-2 c =
    subst (λ (nets : List NetId). All (IsNet c.args.netlist.now) nets) (sym (c.deref.ensures.value ∙ c.in_ok-nets.ensures))
    (observed_are_nets c.args.netlist.now c.args.points.now.goals c.requires.goals)
