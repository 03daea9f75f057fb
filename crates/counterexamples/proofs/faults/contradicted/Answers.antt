use Rattle.std.proofs.Common.{sym, subst, ◌∙◌, arith}
use Rattle.std.proofs.lemmas.Grind.{common_steps}
use Rattle.claim_search.proofs.Starting.{held_nets}
use Rattle.fault_list.specs.Faults.{fault_at}
use Rattle.fm_base.proofs.Lists.{written_whole}
use Rattle.counterexamples.specs.Contradicted.{MarksContradicted}
use Rattle.counterexamples.proofs.Loading.{no_marks}
use Rattle.counterexamples.proofs.faults.contradicted.Goals as goal

pub try_all-requires-clause-nets : goal.try_all-requires-clause-nets
try_all-requires-clause-nets c = held_nets c.args.netlist.now c.args.posed.now.held.now c.inputs.ensures.sound c.requires.posed.held

pub returns-clause-shown : goal.returns-clause-shown
returns-clause-shown c =
    let own = c.args.netlist.now in
    let p = c.args.posed.now in
    let faults = c.args.faults.now in
    let whole = written_whole c.try_all.new.marks c.in_ok-marks.marks.items c.in_ok-marks.marks.len (grind (arith, common_steps)) (grind (arith, common_steps)) in
    let none = subst (MarksContradicted own p faults) (sym (c.deref_mut-4.ensures.value ∙ c.in_ok-marks.ensures.items)) (no_marks own p faults c.len.result) in
    subst (MarksContradicted own p faults) (sym whole) (c.try_all.ensures.marks none)

pub returns-clause-open : goal.returns-clause-open
returns-clause-open c = λ claim posed i e.
    c.contradicted_is_open.ensures c.args.netlist.now c.args.order.now c.args.posed.now c.inputs.ensures.sound c.requires.order (c.are_settled.ensures c.if-not-are_settled.false)
    (fault_at c.args.faults.now i) (returns-clause-shown c i e) claim posed
