use Rattle.std.proofs.Common.{◌<◌, List, true, false, length, refl, ap, sym, subst, ◌∙◌, arith}
use Rattle.std.proofs.lemmas.Bool.{eqb-false, eqb-true}
use Rattle.circuit.specs.declared.parts.NetId.{NetId}
use Rattle.always_answers.specs.Steps.{ArePicked, is_picked}
use Rattle.always_answers.proofs.Parted.{all_open, all_within, as_wide, never_widest, no_path, none, some_covered, whole_widest}
use Rattle.always_answers.proofs.parts.answer_part.Goals as goal

pub has_unmarked-requires : goal.has_unmarked-requires
has_unmarked-requires c =
    let parts = c.args.parts.now in
    all_within (is_picked parts.of_nets.now c.args.part parts.seen.now true) (length parts.of_nets.now) c.deref.result.now
    (subst (ArePicked (is_picked parts.of_nets.now c.args.part parts.seen.now true) (length parts.of_nets.now)) (sym c.deref.ensures.value) c.in_ok-seen.ensures)
    (length parts.open.now) (c.requires.parts.count ∙ sym c.requires.parts.open_count)

pub answer-requires-clause-nets : goal.answer-requires-clause-nets
answer-requires-clause-nets c =
    let parts = c.args.parts.now in
    all_within (is_picked parts.of_nets.now c.args.part parts.open.now false) (length parts.of_nets.now) c.deref-2.result.now
    (subst (ArePicked (is_picked parts.of_nets.now c.args.part parts.open.now false) (length parts.of_nets.now)) (sym c.deref-2.ensures.value) c.in_ok-nets.ensures)
    (length c.args.searched.now.netlist.now.drivers) c.requires.parts.count

pub returns-then-is_empty-clause-answer : goal.returns-then-is_empty-clause-answer
returns-then-is_empty-clause-answer c = λ claim posed.
    let own = c.args.searched.now.netlist.now in
    let p = c.args.posed.now in
    no_path own p p.window c.args.parts.now c.requires.parts c.args.part claim (as_wide own p claim posed) c.in_ok-seen.seen.items c.in_ok-seen.ensures (let none = eqb-true _ 0 (sym c.is_empty.ensures ∙ c.if-is_empty.true) in let size = c.in_ok-seen.seen.ok.0 in omega (arith, none, size))

pub returns-then-not-has_unmarked-clause-answer : goal.returns-then-not-has_unmarked-clause-answer
returns-then-not-has_unmarked-clause-answer c = λ claim posed.
    let own = c.args.searched.now.netlist.now in
    let p = c.args.posed.now in
    let parts = c.args.parts.now in
    let picked = subst (ArePicked (is_picked parts.of_nets.now c.args.part parts.seen.now true) (length parts.of_nets.now)) (sym c.deref.ensures.value) c.in_ok-seen.ensures in
    let some : 0 < length c.deref.result.now = (
    let filled = eqb-false _ 0 (sym c.is_empty.ensures ∙ c.if-is_empty.false) in
    let size = c.in_ok-seen.seen.ok.0 in
    let same = ap (λ (nets : List NetId). length nets) c.deref.ensures.value in
    omega (arith, filled, size, same)) in
    all_open own p p.window parts c.requires.parts c.args.part claim (as_wide own p claim posed) c.deref.result.now picked some (c.has_unmarked.ensures.none c.if-not-has_unmarked.true)

pub returns-in-Open-clause-answer : goal.returns-in-Open-clause-answer
returns-in-Open-clause-answer c = λ claim posed.
    let own = c.args.searched.now.netlist.now in
    let p = c.args.posed.now in
    let parts = c.args.parts.now in
    let wide = as_wide own p claim posed in
    let seen = subst (ArePicked (is_picked parts.of_nets.now c.args.part parts.seen.now true) (length parts.of_nets.now)) (sym c.deref.ensures.value) c.in_ok-seen.ensures in
    let picked = subst (ArePicked (is_picked parts.of_nets.now c.args.part parts.open.now false) (length parts.of_nets.now)) (sym c.deref-2.ensures.value) c.in_ok-nets.ensures in
    never_widest own p p.window parts c.requires.parts c.args.part claim wide c.deref-2.result.now picked c.answer.result c.answer.ensures.answer refl
    (some_covered own p p.window parts c.requires.parts c.args.part claim wide c.deref.result.now seen (c.has_unmarked.ensures.some c.if-not-has_unmarked.false)) c.in-Open.is

pub returns-in-NoRuns-clause-answer : goal.returns-in-NoRuns-clause-answer
returns-in-NoRuns-clause-answer c = λ claim posed.
    let own = c.args.searched.now.netlist.now in
    let p = c.args.posed.now in
    let parts = c.args.parts.now in
    let picked = subst (ArePicked (is_picked parts.of_nets.now c.args.part parts.open.now false) (length parts.of_nets.now)) (sym c.deref-2.ensures.value) c.in_ok-nets.ensures in
    none own p p.window parts c.requires.parts c.args.part claim (as_wide own p claim posed) c.deref-2.result.now picked c.answer.result c.answer.ensures.answer c.in-NoRuns.is

pub returns-clause-answer : goal.returns-clause-answer
returns-clause-answer c = λ claim posed.
    let own = c.args.searched.now.netlist.now in
    let p = c.args.posed.now in
    let parts = c.args.parts.now in
    let wide = as_wide own p claim posed in
    let seen = subst (ArePicked (is_picked parts.of_nets.now c.args.part parts.seen.now true) (length parts.of_nets.now)) (sym c.deref.ensures.value) c.in_ok-seen.ensures in
    let picked = subst (ArePicked (is_picked parts.of_nets.now c.args.part parts.open.now false) (length parts.of_nets.now)) (sym c.deref-2.ensures.value) c.in_ok-nets.ensures in
    whole_widest own p p.window parts c.requires.parts c.args.part claim wide c.deref-2.result.now picked c.answer.result c.answer.ensures.answer refl
    (some_covered own p p.window parts c.requires.parts c.args.part claim wide c.deref.result.now seen (c.has_unmarked.ensures.some c.if-not-has_unmarked.false)) c.marked_count.result c.marked_count.ensures c.in-Alarmed.is
