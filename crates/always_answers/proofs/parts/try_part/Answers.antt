use Rattle.std.proofs.Common.{false, length, slice_index, sym, subst, arith}
use Rattle.always_answers.specs.PartSteps.{IsPartSoFar}
use Rattle.always_answers.specs.Steps.{ArePicked, is_picked}
use Rattle.always_answers.proofs.Parted.{all_within, found_before, none, not_shorter, shorter_found}
use Rattle.always_answers.proofs.parts.try_part.Goals as goal

pub returns-then-window-greatest-clause-answer : goal.returns-then-window-greatest-clause-answer
returns-then-window-greatest-clause-answer c = λ claim posed so_far.
    let p = c.args.shorter.now in
    let parts = c.args.parts.now in
    found_before c.args.searched.now.netlist.now p c.args.greatest parts c.requires.parts c.args.part claim posed c.in-Whole.open c.in-Whole.window p.window
    (subst (IsPartSoFar claim (slice_index parts.of_nets.now) parts.open.now c.args.part p.window) c.in-Whole.is so_far) c.if-window-greatest.true

pub answer-requires-clause-nets : goal.answer-requires-clause-nets
answer-requires-clause-nets c =
    let parts = c.args.parts.now in
    all_within (is_picked parts.of_nets.now c.args.part parts.open.now false) (length parts.of_nets.now) c.deref.result.now
    (subst (ArePicked (is_picked parts.of_nets.now c.args.part parts.open.now false) (length parts.of_nets.now)) (sym c.deref.ensures.value) c.in_ok-nets.ensures)
    (length c.args.searched.now.netlist.now.drivers) c.requires.parts.count

pub returns-in-Open-clause-answer : goal.returns-in-Open-clause-answer
returns-in-Open-clause-answer c = λ claim posed so_far.
    let p = c.args.shorter.now in
    let parts = c.args.parts.now in
    let picked = subst (ArePicked (is_picked parts.of_nets.now c.args.part parts.open.now false) (length parts.of_nets.now)) (sym c.deref.ensures.value) c.in_ok-nets.ensures in
    not_shorter c.args.searched.now.netlist.now p c.args.greatest parts c.requires.parts c.args.part claim posed c.deref.result.now picked c.answer.result c.answer.ensures.answer c.requires.less
    c.in-Whole.open c.in-Whole.window (subst (IsPartSoFar claim (slice_index parts.of_nets.now) parts.open.now c.args.part p.window) c.in-Whole.is so_far)
    (let it = c.if-window-greatest.false in omega (arith, it)) c.in-Open.is

pub returns-in-NoRuns-clause-answer : goal.returns-in-NoRuns-clause-answer
returns-in-NoRuns-clause-answer c = λ claim posed.
    let parts = c.args.parts.now in
    let picked = subst (ArePicked (is_picked parts.of_nets.now c.args.part parts.open.now false) (length parts.of_nets.now)) (sym c.deref.ensures.value) c.in_ok-nets.ensures in
    none c.args.searched.now.netlist.now c.args.shorter.now c.args.greatest parts c.requires.parts c.args.part claim posed c.deref.result.now picked c.answer.result c.answer.ensures.answer c.in-NoRuns.is

pub returns-clause-answer : goal.returns-clause-answer
returns-clause-answer c = λ claim posed so_far.
    let p = c.args.shorter.now in
    let parts = c.args.parts.now in
    let picked = subst (ArePicked (is_picked parts.of_nets.now c.args.part parts.open.now false) (length parts.of_nets.now)) (sym c.deref.ensures.value) c.in_ok-nets.ensures in
    shorter_found c.args.searched.now.netlist.now p c.args.greatest parts c.requires.parts c.args.part claim posed c.deref.result.now picked c.answer.result c.answer.ensures.answer c.requires.less
    c.in-Whole.open c.in-Whole.window (subst (IsPartSoFar claim (slice_index parts.of_nets.now) parts.open.now c.args.part p.window) c.in-Whole.is so_far)
    (let it = c.if-window-greatest.false in omega (arith, it)) c.in-Alarmed.is
