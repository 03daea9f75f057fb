use Rattle.std.proofs.Common.{◌+◌, Bool, List, length, sym, subst, arith}
use Rattle.std.specs.Prelude.{Err}
use Rattle.circuit.specs.declared.parts.NetId.{NetId}
use Rattle.claim_search.specs.declared.answer.Answer.{Answer}
use Rattle.always_answers.specs.Answers.{claim_of}
use Rattle.always_answers.specs.Steps.{AreFree, AreMarked, AreSeen, MarksOpen}
use Rattle.always_answers.proofs.Bounded.{few_waiting}
use Rattle.always_answers.proofs.Given.{are_answers, are_parts, cause_answers, marks_cause, passed_on}
use Rattle.always_answers.proofs.ask.answers_with.Goals as goal

pub new-requires-clause-few : goal.new-requires-clause-few
new-requires-clause-few c = few_waiting c.args.searched.now c.requires.searched (c.args.posed.now.window + c.args.posed.now.ahead + 1) (let frames = c.requires.frames in omega (arith, frames))

pub returns-in_err-open : goal.returns-in_err-open
returns-in_err-open c =
    let asked = c.args.asked.now in
    let own = c.args.searched.now.netlist.now in
    let p = c.args.posed.now in
    let marks = c.in_ok-seen.seen.items in
    let free = c.in_ok-free.free.items in
    let seen = subst (λ (goals : List NetId). AreSeen own goals marks) c.requires.points c.in_ok-seen.ensures in
    let answered = subst (λ (each : List Bool). AreFree own p each free) c.deref.ensures.value c.in_ok-free.ensures.free.1 in
    let why = c.in_err-open.field-0.0 in
    let marked = (
    subst (λ (each : List Answer). MarksOpen each marks (Err why)) c.deref-2.ensures.value
    (subst (λ (each : List Bool). MarksOpen c.deref-2.result.now each (Err why)) c.deref-3.ensures.value c.in_err-open.ensures)) in
    passed_on asked c.from_residual-in_err-open.result why c.from_residual-in_err-open.ensures.1
    (marks_cause asked own p marks free why seen answered c.requires.of_claim marked)

pub fault_answers-requires-clause-free : goal.fault_answers-requires-clause-free
fault_answers-requires-clause-free c =
    let own = c.args.searched.now.netlist.now in
    let p = c.args.posed.now in
    let marks = c.in_ok-seen.seen.items in
    let free = c.in_ok-free.free.items in
    let answered = subst (λ (each : List Bool). AreFree own p each free) c.deref.ensures.value c.in_ok-free.ensures.free.1 in
    subst (λ (each : List Bool). AreFree own p each c.deref-5.result.now) (sym c.deref-4.ensures.value)
    (subst (λ (each : List Answer). AreFree own p marks each) (sym c.deref-5.ensures.value) answered)

pub returns-in_err-faults : goal.returns-in_err-faults
returns-in_err-faults c =
    let asked = c.args.asked.now in
    let why = c.in_err-faults.field-0.0 in
    passed_on asked c.from_residual-in_err-faults.result why c.from_residual-in_err-faults.ensures.1
    (cause_answers asked c.args.searched.now.netlist.now c.args.posed.now why c.requires.of_claim c.in_err-faults.ensures.answers)

pub part_answers-requires-clause-parts : goal.part_answers-requires-clause-parts
part_answers-requires-clause-parts c =
    let own = c.args.searched.now.netlist.now in
    let p = c.args.posed.now in
    let marks = c.deref-7.result.now in
    let free = c.in_ok-free.free.items in
    let open_nets = c.in_ok-open.open.items in
    let back = sym c.deref-7.ensures.value in
    let seen = (
    subst (AreSeen own p.observed.now) back
    (subst (λ (goals : List NetId). AreSeen own goals c.in_ok-seen.seen.items) c.requires.points c.in_ok-seen.ensures)) in
    let answered = (
    subst (λ (each : List Bool). AreFree own p each free) back
    (subst (λ (each : List Bool). AreFree own p each free) c.deref.ensures.value c.in_ok-free.ensures.free.1)) in
    let marked = (
    subst (λ (each : List Bool). AreMarked free each (length each) open_nets) back
    (subst (λ (each : List Bool). AreMarked free each (length each) open_nets) c.deref-3.ensures.value
    (subst (λ (each : List Answer). AreMarked each c.deref-3.result.now (length c.deref-3.result.now) open_nets) c.deref-2.ensures.value c.in_ok-open.ensures))) in
    are_parts own p (claim_of c.args.asked.now) c.requires.of_claim free (record { of_nets = c.args.asked.now.parts; seen = c.deref-7.result; «open» = c.deref-8.result }) c.requires.parts
    seen answered (subst (AreMarked free marks (length marks)) (sym c.deref-8.ensures.value) marked)

pub returns-in_err-parts : goal.returns-in_err-parts
returns-in_err-parts c =
    let asked = c.args.asked.now in
    let why = c.in_err-parts.field-0.0 in
    passed_on asked c.from_residual-in_err-parts.result why c.from_residual-in_err-parts.ensures.1
    (cause_answers asked c.args.searched.now.netlist.now c.args.posed.now why c.requires.of_claim c.in_err-parts.ensures)

pub returns : goal.returns
returns c =
    let asked = c.args.asked.now in
    let own = c.args.searched.now.netlist.now in
    let p = c.args.posed.now in
    let free = c.in_ok-free.free.items in
    let open_nets = c.in_ok-open.open.items in
    let back = sym c.deref-7.ensures.value in
    let seen = (
    subst (AreSeen own p.observed.now) back
    (subst (λ (goals : List NetId). AreSeen own goals c.in_ok-seen.seen.items) c.requires.points c.in_ok-seen.ensures)) in
    let answered = (
    subst (λ (each : List Bool). AreFree own p each free) back
    (subst (λ (each : List Bool). AreFree own p each free) c.deref.ensures.value c.in_ok-free.ensures.free.1)) in
    let marked = (
    subst (λ (each : List Bool). AreMarked free each (length each) open_nets) back
    (subst (λ (each : List Bool). AreMarked free each (length each) open_nets) c.deref-3.ensures.value
    (subst (λ (each : List Answer). AreMarked each c.deref-3.result.now (length c.deref-3.result.now) open_nets) c.deref-2.ensures.value c.in_ok-open.ensures))) in
    are_answers own p (claim_of asked) c.requires.of_claim (record { faults = c.in_ok-faults.faults; «open» = c.in_ok-open.open; parts = c.in_ok-parts.parts }) asked.faults.now
    (record { of_nets = asked.parts; seen = c.deref-7.result; «open» = c.deref-8.result }) asked.part_count free (c.in_default.ensures.answer (claim_of asked) c.requires.of_claim)
    c.in_ok-faults.ensures.answers seen answered marked (sym c.deref-8.ensures.value) c.in_ok-parts.ensures
