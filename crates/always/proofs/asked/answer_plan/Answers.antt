use Rattle.std.proofs.Common.{◌≡◌, ◌∙◌, ◌<◌, ◌≤◌, ℕ, List, ap, length, subst, sym}
use Rattle.std.specs.Prelude.{All, Contains, IfSome}
use Rattle.campaign_plan.specs.Analysis.{all_faults, part_count}
use Rattle.campaign_plan.proofs.PartNumbers.{net_within}
use Rattle.circuit.specs.Circuit.{Circuit}
use Rattle.circuit.specs.declared.parts.Fault.{Fault}
use Rattle.coverage_claim.specs.declared.parts.Held.{Held}
use Rattle.fault_list.specs.Faults.{fault_at, net_of_fault}
use Rattle.fm_shelf.specs.Sink.{Sends}
use Rattle.always.specs.Asked.{net_parts, terms_of_plan}
use Rattle.always.specs.Text.{always_text}
use Rattle.always.specs.Verdict.{Terms}
use Rattle.always.proofs.Asking.{parts_long, right_as, terms_same, window_small}
use Rattle.always.proofs.asked.answer_plan.Goals as goal

pub answers_to-requires-clause-held : goal.answers_to-requires-clause-held
answers_to-requires-clause-held g c =
    subst (λ (circuit : Circuit). All (λ (h : Held). Contains circuit.inputs h.net) c.args.held.now) (sym c.net.ensures.value) c.requires.held.inputs

pub answers_to-requires-clause-window : goal.answers_to-requires-clause-window
answers_to-requires-clause-window g c =
    subst (λ window. window ≤ 8) (sym c.window_asked.ensures)
    (window_small c.args.plan.now c.args.given (λ window is. subst (λ given. IfSome given (λ cycles. cycles ≤ 8)) is c.requires.window))

pub answers_to-requires-clause-faults : goal.answers_to-requires-clause-faults
answers_to-requires-clause-faults g c =
    let p = c.args.plan.now in
    subst (λ (circuit : Circuit). (i : ℕ) → i < length c.faults.result.now → net_of_fault circuit (fault_at c.faults.result.now i) < length circuit.drivers) (sym c.net.ensures.value)
    (subst (λ (faults : List Fault). (i : ℕ) → i < length faults → net_of_fault p.circuit (fault_at faults i) < length p.circuit.drivers) (sym c.faults.ensures.value)
    (net_within p.circuit p.settings.flips p.settings.pulses c.net.ensures.plan.netlist))

pub answers_to-requires-clause-parts : goal.answers_to-requires-clause-parts
answers_to-requires-clause-parts g c =
    ap length c.deref.ensures.value ∙ parts_long c.args.plan.now c.in_ok-parts.parts.items c.in_ok-parts.ensures.0
    ∙ sym (ap (λ (circuit : Circuit). length circuit.drivers) c.net.ensures.value)

pub returns : goal.returns
returns g c =
    let p = c.args.plan.now in
    let answers = c.in_ok-answers.answers in
    let asked : Terms = record { held = c.args.held.now; from = c.first_cycle.result; window = c.window_asked.result; ahead = c.args.ahead } in
    let terms = terms_of_plan p c.args.held.now c.args.given c.args.ahead in
    let same : asked ≡ terms = terms_same p c.args.held.now c.args.given c.args.ahead c.first_cycle.result c.window_asked.result c.first_cycle.ensures.value c.window_asked.ensures in (
      answers,
      right_as c.net.result.now p.circuit c.points.result.now p.points asked terms c.net.ensures.value c.points.ensures.value same
          c.faults.result.now (all_faults p) c.deref.result.now (net_parts p) c.parts.result (part_count p) answers c.faults.ensures.value
          (c.deref.ensures.value ∙ c.in_ok-parts.ensures.0) c.parts.ensures.count c.in_ok-answers.ensures,
      subst (λ it. Sends (g.O.Sink.seen c.args.out.now) (g.O.Sink.seen c.write_always.new.out) (always_text p it answers) c.write_always.result) same c.write_always.ensures,
    )
