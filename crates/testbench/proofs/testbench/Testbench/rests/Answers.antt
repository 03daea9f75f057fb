use Rattle.std.proofs.Common.{◌<◌, ◌≤◌, ◌∷◌, [], List, length, subst, sym, arith}
use Rattle.circuit.specs.declared.parts.Fault.{Fault}
use Rattle.workload.specs.Runs.{cycles_of, run_at}
use Rattle.workload.specs.declared.run.Run.{Run}
use Rattle.testbench.specs.Resting.{Rest}
use Rattle.testbench.specs.Testbench.{Testbench}
use Rattle.testbench.proofs.Resting.{flip_rests, pulse_rests, stuck_rests}
use Rattle.testbench.proofs.testbench.Testbench.rests.Goals as goal

pub returns-then-net-nets : goal.returns-then-net-nets
returns-then-net-nets c = λ is.
    let inside = c.self.inside in
    let runs : List Run = inside.work.now in
    let run : Run = run_at runs c.args.run in
    let within : c.args.to ≤ cycles_of run = subst (λ (b : Testbench). c.args.to ≤ cycles_of (run_at b.runs c.args.run)) (sym c.self.view_is) c.requires.to in
    let net : c.in-Stuck.net.0 < length inside.net.now.drivers = omega (arith, c.if-net-nets.true, c.nets-nets.ensures.count) in
    subst (λ (b : Testbench). Rest b.circuit (c.args.fault ∷ []) (run_at b.runs c.args.run).vectors c.args.from c.args.to) c.self.view_is
    (subst (λ (f : Fault). Rest inside.net.now (f ∷ []) run.vectors c.args.from c.args.to) (sym c.in-Stuck.is)
    (stuck_rests inside.net.now inside.order.now c.nets-nets.ensures.sound c.self.invariant.2 c.in-Stuck.net c.in-Stuck.value run.vectors c.args.from c.args.to c.requires.from
    (c.have_alone.ensures inside.net.now runs c.self.invariant.4 within net is)))

pub returns-in-Flip : goal.returns-in-Flip
returns-in-Flip c = λ is.
    let inside = c.self.inside in
    let run : Run = run_at inside.work.now c.args.run in
    let within : c.args.to ≤ length run.vectors = subst (λ (b : Testbench). c.args.to ≤ cycles_of (run_at b.runs c.args.run)) (sym c.self.view_is) c.requires.to in
    subst (λ (b : Testbench). Rest b.circuit (c.args.fault ∷ []) (run_at b.runs c.args.run).vectors c.args.from c.args.to) c.self.view_is
    (subst (λ (f : Fault). Rest inside.net.now (f ∷ []) run.vectors c.args.from c.args.to) (sym c.in-Flip.is)
    (flip_rests inside.net.now c.nets-nets.ensures.sound c.in-Flip.field-0 c.in-Flip.own run.vectors c.args.from c.args.to c.requires.from within (c.is_outside.ensures is)))

pub returns-in-Pulse : goal.returns-in-Pulse
returns-in-Pulse c = λ is.
    let inside = c.self.inside in
    let run : Run = run_at inside.work.now c.args.run in
    let within : c.args.to ≤ length run.vectors = subst (λ (b : Testbench). c.args.to ≤ cycles_of (run_at b.runs c.args.run)) (sym c.self.view_is) c.requires.to in
    subst (λ (b : Testbench). Rest b.circuit (c.args.fault ∷ []) (run_at b.runs c.args.run).vectors c.args.from c.args.to) c.self.view_is
    (subst (λ (f : Fault). Rest inside.net.now (f ∷ []) run.vectors c.args.from c.args.to) (sym c.in-Pulse.is)
    (pulse_rests inside.net.now c.nets-nets.ensures.sound c.in-Pulse.field-0 c.in-Pulse.own run.vectors c.args.from c.args.to c.requires.from within (c.is_outside-in-Pulse.ensures is)))
