use Rattle.std.proofs.Common.{◌≡◌, ◌-◌, ◌∙◌, ap, sym, length, Ok}
use Rattle.std.specs.Prelude.{◌&&◌, ◌==◌, Option, is_none, is_some}
use Rattle.circuit.specs.declared.parts.Fault.{Fault}
use Rattle.workload.specs.Runs.{run_at}
use Rattle.wave_dump.specs.Asked.{is_pattern, nets_shown}
use Rattle.wave_dump.specs.Dump.{Waves}
use Rattle.wave_dump.proofs.Asking.{all_there, no_fault, no_net, no_run, waves_of}
use Rattle.wave_dump.proofs.dump.Dump.new.Goals as goal

pub returns-then-lacks_run : goal.returns-then-lacks_run
returns-then-lacks_run c =
    let a = c.args.asked.now in
    no_run c.args.net.now c.args.work.now a.flips.now a.pulses.now a.run a.fault.now a.nets.now (sym c.lacks_run.ensures.value ∙ c.if-lacks_run.true)

pub returns-then-lacks_fault : goal.returns-then-lacks_fault
returns-then-lacks_fault c =
    let a = c.args.asked.now in
    no_fault c.args.net.now c.args.work.now a.flips.now a.pulses.now a.run a.fault.now a.nets.now (sym c.lacks_run.ensures.value ∙ c.if-lacks_run.false)
    (ap (λ (f : Option Fault). is_none f && is_some a.fault.now) (sym c.given_fault-fault.ensures) ∙ sym c.lacks_fault.ensures ∙ c.if-lacks_fault.true)

pub returns-then-lacks_nets : goal.returns-then-lacks_nets
returns-then-lacks_nets c =
    let a = c.args.asked.now in
    let net = c.args.net.now in
    let run = run_at c.args.work.now (a.run - 1) in
    let w : c.in_ok-scene.scene ≡ waves_of net c.args.work.now a.flips.now a.pulses.now a.run a.fault.now a.nets.now =
    c.in_ok-scene.ensures
    ∙ ap (λ (f : Option Fault). let made : Waves = record { circuit = net; run = run; fault = f; nets = nets_shown net run f a.nets.now } in made) c.given_fault-fault.ensures in
    no_net net c.args.work.now a.flips.now a.pulses.now a.run a.fault.now a.nets.now (sym c.lacks_run.ensures.value ∙ c.if-lacks_run.false)
    (ap (λ (f : Option Fault). is_none f && is_some a.fault.now) (sym c.given_fault-fault.ensures) ∙ sym c.lacks_fault.ensures ∙ c.if-lacks_fault.false)
    (ap (λ (x : Waves). (length x.nets == 0) && is_pattern x.fault a.nets.now) (sym w) ∙ sym c.lacks_nets.ensures ∙ c.if-lacks_nets.true)

pub returns : goal.returns
returns c =
    let a = c.args.asked.now in
    let net = c.args.net.now in
    let run = run_at c.args.work.now (a.run - 1) in
    let w : c.in_ok-scene.scene ≡ waves_of net c.args.work.now a.flips.now a.pulses.now a.run a.fault.now a.nets.now =
    c.in_ok-scene.ensures
    ∙ ap (λ (f : Option Fault). let made : Waves = record { circuit = net; run = run; fault = f; nets = nets_shown net run f a.nets.now } in made) c.given_fault-fault.ensures in
    all_there net c.args.work.now a.flips.now a.pulses.now a.run a.fault.now a.nets.now (sym c.lacks_run.ensures.value ∙ c.if-lacks_run.false)
    (ap (λ (f : Option Fault). is_none f && is_some a.fault.now) (sym c.given_fault-fault.ensures) ∙ sym c.lacks_fault.ensures ∙ c.if-lacks_fault.false)
    (ap (λ (x : Waves). (length x.nets == 0) && is_pattern x.fault a.nets.now) (sym w) ∙ sym c.lacks_nets.ensures ∙ c.if-lacks_nets.false)
    ∙ ap (λ (x : Waves). Ok x) (sym (c.in_ok-dump.ensures ∙ w))
