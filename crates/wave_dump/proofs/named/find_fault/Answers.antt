use Rattle.std.proofs.Common.{◌∙◌, sym, length}
use Rattle.wave_dump.specs.Steps.{is_fault_named}
use Rattle.wave_dump.proofs.Naming.{by_flip, by_pulse, by_stuck}
use Rattle.wave_dump.proofs.named.find_fault.Goals as goal

pub returns-in-Some-clause-value : goal.returns-in-Some-clause-value
returns-in-Some-clause-value c =
    let net = c.args.net.now in
    sym (by_stuck (is_fault_named net c.args.name.now) (length net.drivers) (length net.latches) c.args.flips.now c.args.pulses.now c.in-Some.fault (sym c.in-Some.ensures.value))

pub returns-in-Some-find_flip-clause-value : goal.returns-in-Some-find_flip-clause-value
returns-in-Some-find_flip-clause-value c =
    let net = c.args.net.now in
    sym (by_flip (is_fault_named net c.args.name.now) (length net.drivers) (length net.latches) c.args.flips.now c.args.pulses.now c.in-Some-find_flip.fault
    (sym c.in_default.ensures.value) (sym c.in-Some-find_flip.ensures))

pub returns-clause-value : goal.returns-clause-value
returns-clause-value c =
    let net = c.args.net.now in
    c.find_pulse.ensures
    ∙ sym (by_pulse (is_fault_named net c.args.name.now) (length net.drivers) (length net.latches) c.args.flips.now c.args.pulses.now
    (sym c.in_default.ensures.value) (sym c.in_default-find_flip.ensures))
