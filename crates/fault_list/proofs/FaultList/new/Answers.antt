use Rattle.std.proofs.Common.{◌≤◌, length, ap, ap₂, ◌∙◌, arith}
use Rattle.std.proofs.lemmas.Result.{err_from_is_err_and}
use Rattle.fault_list.specs.Faults.{faults_of, faults_for}
use Rattle.fault_list.specs.Kept.{most_faults}
use Rattle.fault_list.proofs.Numbers.{counted}
use Rattle.fault_list.proofs.FaultList.new.Goals as goal

pub returns-then-count-gt-MOST_FAULTS : goal.returns-then-count-gt-MOST_FAULTS
returns-then-count-gt-MOST_FAULTS c =
    let count = counted c.args.net.now c.args.flips.now c.args.pulses.now c.count.result c.nets-nets.result c.latches.result.now c.count.ensures c.nets-nets.ensures.count c.latches.ensures.value in
    omega (arith, count, c.if-count-gt-MOST_FAULTS.true)

pub returns-in_err-of : goal.returns-in_err-of
returns-in_err-of c =
    let count = counted c.args.net.now c.args.flips.now c.args.pulses.now c.count.result c.nets-nets.result c.latches.result.now c.count.ensures c.nets-nets.ensures.count c.latches.ensures.value in
    let few : length (faults_of c.args.net.now c.args.flips.now c.args.pulses.now) ≤ most_faults = omega (arith, count, c.if-count-gt-MOST_FAULTS.false) in
    let p = err_from_is_err_and c.from_residual.result c.from_residual.ensures.1 in
    rw (p.1, p.2) few

pub returns : goal.returns
returns c =
    let count = counted c.args.net.now c.args.flips.now c.args.pulses.now c.count.result c.nets-nets.result c.latches.result.now c.count.ensures c.nets-nets.ensures.count c.latches.ensures.value in (
      c.in_ok-of.ensures ∙ ap₂ (λ nets latches. faults_for nets latches c.args.flips.now c.args.pulses.now) c.nets-nets.ensures.count (ap length c.latches.ensures.value),
      omega (arith, count, c.if-count-gt-MOST_FAULTS.false),
    )
