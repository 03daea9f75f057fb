use Rattle.std.proofs.Common.{◌≡◌, ◌+◌, ◌*◌, ◌-◌, ◌/◌, ◌%◌, ◌<◌, ◌≤◌, ℕ, List, length, ap, ap₂, sym, subst, ◌∙◌, arith}
use Rattle.std.specs.Prelude.{slice_index}
use Rattle.circuit.specs.declared.parts.Fault.{Fault}
use Rattle.circuit.specs.declared.parts.Fault.TheVariants.{Flip, Pulse}
use Rattle.fault_list.specs.Faults.{net, fault_at, faults_for}
use Rattle.fault_list.specs.Kept.{stuck_count, flip_count, count_for}
use Rattle.fault_list.proofs.Rows.{some_wide}
use Rattle.fault_list.proofs.Numbers.{length_faults, stuck_at, flip_at, pulse_at}
use Rattle.fault_list.proofs.FaultList.fault.Goals as goal

pub returns-then-i-stuck : goal.returns-then-i-stuck
returns-then-i-stuck c =
    let f = c.self.inside in
    sym (stuck_at f.nets f.latches f.flips f.pulses c.args.i c.if-i-stuck.true) ∙ ap (λ faults. fault_at faults c.args.i) c.self.view_is

pub returns-then-i-stuck-2 : goal.returns-then-i-stuck-2
returns-then-i-stuck-2 c =
    let f = c.self.inside in
    let j = c.args.i - f.nets * 2 in
    let lt : j < f.latches * length f.flips = subst (λ n. j < f.latches * n) c.len.ensures c.if-i-stuck-2.true in
    let row = c.row_and_cycle-latch.ensures.row in
    let cycle = c.row_and_cycle-latch.ensures.cycle in
    let at : List ℕ → Fault = λ flips. Flip (j / length flips) (slice_index flips (j % length flips)) in
    ap₂ (λ latch cycle. Flip latch cycle) row cycle ∙ ap at c.as_slice.ensures
    ∙ sym (flip_at f.nets f.latches f.flips f.pulses c.args.i c.if-i-stuck.false lt) ∙ ap (λ faults. fault_at faults c.args.i) c.self.view_is

pub row_and_cycle-net-requires-clause-some : goal.row_and_cycle-net-requires-clause-some
row_and_cycle-net-requires-clause-some c =
    let f = c.self.inside in
    let size : length (faults_for f.nets f.latches f.flips f.pulses) ≡ length c.args.self.now = ap length c.self.view_is in
    let counted = length_faults f.nets f.latches f.flips f.pulses in
    let past : f.latches * length f.flips ≤ c.args.i - f.nets * 2 = subst (λ n. f.latches * n ≤ c.args.i - f.nets * 2) c.len.ensures c.if-i-stuck-2.false in
    let low = c.if-i-stuck.false in
    let within : c.args.i - f.nets * 2 - f.latches * length f.flips < f.nets * length f.pulses = omega (arith, c.requires, counted, size) in
    subst (λ n. 0 < n) (ap length (sym c.as_slice-2.ensures)) (some_wide f.nets (c.args.i - f.nets * 2 - f.latches * length f.flips) (length f.pulses) within)

pub returns : goal.returns
returns c =
    let f = c.self.inside in
    let size : length (faults_for f.nets f.latches f.flips f.pulses) ≡ length c.args.self.now = ap length c.self.view_is in
    let counted = length_faults f.nets f.latches f.flips f.pulses in
    let lt : c.args.i < count_for f.nets f.latches f.flips f.pulses = omega (arith, c.requires, counted, size) in
    let past : f.latches * length f.flips ≤ c.args.i - f.nets * 2 = subst (λ n. f.latches * n ≤ c.args.i - f.nets * 2) c.len.ensures c.if-i-stuck-2.false in
    let le : stuck_count f.nets + flip_count f.latches f.flips ≤ c.args.i = let low = c.if-i-stuck.false in omega arith in
    let row = c.row_and_cycle-net.ensures.row in
    let cycle = c.row_and_cycle-net.ensures.cycle in
    let at : ℕ → List ℕ → Fault =
    λ n pulses. Pulse (net ((c.args.i - f.nets * 2 - f.latches * n) / length pulses)) (slice_index pulses ((c.args.i - f.nets * 2 - f.latches * n) % length pulses)) in
    ap₂ (λ n cycle. Pulse (net n) cycle) row cycle ∙ ap₂ at c.len.ensures c.as_slice-2.ensures
    ∙ sym (pulse_at f.nets f.latches f.flips f.pulses c.args.i le lt) ∙ ap (λ faults. fault_at faults c.args.i) c.self.view_is
