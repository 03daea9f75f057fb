use Rattle.std.proofs.Common.{◌≡◌, ◌+◌, ◌*◌, ◌<◌, ◌≤◌, ◌^◌, ℕ, length, ap, ◌∙◌, arith}
use Rattle.std.specs.Int.{div_ceil}
use Rattle.std.proofs.Math.Nat.{add-mul, mul-le-mul_right, mul_assoc}
use Rattle.std.proofs.lemmas.Grind.{div_ceil_times}
use Rattle.circuit.specs.declared.parts.Fault.{Fault}
use Rattle.campaign_plan.specs.Analysis.{fault_count}
use Rattle.latency_table.proofs.worker.first_batch.Goals as goal

-- a round that is done begins with a fault of the list, if its share is that of the first worker
few_batches : (faults workers number round : ℕ) → number < workers → workers ≤ 32 → faults ≤ 2 ^ 26 → round < div_ceil faults (workers * 1024)
    → (round * workers + number) * 16 + 16 < 2 ^ 32
few_batches faults workers number round in_crew few most lt =
    let stride : 0 < workers * 1024 = omega (arith, in_crew) in
    let all : div_ceil faults (workers * 1024) * (workers * 1024) < faults + workers * 1024 = (div_ceil_times faults (workers * 1024) stride).1 in
    let next : (round + 1) * (workers * 1024) ≤ div_ceil faults (workers * 1024) * (workers * 1024) = mul-le-mul_right (workers * 1024) (omega (arith, lt)) in
    let split : (round + 1) * (workers * 1024) ≡ round * (workers * 1024) + 1 * (workers * 1024) = add-mul round 1 (workers * 1024) in
    let joined = mul_assoc round workers 1024 in
    omega (arith, in_crew, few, most, all, next, split, joined)
