use Rattle.std.proofs.Common.{◌≡◌, ◌*◌, ◌∙◌, ℕ, List, ap, arith}
use Rattle.std.specs.Prelude.{false, slice_index_or}
use Rattle.circuit.specs.declared.parts.Latch.{Latch}
use Rattle.circuit.specs.Circuit.{Circuit}
use Rattle.fault_list.specs.Faults.{latch_numbered}
use Rattle.campaign_plan.specs.Analysis.{fault_numbered}
use Rattle.coverage.specs.Upsets.{counts}
use Rattle.metric_coverage.proofs.Latches.{first_listed, latch_counts, output_net}
use Rattle.metric_coverage.proofs.upsets.is_latch_counted.Goals as goal

-- the output net, as the program reads it
same_net : (c : Circuit) (latches : List Latch) (k : ℕ) → latches ≡ c.latches
    → (slice_index_or latches k (record { from = record { 0 = 0 }; to = record { 0 = 0 }; start = false })).to.0 ≡ (latch_numbered c k).to.0
same_net c latches k e = ap (λ (ls : List Latch). (slice_index_or ls k (record { from = record { 0 = 0 }; to = record { 0 = 0 }; start = false })).to.0) e

pub overflow_mul-net : goal.overflow_mul-net
overflow_mul-net c =
    let circuit = c.args.plan.now.circuit in
    let is : c.latches.result.now ≡ circuit.latches = c.latches.ensures.value ∙ ap (λ (own : Circuit). own.latches) c.net.ensures.value in
    omega (arith, same_net circuit c.latches.result.now c.args.latch is, output_net circuit c.net.ensures.plan.netlist c.args.latch c.requires, c.net.ensures.plan.netlist.few)

pub is_counted-requires : goal.is_counted-requires
is_counted-requires c =
    let p = c.args.plan.now in
    let is : c.latches.result.now ≡ p.circuit.latches = c.latches.ensures.value ∙ ap (λ (own : Circuit). own.latches) c.net.ensures.value in
    let net = output_net p.circuit c.net.ensures.plan.netlist c.args.latch c.requires in
    omega (arith, same_net p.circuit c.latches.result.now c.args.latch is, first_listed p (latch_numbered p.circuit c.args.latch).to.0 net)

pub returns : goal.returns
returns c =
    let p = c.args.plan.now in
    let is : c.latches.result.now ≡ p.circuit.latches = c.latches.ensures.value ∙ ap (λ (own : Circuit). own.latches) c.net.ensures.value in
    let net = output_net p.circuit c.net.ensures.plan.netlist c.args.latch c.requires in
    c.is_counted.ensures ∙ ap (λ n. counts p (fault_numbered p (n * 2))) (same_net p.circuit c.latches.result.now c.args.latch is) ∙ latch_counts p c.args.latch net
