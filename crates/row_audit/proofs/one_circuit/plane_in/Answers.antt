use Rattle.std.proofs.Common.{◌≡◌, ◌+◌, ◌^◌, ◌<◌, ℕ, suc, Bool, length, refl, ap, ap₂, sym, subst, ◌∙◌, arith, bit_or}
use Rattle.std.specs.Prelude.{if◌then◌else◌}
use Rattle.std.proofs.lemmas.List.{get_or_default}
use Rattle.circuit.specs.Circuit.{Circuit}
use Rattle.circuit.specs.After.{IsAfter}
use Rattle.circuit.specs.Trace.{trace}
use Rattle.cycle_sim.specs.Sim.{Simulation}
use Rattle.fm_base.specs.Planes.{plane_below}
use Rattle.row_audit.specs.Alone.{sim_at}
use Rattle.row_audit.proofs.one_circuit.plane_in.Goals as goal

-- the plane of one lane more
plane_more : (n : ℕ) (test : ℕ → Bool) → plane_below (n + 1) test ≡ bit_or (plane_below n test) (if test n then 2 ^ n else 0)
unfolding plane_below
plane_more n test = let next : n + 1 ≡ suc n = omega arith in ap (λ m. plane_below m test) next

pub loop-lane-preserved : goal.loop-lane-preserved
loop-lane-preserved c = λ golden faults vectors t alike after last inside.
    let lane = c.loop-lane.lane in
    let sims = c.args.sims.now in
    let net = c.args.net.0 in
    let sim : Simulation = c.index-sims-lane.result in
    let within : lane < length sims = omega arith in
    let small : lane < 64 = omega (arith, within, alike.count) in
    let same : sim ≡ sim_at golden sims lane = c.index-sims-lane.is ∙ get_or_default sims lane sim golden within in
    let of : sim.circuit ≡ golden.circuit = ap (λ (s : Simulation). s.circuit) same ∙ (alike.each lane golden within).circuit in
    let here : IsAfter sim.circuit (faults lane) vectors sim.moment =
    subst (λ (x : Circuit). IsAfter x (faults lane) vectors sim.moment) (sym of) (subst (λ (s : Simulation). IsAfter golden.circuit (faults lane) vectors s.moment) (sym same) (after lane small)) in
    let value : c.net.result ≡ trace golden.circuit (faults lane) vectors t net =
    c.net.ensures (faults lane) vectors t here last (subst (λ (x : Circuit). net < length x.drivers) (sym of) inside)
    ∙ ap (λ (x : Circuit). trace x (faults lane) vectors t net) of in
    c.with_lane-plane.ensures
    ∙ ap₂ (λ p b. bit_or p (if b then 2 ^ lane else 0)) (c.loop-lane.invariant golden faults vectors t alike after last inside) value
    ∙ sym (plane_more lane (λ k. trace golden.circuit (faults k) vectors t net))

pub loop-lane-init : goal.loop-lane-init
unfolding plane_below
loop-lane-init c = λ golden faults vectors t alike after last inside. refl

pub returns : goal.returns
returns c = λ golden faults vectors t alike after last inside.
    let all : c.loop-lane.lane ≡ 64 = omega (arith, alike.count, c.loop-lane-test.false, c.loop-lane.auto.lane-end) in
    c.loop-lane.invariant golden faults vectors t alike after last inside
    ∙ ap (λ n. plane_below n (λ k. trace golden.circuit (faults k) vectors t c.args.net.0)) all
