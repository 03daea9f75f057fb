use Rattle.std.proofs.Common.{List, length, ap, sym, ◌∙◌, subst}
use Rattle.circuit.specs.After.{IsAfter}
use Rattle.circuit.specs.Trace.{trace}
use Rattle.cycle_sim.specs.Sim.{Simulation}
use Rattle.fm_base.specs.Planes.{bit}
use Rattle.fm_base.proofs.Bits.{bit-plane_of}
use Rattle.row_audit.specs.Alone.{AreSims, fault_alone, sim_at}
use Rattle.row_audit.proofs.one_circuit.OneCircuitCircuits.values.Goals as goal

pub plane_in-requires : goal.plane_in-requires
plane_in-requires c = ap (λ (xs : List Simulation). length xs) c.deref.ensures.value ∙ c.requires.sound.count

pub returns : goal.returns
returns c = λ vectors t k ran last lane inside.
    let golden : Simulation = c.args.self.now.golden in
    let faults = fault_alone c.args.self.now.faults in
    let value = c.deref.ensures.value in
    ap (λ plane. bit plane k)
    (c.plane_in.ensures golden faults vectors t (subst (λ (xs : List Simulation). AreSims golden.circuit golden.order xs) (sym value) c.requires.sound)
    (λ j small. subst (λ (xs : List Simulation). IsAfter golden.circuit (faults j) vectors (sim_at golden xs j).moment) (sym value) (ran.each j small)) last inside)
    ∙ bit-plane_of (λ j. trace golden.circuit (faults j) vectors t c.args.net.0) k lane
