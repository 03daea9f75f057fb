use Rattle.std.proofs.Common.{◌≡◌, ◌+◌, ◌*◌, List, [], inr, refl, sym, ◌∙◌, arith}
use Rattle.circuit.specs.declared.parts.Fault.{Fault}
use Rattle.differential_kernel.specs.Picked.{place_in}
use Rattle.testbench.proofs.LoadIsKept.{load_kept}
use Rattle.classifier.proofs.Narrowing.{holds_at, in_first, same_at}
use Rattle.classifier.proofs.narrow.NarrowFollowed.drop_lanes.Goals as goal

pub returns-clause-place : goal.returns-clause-place
returns-clause-place c = record {
  load = load_kept c.args.self.now.lanes c.drop_lanes.new.self c.drop_lanes.ensures.keeps;
  cycle = c.drop_lanes.ensures.cycle;
  after = c.drop_lanes.ensures.beside;
}

pub returns-clause-dropped : goal.returns-clause-dropped
returns-clause-dropped c = λ k lane is.
    let s = c.args.self.now in
    let lane_of = c.args.word * 64 + k in
    holds_at c.drop_lanes.new.self.in_force (λ (faults : List Fault). faults ≡ []) (place_in s.picks lane_of) refl
    (λ own there.
    sym (in_first c.drop_lanes.new.self.in_force own)
    ∙ c.drop_lanes.ensures.dropped own (omega (arith, (c.places_of-out.ensures.sound.picked_there lane_of own there).0, c.places_of-out.ensures.sound.few))
    (c.places_of-out.ensures.set k own lane is there))

pub returns-clause-others : goal.returns-clause-others
returns-clause-others c = λ other k within lane apart.
    let s = c.args.self.now in
    let lane_of = other * 64 + k in
    same_at s.lanes.in_force c.drop_lanes.new.self.in_force (place_in s.picks lane_of)
    (λ own there.
    sym (in_first c.drop_lanes.new.self.in_force own)
    ∙ c.drop_lanes.ensures.others 0 own (omega arith) (omega (arith, (c.places_of-out.ensures.sound.picked_there lane_of own there).0, c.places_of-out.ensures.sound.few))
    (inr (c.places_of-out.ensures.others other k own lane apart there))
    ∙ in_first s.lanes.in_force own)
