use Rattle.std.proofs.Common.{◌≡◌, ◌⊎◌, inl, inr, ◌+◌, ◌*◌, ◌<◌, ◌≤◌, List, [], length, ap, ◌∙◌, arith}
use Rattle.std.specs.Prelude.{Option}
use Rattle.std.proofs.lemmas.Bool.{false≢true}
use Rattle.std.proofs.lemmas.Grind.{common_steps}
use Rattle.std.specs.Vec.{with_items}
use Rattle.circuit.specs.declared.parts.Fault.{Fault}
use Rattle.golden_difference.specs.Lanes.{Lanes}
use Rattle.lane_words.specs.Loads.{loaded_faults, somes}
use Rattle.differential_kernel.proofs.lanes.DifferentialLanes.load.Goals as goal

pub invariant_of-self : goal.invariant_of-self
invariant_of-self g c =
    let s = c.self.inside in
    let kept = c.self.invariant in
    let loads : (with_items s.loads c.place.new.loads).items ≡ c.place.new.loads = grind (arith, common_steps) in
    record {
      sound = kept.sound;
      ordered = kept.ordered;
      program = kept.program;
      given =
          ap (λ (ls : List (List (Option Fault))). length ls) loads ∙ c.place.auto.loads ∙ ap (λ (ls : List (List (Option Fault))). length ls) c.deref_mut.ensures.value
          ∙ kept.given;
      whole = λ whole. absurd (false≢true whole);
      loads = kept.loads;
      acts_bound = kept.acts_bound;
      stuck = kept.stuck;
      noted = kept.noted;
      forces = kept.forces;
      latches = kept.latches;
      nets = kept.nets;
      cone = kept.cone;
    }

pub returns-clause-loads : goal.returns-clause-loads
returns-clause-loads g c = λ k lt.
    let s = c.self.inside in
    let loads : (with_items s.loads c.place.new.loads).items ≡ c.place.new.loads = grind (arith, common_steps) in
    ap (λ (ls : List (List (Option Fault))). loaded_faults ls (c.args.word * 64 + k)) loads ∙ ap somes (c.place.ensures.placed k [] (omega (arith, lt)))

pub returns-clause-others : goal.returns-clause-others
returns-clause-others g c = λ j off.
    let s = c.self.inside in
    let loads : (with_items s.loads c.place.new.loads).items ≡ c.place.new.loads = grind (arith, common_steps) in
    let from = c.args.word * 64 in
    let outside : (j < from) ⊎ (from + length c.args.faults.now ≤ j) = elim off [ inl before ↦ inl before | inr behind ↦ inr (omega (arith, behind)) ] in
    ap (λ (ls : List (List (Option Fault))). loaded_faults ls j) loads ∙ ap somes (c.place.ensures.others j [] outside)
    ∙ ap (λ (ls : List (List (Option Fault))). loaded_faults ls j) c.deref_mut.ensures.value
    ∙ ap (λ (lanes : Lanes g.row.W.Denot). loaded_faults lanes.loads j) c.self.view_is
