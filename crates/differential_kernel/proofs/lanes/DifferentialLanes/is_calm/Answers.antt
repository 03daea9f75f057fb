use Rattle.std.proofs.Common.{◌≡◌, ◌≤◌, true, false, sym, ◌∙◌, subst, arith}
use Rattle.std.proofs.lemmas.Bool.{true≢false}
use Rattle.fm_base.proofs.Tests.{not_true}
use Rattle.golden_difference.specs.Beside.{DoNothing}
use Rattle.golden_difference.specs.Lanes.{Lanes}
use Rattle.lane_words.specs.Loads.{loaded_faults}
use Rattle.differential_kernel.proofs.Acting.{nothing_now}
use Rattle.differential_kernel.proofs.lanes.DifferentialLanes.is_calm.Goals.{then-self, else-self}
use Rattle.differential_kernel.proofs.lanes.DifferentialLanes.is_calm.Goals as goal

pub returns-then-not-self : goal.returns-then-not-self
returns-then-not-self g c = λ k t is from lt.
    let s = c.self.inside in
    let kept = c.self.invariant in
    let noted : s.noted ≡ true =
    elim c.if-self.branch [ then-self w ↦ w.if-self.true | else-self w ↦ sym w.value-is ∙ c.if-not-self.true ] in
    let loose : s.stuck ≡ false =
    elim c.if-self.branch [
      | then-self w ↦ not_true s.stuck (sym w.value-is ∙ c.if-not-self.true)
      | else-self w ↦ absurd (true≢false (sym c.if-not-self.true ∙ w.value-is ∙ w.if-self.false))
    ] in
    let begun : s.cycle ≤ t = subst (λ (lanes : Lanes g.row.W.Denot). lanes.cycle ≤ t) (sym c.self.view_is) from in
    subst (λ (lanes : Lanes g.row.W.Denot). DoNothing (loaded_faults lanes.in_force k) t) c.self.view_is
    (nothing_now s.in_force.items k t (sym (kept.stuck noted) ∙ loose)
    (sym ((kept.noted noted).acts t (omega (arith, kept.acts_bound, lt))) ∙ c.is_empty_from.ensures is t begun))
