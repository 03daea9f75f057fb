use Rattle.std.proofs.Common.{◌≡◌, ◌<◌, ◌||◌, ◌&&◌, ◌%◌, ℕ, Bool, None, false, length, ap, sym, ◌∙◌, subst}
use Rattle.std.specs.Prelude.{◌==◌}
use Rattle.std.proofs.Math.Bool.{and-false}
use Rattle.std.proofs.lemmas.List.Elements.{All-get_or}
use Rattle.fm_base.specs.Planes.{bit}
use Rattle.workload.specs.Runs.{is_mission}
use Rattle.classifier.specs.Planes.{outcome_at}
use Rattle.reading_planes.specs.Folded.{AreCyclesOf, reading_at}
use Rattle.reading_planes.specs.Readings.{IsReadingOf}
use Rattle.reading_planes.specs.declared.reading.Reading.TheVariants.{Whole}
use Rattle.reading_planes.proofs.Bits.{without_bit}
use Rattle.reading_planes.proofs.Shows.{late_by_none, noticed_by_none}
use Rattle.testbench.specs.Points.{goal_at}
use Rattle.reading_planes.proofs.add.add_fault.Goals as goal

pub returns-else-has_some-clause-danger : goal.returns-else-has_some-clause-danger
returns-else-has_some-clause-danger c = λ s r k kind shown lt small.
    let points = c.args.points.now in
    let before = bit (outcome_at c.args.outcomes.now r).danger k in
    let of : AreCyclesOf points s c.load.new.self = c.load.ensures.loaded s kind shown in
    let none : (g : ℕ) → g < length points.goals → s.difference (goal_at points.goals g) ≡ None = λ g within.
    sym (of.difference g within) ∙ c.has_some.ensures.difference c.if-has_some.false g (subst (λ n. g < n) (sym c.load.ensures.made.differences) within) in
    without_bit before (c.args.fault % 64) k
    ∙ ap (λ (b : Bool). before || (c.args.fault % 64 == k && b))
    (sym (ap (λ (b : Bool). is_mission c.args.kind && b)
    (late_by_none points c.args.ftti s (reading_at c.args.readings.now r) (All-get_or (IsReadingOf points) c.args.readings.now r Whole lt c.requires.readings) none)
    ∙ and-false (is_mission c.args.kind)))

pub returns-else-has_some-clause-noticed : goal.returns-else-has_some-clause-noticed
returns-else-has_some-clause-noticed c = λ s r k kind shown lt small.
    let points = c.args.points.now in
    let before = bit (outcome_at c.args.outcomes.now r).noticed k in
    let of : AreCyclesOf points s c.load.new.self = c.load.ensures.loaded s kind shown in
    without_bit before (c.args.fault % 64) k
    ∙ ap (λ (b : Bool). before || (c.args.fault % 64 == k && b))
    (sym (noticed_by_none points s (reading_at c.args.readings.now r) (All-get_or (IsReadingOf points) c.args.readings.now r Whole lt c.requires.readings)
    (sym of.noticed ∙ c.has_some.ensures.noticed c.if-has_some.false)))

pub returns-then-has_some-clause-danger : goal.returns-then-has_some-clause-danger
returns-then-has_some-clause-danger c = λ s r k kind shown lt small. c.add_lane.ensures.danger s r k (c.load.ensures.loaded s kind shown) lt small

pub returns-then-has_some-clause-noticed : goal.returns-then-has_some-clause-noticed
returns-then-has_some-clause-noticed c = λ s r k kind shown lt small. c.add_lane.ensures.noticed s r k (c.load.ensures.loaded s kind shown) lt small
