use Rattle.std.proofs.Common.{◌≡◌, ◌+◌, ◌*◌, ◌<◌, ◌++◌, ◌∷◌, [], ◌||◌, ◌&&◌, ℕ, List, length, ap, ap₂, sym, ◌∙◌, subst}
use Rattle.campaign_plan.specs.declared.Outcome.{Outcome}
use Rattle.fm_base.specs.Planes.{bit}
use Rattle.fm_base.proofs.Lists.{written_whole}
use Rattle.workload.specs.Runs.{is_mission}
use Rattle.classifier.specs.Planes.{HasPlanes, outcome_at}
use Rattle.first_cycles.specs.Shown.{Shown, shown_in}
use Rattle.reading_planes.specs.Folded.{AreWords, late_by, noticed_by, reading_at}
use Rattle.reading_planes.specs.Readings.{ftti_by, points_by}
use Rattle.reading_planes.proofs.Adding.{run_more}
use Rattle.reading_planes.proofs.runs.add_word.Goals as goal

pub returns-clause-planes : goal.returns-clause-planes
returns-clause-planes c = λ circuit runs run faults r kind seen lt before.
    let points = c.args.points.now in
    let reading = reading_at c.args.readings.now r in
    let own = points_by points reading in
    let ftti = ftti_by c.args.ftti reading in
    let old = c.planes.inside.outcomes in
    let new = c.add_lanes.new.outcomes in
    let count : length new ≡ length old.items = c.add_lanes.auto.outcomes ∙ ap length c.as_mut_slice-outcomes.ensures.value in
    let whole = written_whole new old.items old.len count old.ok.0 in
    let first : c.as_mut_slice-outcomes.result.now ≡ c.args.planes.now = c.as_mut_slice-outcomes.ensures.value ∙ c.planes.view_is in
    let shown : ℕ → Shown = λ k. shown_in circuit (faults k) run in
    subst (λ (os : List Outcome). HasPlanes circuit own ftti (runs ++ run ∷ []) faults (outcome_at os r)) (sym whole)
    (run_more circuit own ftti runs run faults (outcome_at c.args.planes.now r) (outcome_at new r)
    (c.add_lanes.ensures.words r lt (subst (λ (os : List Outcome). AreWords (outcome_at os r)) (sym first) before.fits))
    (λ k small.
    c.add_lanes.ensures.danger shown r k (λ j. kind) seen lt small
    ∙ ap₂ (λ (os : List Outcome) kd. bit (outcome_at os r).danger k || (is_mission kd && late_by points c.args.ftti reading (shown k))) first (sym kind))
    (λ k small.
    c.add_lanes.ensures.noticed shown r k (λ j. kind) seen lt small
    ∙ ap (λ (os : List Outcome). bit (outcome_at os r).noticed k || noticed_by points reading (shown k)) first)
    before)
