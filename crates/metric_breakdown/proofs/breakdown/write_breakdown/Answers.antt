use Rattle.std.proofs.Common.{◌≡◌, ◌++◌, ◌∷◌, [], ℕ, List, ap, ◌∙◌}
use Rattle.std.specs.Prelude.{codes}
use Rattle.std.specs.List.{flat_map}
use Rattle.fm_base.specs.Text.{line}
use Rattle.alarm_points.specs.declared.Points.{Points}
use Rattle.campaign_plan.specs.Analysis.{Analysis}
use Rattle.fm_shelf.proofs.Sending.{sends_as}
use Rattle.readings.specs.Breakdown.{breakdown}
use Rattle.reading_planes.specs.Readings.{ListGivesReadings, reading_list}
use Rattle.reading_planes.specs.declared.reading.Reading.{Reading}
use Rattle.metric_breakdown.specs.Text.{lines_by}
use Rattle.metric_breakdown.proofs.Telling.{text_is}
use Rattle.metric_breakdown.proofs.breakdown.write_breakdown.Goals as goal

-- the text of these readings is that of the plan
text_of : ListGivesReadings → (p : Analysis) (intervals : List ℕ) (points : Points) (listed readings : List Reading) → readings ≡ listed → listed ≡ reading_list points intervals
    → points ≡ p.points → flat_map (lines_by p) readings ++ line (codes "end" ∷ []) ≡ breakdown p intervals
text_of given p intervals points listed readings same list own =
    ap (λ (rs : List Reading). flat_map (lines_by p) rs ++ line (codes "end" ∷ [])) (same ∙ list ∙ ap (λ (ps : Points). reading_list ps intervals) own)
    ∙ text_is given p intervals

pub returns-in-Ok-clause-wrote : goal.returns-in-Ok-clause-wrote
returns-in-Ok-clause-wrote g c =
    (sends_as (text_of c.list_gives_readings.ensures.readings c.args.plan.now c.args.intervals.now c.points.result.now c.in_ok-readings.readings.items c.deref-2.result.now
    c.deref-2.ensures.value c.in_ok-readings.ensures c.points.ensures.value) c.in-Ok.ensures).ok

pub returns-clause-failed : goal.returns-clause-failed
returns-clause-failed g c = λ failed same.
    (sends_as (text_of c.list_gives_readings.ensures.readings c.args.plan.now c.args.intervals.now c.points.result.now c.in_ok-readings.readings.items c.deref-2.result.now
    c.deref-2.ensures.value c.in_ok-readings.ensures c.points.ensures.value) c.in-Err.ensures).failed
