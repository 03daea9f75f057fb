-- The text of `breakdown`, reading by reading.
use Rattle.std.proofs.Common.{◌≡◌, ℕ, List, [], ◌∷◌, ◌++◌, map, refl, ap, sym, ◌∙◌}
use Rattle.std.specs.Prelude.{codes}
use Rattle.std.specs.List.{flat_map}
use Rattle.fm_base.specs.Names.{Bytes}
use Rattle.fm_base.specs.Text.{line}
use Rattle.campaign_plan.specs.Analysis.{Analysis}
use Rattle.campaign_plan.specs.Batches.{true_planes}
use Rattle.fmeda_report.specs.Report.{all_sums, metric_lines}
use Rattle.readings.specs.Breakdown.{Reading as PlanReading, breakdown, breakdown_with}
use Rattle.reading_planes.specs.Readings.{ListGivesReadings, reading_by, reading_list}
use Rattle.metric_breakdown.specs.Text.{lines_by}

flat_map-map : {X Y : Type 0} (text : Y → Bytes) (g : X → Y) (xs : List X) → flat_map text (map g xs) ≡ flat_map (λ x. text (g x)) xs
flat_map-map text g [] = refl
flat_map-map text g (x ∷ xs) = ap (λ more. text (g x) ++ more) (flat_map-map text g xs)

-- it is that of the list of readings
pub text_is : ListGivesReadings → (p : Analysis) (intervals : List ℕ) → flat_map (lines_by p) (reading_list p.points intervals) ++ line (codes "end" ∷ []) ≡ breakdown p intervals
unfolding breakdown_with
text_is given p intervals =
    ap (λ text. text ++ line (codes "end" ∷ [])) (sym (
    ap (flat_map told) (sym (given p intervals)) ∙ flat_map-map told (reading_by p) (reading_list p.points intervals)))
  where
    told : PlanReading → Bytes
    told reading = line (codes "reading" ∷ reading.words) ++ metric_lines p.settings.asil (all_sums reading.plan (true_planes reading.plan))
