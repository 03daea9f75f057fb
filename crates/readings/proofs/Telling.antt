-- The text of each reading, by what the runs of the plan show.
use Rattle.std.proofs.Common.{◌≡◌, ℕ, List, [], ◌∷◌, ◌++◌, not, ◌==◌, map, filter, get_or, flat_map, All, decimal, refl, ap, ap₂, ◌∙◌, codes}
use Rattle.std.proofs.lemmas.List.Elements.{All-append, All-cons, All-head, All-map, All-tail}
use Rattle.circuit.specs.declared.parts.NetId.{NetId}
use Rattle.circuit.specs.Names.{net_name}
use Rattle.alarm_points.specs.declared.Goal.{Goal}
use Rattle.fm_base.specs.Names.{Bytes}
use Rattle.fm_base.specs.Text.{line}
use Rattle.campaign_plan.specs.Analysis.{Analysis, with_interval}
use Rattle.campaign_plan.specs.Batches.{true_planes}
use Rattle.fmeda_report.specs.Report.{all_sums, metric_lines}
use Rattle.result_file.specs.RowPlanes.{Planes}
use Rattle.readings.specs.Breakdown.{Reading, breakdown_with, goal_word, readings, with_alarms, with_goals}
use Rattle.readings.specs.Laws.{BreakdownIsShown}
use Rattle.first_cycles.specs.Shown.{planes_by, shown_of}
use Rattle.first_cycles.proofs.Showing.{all_shown}

same_text : {X : Type 0} (f g : X → Bytes) (xs : List X) → All (λ x. f x ≡ g x) xs → flat_map f xs ≡ flat_map g xs
same_text f g [] all = refl
same_text f g (x ∷ xs) all = ap₂ (λ (a b : Bytes). a ++ b) (All-head (λ y. f y ≡ g y) x xs all) (same_text f g xs (All-tail (λ y. f y ≡ g y) x xs all))

-- the text of a reading
abbrev told : (Analysis → Planes) → Analysis → Reading → Bytes
told planes p reading = line (codes "reading" ∷ reading.words) ++ metric_lines p.settings.asil (all_sums reading.plan (planes reading.plan))

-- the runs show the same of its faults
abbrev ShowsTheSame : Analysis → Reading → Type 0
ShowsTheSame p reading = shown_of reading.plan ≡ shown_of p

mapped : {Y : Type 0} (p : Analysis) (f : Y → Reading) → ((y : Y) → ShowsTheSame p (f y)) → (ys : List Y) → All (ShowsTheSame p) (map f ys)
mapped p f same ys = All-map (ShowsTheSame p) f ys (λ k d lt. same (get_or ys k d))

-- so in each reading
each_shows : (p : Analysis) (intervals : List ℕ) → All (ShowsTheSame p) (readings p intervals)
unfolding readings
each_shows p intervals =
    let whole : Reading = record { words = codes "all" ∷ []; plan = p } in
    let goal : Goal → Reading = λ goal. record { words = codes "goal" ∷ goal_word goal ∷ []; plan = with_goals p (goal ∷ []) } in
    let others : NetId → List NetId = λ net. filter (λ other. not (other.0 == net.0)) p.points.alarm in
    let without : NetId → Reading = λ net. record { words = codes "without" ∷ net_name p.circuit net.0 ∷ []; plan = with_alarms p (others net) } in
    let only : NetId → Reading = λ net. record { words = codes "only" ∷ net_name p.circuit net.0 ∷ []; plan = with_alarms p (net ∷ []) } in
    let ftti : ℕ → Reading = λ ftti. record { words = codes "ftti" ∷ decimal ftti ∷ []; plan = with_interval p ftti } in
    let first : List Reading = map goal p.points.goals in
    let second : List Reading = first ++ map without p.points.alarm in
    let third : List Reading = second ++ map only p.points.alarm in
    All-cons (ShowsTheSame p) whole (third ++ map ftti intervals) refl
    (All-append (ShowsTheSame p) third (map ftti intervals)
    (All-append (ShowsTheSame p) second (map only p.points.alarm)
    (All-append (ShowsTheSame p) first (map without p.points.alarm) (mapped p goal (λ own. refl) p.points.goals)
    (mapped p without (λ net. refl) p.points.alarm)) (mapped p only (λ net. refl) p.points.alarm)) (mapped p ftti (λ own. refl) intervals))

-- THE TEXT
pub breakdown_shown : BreakdownIsShown
unfolding breakdown_with
breakdown_shown p intervals =
    ap (λ (text : Bytes). text ++ line (codes "end" ∷ []))
    (same_text (told true_planes p) (told (planes_by (shown_of p)) p) (readings p intervals)
    (λ k d lt.
    let r : Reading = get_or (readings p intervals) k d in
    ap (λ (planes : Planes). line (codes "reading" ∷ r.words) ++ metric_lines p.settings.asil (all_sums r.plan planes))
    (all_shown r.plan ∙ ap (λ shown. planes_by shown r.plan) (each_shows p intervals k d lt))))
