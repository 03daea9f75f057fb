-- What is kept, with one run more.
use Rattle.std.proofs.Common.{◌≡◌, ℕ, ◌+◌, ◌<◌, Bool, ◌||◌, List, [], ◌∷◌, ◌++◌, length, map, take, Option, Some, None, is_some, option_map, option_and_then, add-one, refl, ap, ap₂, sym, ◌∙◌}
use Rattle.std.specs.Prelude.{if◌then◌else◌}
use Rattle.std.specs.List.{list_any}
use Rattle.std.specs.Option.{option_or}
use Rattle.std.proofs.Math.Bool.{or-false}
use Rattle.std.proofs.lemmas.List.{map-append, take_more}
use Rattle.std.proofs.lemmas.List.Folds.{list_any-append}
use Rattle.circuit.specs.declared.parts.Fault.{Fault}
use Rattle.circuit.specs.declared.parts.NetId.{NetId}
use Rattle.circuit.specs.Circuit.{Circuit}
use Rattle.fm_base.specs.Firsts.{first_answer, first_where}
use Rattle.fm_base.specs.Lists.{below}
use Rattle.fm_base.proofs.Below.{map-below}
use Rattle.workload.specs.declared.run.Kind.TheVariants.{Mission}
use Rattle.workload.specs.declared.run.Run.{Run}
use Rattle.workload.specs.Runs.{run_at}
use Rattle.alarm_points.specs.declared.Points.{Points}
use Rattle.first_cycles.specs.FirstCycles.{first_alarm}
use Rattle.first_cycles.specs.Shown.{Shown, danger_by, interval_by, interval_in, longer, longest, notice_by, shown_in}
use Rattle.readings.specs.Latencies.{Sighting}
use Rattle.latency_table.specs.declared.latency.Latency.{Latency}
use Rattle.latency_table.specs.declared.latency.RunShows.{RunShows}
use Rattle.latency_table.specs.declared.latency.Sighting.{Sighting as Kept}
use Rattle.latency_table.specs.Latency.{IsLatencyOf, IsShownBy, alarm_in, first_of, latency_after, latency_at, point_at, reach_in, shown_first, sighted, sighting_of}
use Rattle.latency_table.proofs.Lists.{longest_push}

or_none : {Y : Type 0} (a : Option Y) → option_or a None ≡ a
or_none None = refl
or_none (Some y) = refl

or_assoc : {Y : Type 0} (a b c : Option Y) → option_or a (option_or b c) ≡ option_or (option_or a b) c
or_assoc None b c = refl
or_assoc (Some y) b c = refl

answer_push : {Y : Type 0} (answers : List (Option Y)) (a : Option Y) → first_answer (answers ++ a ∷ []) ≡ option_or (first_answer answers) a
answer_push [] a = or_none a
answer_push (b ∷ answers) a = ap (option_or b) (answer_push answers a) ∙ or_assoc b (first_answer answers) a

one_more : (test : Shown → Bool) (xs : List Shown) (s : Shown) → list_any test (xs ++ s ∷ []) ≡ (list_any test xs || test s)
one_more test xs s = list_any-append test xs (s ∷ []) ∙ ap (λ b. list_any test xs || b) (or-false (test s))

module _ (c : Circuit) (points : Points) (ftti : ℕ) (runs : List Run) (x : List Fault) where
  -- before the first run
  pub latency_none : IsLatencyOf c points ftti runs x 0 (latency_at [] 0)
  unfolding below first_where
  latency_none = record { dangerous = refl; noticed = refl; reached = refl; alarmed = refl; point = refl; interval = refl }

  module _ (n : ℕ) (lt : n < length runs) where
    abbrev s : Shown
    s = shown_in c x (run_at runs n)

    shown_more : shown_first c runs x (n + 1) ≡ shown_first c runs x n ++ s ∷ []
    shown_more =
        let none : Run = record { kind = Mission; vectors = [] } in
        ap (map (shown_in c x)) (take_more runs n none lt) ∙ map-append (shown_in c x) (take n runs) (run_at runs n ∷ [])

    sighted_more : (seen : Shown → Option ℕ)
        → sighted c runs x seen (n + 1) ≡ option_or (sighted c runs x seen n) (option_map (λ t. let sighting : Sighting = record { run = n; cycle = t } in sighting) (seen s))
    unfolding first_where
    sighted_more seen =
        let answer : ℕ → Option Sighting = λ k. option_map (λ t. record { run = k; cycle = t }) (seen (shown_in c x (run_at runs k))) in
        ap (λ m. first_answer (map answer (below m))) (add-one n) ∙ ap first_answer (map-below answer n) ∙ answer_push (map answer (below n)) (answer n)

    sighting_more : (kept : Option Kept) (t : Option ℕ)
        → sighting_of (first_of kept n t) ≡ option_or (sighting_of kept) (option_map (λ u. let sighting : Sighting = record { run = n; cycle = u } in sighting) t)
    sighting_more (Some k) t = refl
    sighting_more None (Some t) = refl
    sighting_more None None = refl

    -- when it is sighted
    sighted_now : (seen : Shown → Option ℕ) (kept : Option Kept) (t : Option ℕ) → sighting_of kept ≡ sighted c runs x seen n → t ≡ seen s
        → sighting_of (first_of kept n t) ≡ sighted c runs x seen (n + 1)
    sighted_now seen kept t was now =
        sighting_more kept t ∙ ap₂ (λ a b. option_or a (option_map (λ u. let sighting : Sighting = record { run = n; cycle = u } in sighting) b)) was now ∙ sym (sighted_more seen)

    -- the alarm point of a sighting
    abbrev point_of : Sighting → Option NetId
    point_of = λ seen. point_at points (first_alarm c x (run_at runs seen.run)) seen.cycle

    point_here : (t : Option ℕ) → option_and_then (point_at points s.alarm) t ≡ option_and_then point_of (option_map (λ u. let sighting : Sighting = record { run = n; cycle = u } in sighting) t)
    point_here None = refl
    point_here (Some t) = refl

    point_now : (kept : Option Kept) (before here : Option NetId) → sighting_of kept ≡ sighted c runs x (alarm_in points) n
        → before ≡ option_and_then point_of (sighted c runs x (alarm_in points) n) → here ≡ option_and_then (point_at points s.alarm) (alarm_in points s)
        → (if is_some kept then before else here) ≡ option_and_then point_of (sighted c runs x (alarm_in points) (n + 1))
    point_now (Some k) before here was own now =
        own ∙ ap (option_and_then point_of) (sym was ∙ ap (λ o. option_or o (option_map (λ u. let sighting : Sighting = record { run = n; cycle = u } in sighting) (alarm_in points s))) was
        ∙ sym (sighted_more (alarm_in points)))
    point_now None before here was own now =
        now ∙ point_here (alarm_in points s)
        ∙ ap (option_and_then point_of) (ap (λ o. option_or o (option_map (λ u. let sighting : Sighting = record { run = n; cycle = u } in sighting) (alarm_in points s))) was
        ∙ sym (sighted_more (alarm_in points)))

    -- ONE RUN MORE
    pub latency_more : (l : Latency) (shows : RunShows) → IsShownBy points ftti s shows → IsLatencyOf c points ftti runs x n l → IsLatencyOf c points ftti runs x (n + 1) (latency_after l n shows)
    latency_more l shows by before =
        let xs : List Shown = shown_first c runs x n in
        record {
          dangerous = ap₂ (λ a b. a || b) before.dangerous by.late ∙ sym (ap (danger_by points ftti) shown_more ∙ one_more _ xs s);
          noticed = ap₂ (λ a b. a || b) before.noticed by.noticed ∙ sym (ap (notice_by points) shown_more ∙ one_more _ xs s);
          reached = sighted_now (reach_in points) l.reached shows.reached before.reached by.reached;
          alarmed = sighted_now (alarm_in points) l.alarmed shows.alarm before.alarmed by.alarm;
          point = point_now l.alarmed l.point shows.point before.alarmed before.point by.point;
          interval =
              ap₂ longer before.interval by.interval
              ∙ sym (ap (interval_by points) shown_more ∙ ap longest (map-append (interval_in points) xs (s ∷ [])) ∙ longest_push (map (interval_in points) xs) (interval_in points s));
        }
