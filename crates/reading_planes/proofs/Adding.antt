-- One run more, by what it shows.
use Rattle.std.proofs.Common.{◌≡◌, ℕ, ◌^◌, ◌<◌, Bool, true, false, ◌&&◌, ◌||◌, List, [], ◌∷◌, ◌++◌, map, refl, ap, ap₂, sym, ◌∙◌}
use Rattle.std.specs.List.{list_any}
use Rattle.std.proofs.Math.Bool.{or-false}
use Rattle.std.proofs.lemmas.List.{map-append}
use Rattle.std.proofs.lemmas.List.Folds.{list_any-append}
use Rattle.circuit.specs.declared.parts.Fault.{Fault}
use Rattle.circuit.specs.Circuit.{Circuit}
use Rattle.fm_base.specs.Planes.{bit}
use Rattle.workload.specs.declared.run.Run.{Run}
use Rattle.workload.specs.Runs.{is_mission}
use Rattle.alarm_points.specs.Interval.{interval_of}
use Rattle.alarm_points.specs.declared.Points.{Points}
use Rattle.campaign_plan.specs.declared.Outcome.{Outcome}
use Rattle.campaign_plan.specs.Danger.{is_dangerous, is_noticed}
use Rattle.classifier.specs.Planes.{HasPlanes}
use Rattle.first_cycles.specs.FirstCycles.{comes_late, earliest}
use Rattle.first_cycles.specs.Shown.{Shown, shown_in}
use Rattle.first_cycles.proofs.Dangers.{danger_shown}
use Rattle.first_cycles.proofs.Notices.{notice_shown}
use Rattle.reading_planes.specs.Folded.{gives_notice, is_late}

any_false : {X : Type 0} (p : X → Bool) (xs : List X) → list_any (λ x. false && p x) xs ≡ false
any_false p [] = refl
any_false p (x ∷ xs) = any_false p xs

and_any : {X : Type 0} (m : Bool) (p : X → Bool) (xs : List X) → list_any (λ x. m && p x) xs ≡ (m && list_any p xs)
and_any true p xs = refl
and_any false p xs = any_false p xs

-- some of one item more
one_more : {X : Type 0} (test : Shown → Bool) (show : X → Shown) (xs : List X) (x : X) → list_any test (map show (xs ++ x ∷ [])) ≡ (list_any test (map show xs) || test (show x))
one_more test show xs x =
    ap (list_any test) (map-append show xs (x ∷ [])) ∙ list_any-append test (map show xs) (show x ∷ []) ∙ ap (λ b. list_any test (map show xs) || b) (or-false (test (show x)))

danger_more : (c : Circuit) (points : Points) (ftti : ℕ) (runs : List Run) (run : Run) (x : List Fault)
    → is_dangerous c points ftti (runs ++ run ∷ []) x ≡ (is_dangerous c points ftti runs x || (is_mission run.kind && is_late points ftti (shown_in c x run)))
danger_more c points ftti runs run x =
    danger_shown c points ftti (runs ++ run ∷ []) x
    ∙ one_more (λ s. list_any (λ goal. is_mission s.kind && comes_late (interval_of ftti goal) (s.difference goal) (earliest (map s.alarm points.alarm))) points.goals) (shown_in c x) runs run
    ∙ ap₂ (λ a b. a || b) (sym (danger_shown c points ftti runs x))
    (and_any (is_mission run.kind) (λ goal. comes_late (interval_of ftti goal) ((shown_in c x run).difference goal) (earliest (map (shown_in c x run).alarm points.alarm))) points.goals)

notice_more : (c : Circuit) (points : Points) (runs : List Run) (run : Run) (x : List Fault)
    → is_noticed c points (runs ++ run ∷ []) x ≡ (is_noticed c points runs x || list_any (gives_notice (shown_in c x run)) points.alarm)
notice_more c points runs run x =
    notice_shown c points (runs ++ run ∷ []) x ∙ one_more (λ s. list_any (gives_notice s) points.alarm) (shown_in c x) runs run
    ∙ ap (λ b. b || list_any (gives_notice (shown_in c x run)) points.alarm) (sym (notice_shown c points runs x))

-- ONE RUN MORE
pub run_more : (c : Circuit) (points : Points) (ftti : ℕ) (runs : List Run) (run : Run) (faults : ℕ → List Fault) (old new : Outcome)
    → (new.danger < 2 ^ 64) × (new.noticed < 2 ^ 64)
    → ((k : ℕ) → k < 64 → bit new.danger k ≡ (bit old.danger k || (is_mission run.kind && is_late points ftti (shown_in c (faults k) run))))
    → ((k : ℕ) → k < 64 → bit new.noticed k ≡ (bit old.noticed k || list_any (gives_notice (shown_in c (faults k) run)) points.alarm))
    → HasPlanes c points ftti runs faults old → HasPlanes c points ftti (runs ++ run ∷ []) faults new
run_more c points ftti runs run faults old new fits danger noticed before = record {
  fits = fits;
  danger = λ k lane.
      danger k lane ∙ ap (λ b. b || (is_mission run.kind && is_late points ftti (shown_in c (faults k) run))) (before.danger k lane)
      ∙ sym (danger_more c points ftti runs run (faults k));
  noticed = λ k lane.
      noticed k lane ∙ ap (λ b. b || list_any (gives_notice (shown_in c (faults k) run)) points.alarm) (before.noticed k lane) ∙ sym (notice_more c points runs run (faults k));
}
