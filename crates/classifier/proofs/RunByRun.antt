-- The planes of one run more, and of none.
use Rattle.std.proofs.Common.{◌≡◌, ℕ, ◌^◌, ◌<◌, Bool, true, false, ◌||◌, List, [], ◌∷◌, ◌++◌, inl, inr, refl, ap, sym, ◌∙◌, arith}
use Rattle.std.proofs.lemmas.Bool.{or_left, true≢false}
use Rattle.std.proofs.lemmas.Nat.{pow_pos}
use Rattle.std.proofs.lemmas.List.Folds.{list_any-append}
use Rattle.circuit.specs.declared.parts.Fault.{Fault}
use Rattle.circuit.specs.Circuit.{Circuit}
use Rattle.workload.specs.declared.run.Kind.{Kind}
use Rattle.workload.specs.declared.run.Kind.TheVariants.{Mission, Test}
use Rattle.workload.specs.declared.run.Run.{Run}
use Rattle.workload.specs.Runs.{cycles_of, is_mission}
use Rattle.alarm_points.specs.declared.Goal.{Goal}
use Rattle.alarm_points.specs.Interval.{goes_unalarmed, interval_of}
use Rattle.alarm_points.specs.declared.Points.{Points}
use Rattle.alarm_points.proofs.Planes.{bit_of_none}
use Rattle.fm_base.specs.Planes.{bit}
use Rattle.campaign_plan.specs.declared.Outcome.{Outcome}
use Rattle.campaign_plan.specs.Danger.{differs, is_dangerous, is_dangerous_in, is_noticed, is_noticed_in, is_raised}
use Rattle.fm_base.proofs.Tests.{and_both, or_cases}
use Rattle.classifier.specs.Planes.{HasPlanes}
use Rattle.classifier.specs.OutOfReach.{AreOutOfReach, IsDeaf, IsDecidedBy, IsHarmless}
use Rattle.classifier.specs.Seen.{Begins, is_decided}
use Rattle.classifier.specs.declared.decided.Decided.{Decided}
use Rattle.classifier.specs.declared.reached.OutOfReach.{OutOfReach}
use Rattle.classifier.proofs.BareLanes.{bare_harmless, deaf_in, harmless_in}
use Rattle.classifier.proofs.Ends.{list_any_nowhere}
use Rattle.std.proofs.Math.Bool.{or-false}

pub danger_more : (c : Circuit) (points : Points) (ftti : ℕ) (runs : List Run) (run : Run) (faults : List Fault)
    → is_dangerous c points ftti (runs ++ run ∷ []) faults ≡ (is_dangerous c points ftti runs faults || is_dangerous_in c points ftti faults run)
unfolding is_dangerous goes_unalarmed
danger_more c points ftti runs run faults =
    let test = is_dangerous_in c points ftti faults in
    list_any-append test runs (run ∷ []) ∙ ap (λ b. is_dangerous c points ftti runs faults || b) (or-false (test run))

pub notice_more : (c : Circuit) (points : Points) (runs : List Run) (run : Run) (faults : List Fault)
    → is_noticed c points (runs ++ run ∷ []) faults ≡ (is_noticed c points runs faults || is_noticed_in c points faults run)
unfolding is_noticed
notice_more c points runs run faults =
    let test = is_noticed_in c points faults in
    list_any-append test runs (run ∷ []) ∙ ap (λ b. is_noticed c points runs faults || b) (or-false (test run))

no_danger : (c : Circuit) (points : Points) (ftti : ℕ) (faults : List Fault) → is_dangerous c points ftti [] faults ≡ false
unfolding is_dangerous
no_danger c points ftti faults = refl

no_notice : (c : Circuit) (points : Points) (faults : List Fault) → is_noticed c points [] faults ≡ false
unfolding is_noticed
no_notice c points faults = refl

-- a lane begins with faults that show no more than those it was loaded with, in what is still open
danger_same : (c : Circuit) (points : Points) (ftti : ℕ) (run : Run) (loaded x : List Fault) (old : Outcome) (reach : OutOfReach) (decided : Decided) (k : ℕ)
    → IsDecidedBy old reach decided → (bit reach.observation k ≡ true → IsHarmless c points loaded) → Begins run.kind decided k loaded x
    → (bit old.danger k || is_dangerous_in c points ftti x run) ≡ (bit old.danger k || is_dangerous_in c points ftti loaded run)
danger_same c points ftti run loaded x old reach decided k is beyond (inl same) = ap (λ fs. bit old.danger k || is_dangerous_in c points ftti fs run) same
danger_same c points ftti run loaded x old reach decided k is beyond (inr out) =
    ap (λ fs. bit old.danger k || is_dangerous_in c points ftti fs run) out.1
    ∙ ap (λ b. bit old.danger k || b) (harmless_in c points ftti [] run (bare_harmless c points))
    ∙ by_kind run.kind refl out.0
  where
    unalarmed : Goal → Bool
    unalarmed goal = goes_unalarmed (interval_of ftti goal) (cycles_of run) (differs c goal loaded run) (is_raised c points loaded run)

    by_kind : (kind : Kind) → run.kind ≡ kind → is_decided kind decided k ≡ true → (bit old.danger k || false) ≡ (bit old.danger k || is_dangerous_in c points ftti loaded run)
    by_kind Mission e both =
        elim (or_cases (bit old.danger k) (bit reach.observation k) (sym (is.danger k) ∙ (and_both _ _ both).0)) [
          | inl danger ↦ or_left (bit old.danger k) false danger ∙ sym (or_left (bit old.danger k) (is_dangerous_in c points ftti loaded run) danger)
          | inr harmless ↦ sym (ap (λ b. bit old.danger k || b) (harmless_in c points ftti loaded run (beyond harmless)))
        ]
    by_kind Test e some =
        sym (ap (λ b. bit old.danger k || b) (list_any_nowhere (is_mission run.kind) unalarmed points.goals (ap is_mission e)))

-- what is decided of notice
notice_decided : (kind : Kind) (decided : Decided) (k : ℕ) → is_decided kind decided k ≡ true → bit decided.notice k ≡ true
notice_decided Mission decided k both = (and_both _ _ both).1
notice_decided Test decided k is = is

notice_same : (c : Circuit) (points : Points) (run : Run) (loaded x : List Fault) (old own : Outcome) (reach : OutOfReach) (decided : Decided) (k : ℕ)
    → IsDecidedBy old reach decided → (bit reach.alarm k ≡ true → IsDeaf c points loaded) → Begins run.kind decided k loaded x
    → (bit decided.notice k ≡ false → bit own.noticed k ≡ is_noticed_in c points x run) → (bit decided.notice k ≡ true → bit own.noticed k ≡ false)
    → (bit old.noticed k || bit own.noticed k) ≡ (bit old.noticed k || is_noticed_in c points loaded run)
notice_same c points run loaded x old own reach decided k is beyond begins shows hides = by_known (bit decided.notice k) refl
  where
    by_known : (b : Bool) → bit decided.notice k ≡ b → (bit old.noticed k || bit own.noticed k) ≡ (bit old.noticed k || is_noticed_in c points loaded run)
    by_known true known =
        elim (or_cases (bit old.noticed k) (bit reach.alarm k) (sym (is.notice k) ∙ known)) [
          | inl noticed ↦ or_left (bit old.noticed k) (bit own.noticed k) noticed ∙ sym (or_left (bit old.noticed k) (is_noticed_in c points loaded run) noticed)
          | inr out ↦ ap (λ b. bit old.noticed k || b) (hides known ∙ sym (deaf_in c points loaded run (beyond out)))
        ]
    by_known false free =
        elim begins [
          | inl same ↦ ap (λ b. bit old.noticed k || b) (shows free ∙ ap (λ fs. is_noticed_in c points fs run) same)
          | inr out ↦ absurd (true≢false (sym (notice_decided run.kind decided k out.0) ∙ free))
        ]

-- ONE RUN MORE, in which lanes that are decided may have no faults
pub planes_more : (c : Circuit) (points : Points) (ftti : ℕ) (runs : List Run) (run : Run) (faults followed : ℕ → List Fault) (old own new : Outcome) (reach : OutOfReach) (decided : Decided)
    → HasPlanes c points ftti runs faults old
    → AreOutOfReach c points faults reach → IsDecidedBy old reach decided
    → ((k : ℕ) → k < 64 → Begins run.kind decided k (faults k) (followed k))
    → ((k : ℕ) → k < 64 → bit own.danger k ≡ is_dangerous_in c points ftti (followed k) run)
    → ((k : ℕ) → k < 64 → bit decided.notice k ≡ false → bit own.noticed k ≡ is_noticed_in c points (followed k) run)
    → ((k : ℕ) → k < 64 → bit decided.notice k ≡ true → bit own.noticed k ≡ false)
    → ((k : ℕ) → bit new.danger k ≡ (bit old.danger k || bit own.danger k))
    → ((k : ℕ) → bit new.noticed k ≡ (bit old.noticed k || bit own.noticed k))
    → (new.danger < 2 ^ 64) × (new.noticed < 2 ^ 64)
    → HasPlanes c points ftti (runs ++ run ∷ []) faults new
planes_more c points ftti runs run faults followed old own new reach decided before beyond is begins danger noticed known either also fits = record {
  fits = fits;
  danger = λ k lane.
      either k ∙ ap (λ b. bit old.danger k || b) (danger k lane)
      ∙ danger_same c points ftti run (faults k) (followed k) old reach decided k is (beyond.observation k lane) (begins k lane)
      ∙ ap (λ b. b || is_dangerous_in c points ftti (faults k) run) (before.danger k lane) ∙ sym (danger_more c points ftti runs run (faults k));
  noticed = λ k lane.
      also k ∙ notice_same c points run (faults k) (followed k) old own reach decided k is (beyond.alarm k lane) (begins k lane) (noticed k lane) (known k lane)
      ∙ ap (λ b. b || is_noticed_in c points (faults k) run) (before.noticed k lane) ∙ sym (notice_more c points runs run (faults k));
}

pub planes_none : (c : Circuit) (points : Points) (ftti : ℕ) (faults : ℕ → List Fault) → HasPlanes c points ftti [] faults (record { danger = 0; noticed = 0 })
planes_none c points ftti faults = record {
  fits = (omega (arith, pow_pos 64), omega (arith, pow_pos 64));
  danger = λ k lane. bit_of_none k ∙ sym (no_danger c points ftti (faults k));
  noticed = λ k lane. bit_of_none k ∙ sym (no_notice c points (faults k));
}
