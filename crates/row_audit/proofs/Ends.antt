-- What the windows say at the end of a run, and the planes of one run more.
use Rattle.std.proofs.Common.{◌≡◌, ℕ, ◌^◌, ◌<◌, ◌≤◌, ◌⊎◌, inl, inr, Bool, ◌||◌, List, [], ◌∷◌, ◌++◌, length, ap, sym, ◌∙◌, subst, arith}
use Rattle.std.proofs.lemmas.Bool.{cases_lt}
use Rattle.circuit.specs.declared.parts.Fault.{Fault}
use Rattle.circuit.specs.Circuit.{Circuit}
use Rattle.workload.specs.declared.run.Run.{Run}
use Rattle.workload.specs.Runs.{cycles_of}
use Rattle.alarm_points.specs.declared.Goal.{Goal}
use Rattle.alarm_points.specs.declared.Points.{Points}
use Rattle.alarm_points.specs.Interval.{goes_unalarmed, interval_of}
use Rattle.alarm_points.specs.Watch.{IsAfterPairs, Pair, differs_in, lane_goes_unalarmed, raised_in, window_at}
use Rattle.alarm_points.proofs.Settled.{goes_unalarmed-same, some_below-same}
use Rattle.fm_base.specs.Lists.{some_below}
use Rattle.fm_base.specs.Planes.{bit}
use Rattle.std.specs.List.{list_any}
use Rattle.campaign_plan.specs.declared.Outcome.{Outcome}
use Rattle.campaign_plan.specs.Danger.{differs, is_dangerous_in, is_noticed_in, is_raised}
use Rattle.classifier.specs.Planes.{HasPlanes}
use Rattle.classifier.proofs.Ends.{some_item}
use Rattle.classifier.proofs.RunByRun.{danger_more, notice_more}
use Rattle.classifier.proofs.WindowCounts.{interval_at, window_count}
use Rattle.row_audit.specs.declared.watcher.Watcher.{Watcher}
use Rattle.row_audit.specs.Watched.{HasWatched, HaveWatched}
use Rattle.testbench.specs.Points.{goal_at}

module _ (c : Circuit) (points : Points) (run : Run) (faults : ℕ → List Fault) (w : Watcher) (k : ℕ) (lane : k < 64)
    (seen : HaveWatched c points run faults (cycles_of run) w) where
  abbrev by_goal : Goal → Bool
  by_goal goal = goes_unalarmed (interval_of w.windows.ftti goal) (cycles_of run) (differs c goal (faults k) run) (is_raised c points (faults k) run)

  count : length w.windows.windows ≡ length points.goals
  count = window_count points w.windows seen.made

  -- the pairs of each window; none behind the last
  pairs_by : (g : ℕ) → (g < length points.goals) ⊎ (length points.goals ≤ g) → List Pair
  pairs_by g (inl lt) = (seen.seen g lt).pairs
  pairs_by g (inr ge) = []

  abbrev pairs : ℕ → List Pair
  pairs g = pairs_by g (cases_lt g (length points.goals))

  after_by : (g : ℕ) → g < length points.goals → (which : (g < length points.goals) ⊎ (length points.goals ≤ g)) → IsAfterPairs (pairs_by g which) (window_at w.windows g)
  unfolding pairs_by
  after_by g lt (inl also) = (seen.seen g also).after
  after_by g lt (inr ge) = absurd (omega (arith, lt, ge))

  -- what goes unalarmed in a window of a goal
  says_by : (g : ℕ) → g < length points.goals → (which : (g < length points.goals) ⊎ (length points.goals ≤ g))
      → lane_goes_unalarmed (window_at w.windows g).ftti (pairs_by g which) k ≡ by_goal (goal_at points.goals g)
  unfolding pairs_by
  says_by g lt (inl also) =
      let own : HasWatched c points run faults (goal_at points.goals g) (cycles_of run) (window_at w.windows g) = seen.seen g also in
      let ftti = (window_at w.windows g).ftti in
      ap (λ n. goes_unalarmed ftti n (differs_in own.pairs k) (raised_in own.pairs k)) own.count
      ∙ goes_unalarmed-same ftti (cycles_of run) (differs_in own.pairs k) (differs c (goal_at points.goals g) (faults k) run) (raised_in own.pairs k)
      (is_raised c points (faults k) run) (λ t less. own.differ k t lane less) (λ t less. own.raise k t lane less)
      ∙ ap (λ f. goes_unalarmed f (cycles_of run) (differs c (goal_at points.goals g) (faults k) run) (is_raised c points (faults k) run))
      (interval_at points w.windows g seen.made lt)
  says_by g lt (inr ge) = absurd (omega (arith, lt, ge))

  -- what goes unalarmed in a lane for some goal
  pub end_says : (plane : ℕ)
      → ((ps : ℕ → List Pair) (j : ℕ) → ((g : ℕ) → g < length w.windows.windows → IsAfterPairs (ps g) (window_at w.windows g)) → j < 64
      → bit plane j ≡ some_below (length w.windows.windows) (λ g. lane_goes_unalarmed (window_at w.windows g).ftti (ps g) j))
      → bit plane k ≡ list_any by_goal points.goals
  end_says plane says =
      let within : (g : ℕ) → g < length w.windows.windows → g < length points.goals = λ g lt. subst (λ n. g < n) count lt in
      says pairs k (λ g lt. after_by g (within g lt) (cases_lt g (length points.goals))) lane
      ∙ some_below-same (length w.windows.windows) _ (λ g. by_goal (goal_at points.goals g)) (λ g lt. says_by g (within g lt) (cases_lt g (length points.goals)))
      ∙ ap (λ n. some_below n (λ g. by_goal (goal_at points.goals g))) count
      ∙ some_item by_goal points.goals (goal_at [] 0)

-- one run more
pub adds_run : (c : Circuit) (points : Points) (ftti : ℕ) (runs : List Run) (run : Run) (faults : ℕ → List Fault) (old own new : Outcome)
    → HasPlanes c points ftti runs faults old
    → ((k : ℕ) → k < 64 → bit own.danger k ≡ is_dangerous_in c points ftti (faults k) run)
    → ((k : ℕ) → k < 64 → bit own.noticed k ≡ is_noticed_in c points (faults k) run)
    → ((k : ℕ) → bit new.danger k ≡ (bit old.danger k || bit own.danger k))
    → ((k : ℕ) → bit new.noticed k ≡ (bit old.noticed k || bit own.noticed k))
    → (new.danger < 2 ^ 64) × (new.noticed < 2 ^ 64)
    → HasPlanes c points ftti (runs ++ run ∷ []) faults new
adds_run c points ftti runs run faults old own new before danger noticed either also fits = record {
  fits = fits;
  danger = λ k lane.
      either k ∙ ap (λ b. bit old.danger k || b) (danger k lane)
      ∙ ap (λ b. b || is_dangerous_in c points ftti (faults k) run) (before.danger k lane) ∙ sym (danger_more c points ftti runs run (faults k));
  noticed = λ k lane.
      also k ∙ ap (λ b. bit old.noticed k || b) (noticed k lane)
      ∙ ap (λ b. b || is_noticed_in c points (faults k) run) (before.noticed k lane) ∙ sym (notice_more c points runs run (faults k));
}
