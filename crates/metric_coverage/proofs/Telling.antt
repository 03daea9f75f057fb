-- The tables and the bits that are made are those of a reading.
use Rattle.std.proofs.Common.{◌≡◌, ◌∙◌, ℕ, ◌+◌, ◌*◌, ◌<◌, Bool, List, [], length, ap, subst, arith}
use Rattle.circuit.specs.Value.{bit_at}
use Rattle.campaign_plan.specs.declared.Outcome.{Outcome}
use Rattle.campaign_plan.specs.Analysis.{Analysis, batch_count, fault_count, fault_numbered}
use Rattle.readings.specs.Breakdown.{with_alarms}
use Rattle.readings.specs.Latencies.{is_excited}
use Rattle.reading_planes.specs.Folded.{reading_at}
use Rattle.reading_planes.specs.Readings.{PairsGivePlans, coverage_list, plan_by}
use Rattle.coverage.specs.Evidence.{may_reach}
use Rattle.metric_coverage.specs.Findings.{goal_plan, several}
use Rattle.metric_coverage.specs.Planes.{ArePlaneTables, IsPlaneTable, table_at}
use Rattle.metric_coverage.specs.Spoken.{AreToldOf}
use Rattle.metric_coverage.proofs.Pairing.{bare_listed, goal_listed, list_length}

module _ (law : PairsGivePlans) (p : Analysis) (tables : List (List Outcome)) (are : ArePlaneTables p (coverage_list p.points) tables) where
  -- a table of a reading that has this plan
  table_of : (r : ℕ) (q : Analysis) → r < 2 * length (several p) + 2 → plan_by p (reading_at (coverage_list p.points) r) ≡ q → IsPlaneTable q (table_at tables r)
  table_of r q lt same =
      subst (λ (own : Analysis). IsPlaneTable own (table_at tables r)) same (are.each r (omega (arith, lt, list_length p)))

  pub tables_count : length tables ≡ 2 * length (several p) + 2
  tables_count = are.count ∙ list_length p

  pub table_size : (r : ℕ) → r < 2 * length (several p) + 2 → length (table_at tables r) ≡ batch_count p
  table_size r lt = (are.each r (omega (arith, lt, list_length p))).count

  -- those of the plan itself
  pub whole_told : (path excited : List Bool) → ((i : ℕ) → i < fault_count p → bit_at path i ≡ may_reach p (fault_numbered p i))
      → ((i : ℕ) → i < fault_count p → bit_at excited i ≡ is_excited p (fault_numbered p i))
      → AreToldOf p (table_at tables 0) (table_at tables 1) path excited
  whole_told path excited reaches tried = record {
    own = table_of 0 p (omega arith) (law p 0).whole;
    without_alarms = table_of 1 (with_alarms p []) (omega arith) (law p 0).bare;
    reaches = reaches;
    tried = tried;
  }

  -- those of a goal alone
  pub goal_told : (g : ℕ) → g < length (several p) → (path excited : List Bool)
      → ((i : ℕ) → i < fault_count p → bit_at path i ≡ may_reach (goal_plan p g) (fault_numbered p i))
      → ((i : ℕ) → i < fault_count p → bit_at excited i ≡ is_excited p (fault_numbered p i))
      → AreToldOf (goal_plan p g) (table_at tables (2 * g + 2)) (table_at tables (2 * g + 3)) path excited
  goal_told g lt path excited reaches tried = record {
    own = table_of (2 * g + 2) (goal_plan p g) (omega (arith, lt)) (ap (plan_by p) (goal_listed p g lt) ∙ (law p g).goal);
    without_alarms = table_of (2 * g + 3) (with_alarms (goal_plan p g) []) (omega (arith, lt)) (ap (plan_by p) (bare_listed p g lt) ∙ (law p g).bare_goal);
    reaches = reaches;
    tried = tried;
  }
