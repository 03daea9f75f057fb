-- The evidence of each fault of a list, by tables of planes and by two bits of each fault.
use Rattle.std.specs.Prelude.{◌≡◌, ◌<◌, ℕ, ◌/◌, ◌%◌, Bool, List, []}
use Rattle.circuit.specs.Value.{bit_at}
use Rattle.fm_base.specs.Planes.{bit}
use Rattle.campaign_plan.specs.declared.Outcome.{Outcome}
use Rattle.campaign_plan.specs.Analysis.{Analysis, fault_count, fault_numbered}
use Rattle.classifier.specs.Planes.{outcome_at}
use Rattle.readings.specs.Breakdown.{with_alarms}
use Rattle.readings.specs.Latencies.{is_excited}
use Rattle.coverage.specs.Evidence.{evidence_of, may_reach}
use Rattle.coverage.specs.declared.Evidence.{Evidence}
use Rattle.metric_coverage.specs.Planes.{IsPlaneTable}

-- that of a fault, where `path` and `excited` have a bit for each, and the tables are those of a plan and of it without alarms
abbrev pub evidence_by : (planes bare : List Outcome) → (path excited : List Bool) → ℕ → Evidence
evidence_by planes bare path excited i =
    evidence_of (bit_at path i) (bit (outcome_at planes (i / 64)).danger (i % 64)) (bit (outcome_at bare (i / 64)).danger (i % 64)) (bit_at excited i)
    (bit (outcome_at planes (i / 64)).noticed (i % 64))

-- the tables and the bits are those of a plan
pub record AreToldOf (q : Analysis) (planes bare : List Outcome) (path excited : List Bool) : Type 0 where
  pub own : IsPlaneTable q planes
  pub without_alarms : IsPlaneTable (with_alarms q []) bare
  pub reaches : (i : ℕ) → i < fault_count q → bit_at path i ≡ may_reach q (fault_numbered q i)
  pub tried : (i : ℕ) → i < fault_count q → bit_at excited i ≡ is_excited q (fault_numbered q i)
