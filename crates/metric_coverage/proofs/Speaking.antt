-- The evidence by tables of planes is that of the plan.
use Rattle.std.proofs.Common.{◌≡◌, ◌∙◌, sym, ℕ, ◌/◌, ◌%◌, ◌<◌, Bool, List}
use Rattle.fm_base.specs.Planes.{bit}
use Rattle.campaign_plan.specs.declared.Outcome.{Outcome}
use Rattle.campaign_plan.specs.Analysis.{Analysis, fault_count}
use Rattle.coverage.specs.Evidence.{evidence_of}
use Rattle.coverage.specs.Laws.{EvidenceIsByPlanes, spoken}
use Rattle.metric_coverage.specs.Spoken.{AreToldOf, evidence_by}

pub speaks : EvidenceIsByPlanes → (q : Analysis) (planes bare : List Outcome) (path excited : List Bool) → AreToldOf q planes bare path excited
    → (i : ℕ) → i < fault_count q → evidence_by planes bare path excited i ≡ spoken q i
speaks law q planes bare path excited told i lt =
    (λ j. evidence_of (told.reaches i lt j) (bit (told.own.planes j (i / 64)).danger (i % 64)) (bit (told.without_alarms.planes j (i / 64)).danger (i % 64))
    (told.tried i lt j) (bit (told.own.planes j (i / 64)).noticed (i % 64)))
    ∙ sym (law q i lt)
