-- The planes of a plan are those by what its runs show.
use Rattle.std.proofs.Common.{◌≡◌, ◌&&◌, [], ◌∷◌}
use Rattle.fm_base.specs.Planes.{plane_of}
use Rattle.fault_list.specs.Faults.{fault_at, fault_number, is_used}
use Rattle.campaign_plan.specs.Analysis.{Analysis, all_faults, fault_count}
use Rattle.campaign_plan.specs.Batches.{outcome_of, true_planes}
use Rattle.first_cycles.specs.Laws.{PlanesAreShown}
use Rattle.first_cycles.specs.Shown.{planes_by, shown_of}
use Rattle.first_cycles.proofs.Dangers.{danger_shown}
use Rattle.first_cycles.proofs.Notices.{notice_shown}

-- THE TRUE PLANES
pub planes_shown : PlanesAreShown
unfolding outcome_of
planes_shown p batch = λ i. record {
  danger = plane_of (λ k. is_used (fault_count p) batch k && danger_shown p.circuit p.points p.settings.ftti p.runs (fault_at (all_faults p) (fault_number batch k) ∷ []) i);
  noticed = plane_of (λ k. is_used (fault_count p) batch k && notice_shown p.circuit p.points p.runs (fault_at (all_faults p) (fault_number batch k) ∷ []) i);
}

-- those of all batches
pub all_shown : (p : Analysis) → true_planes p ≡ planes_by (shown_of p) p
all_shown p = λ i batch. planes_shown p batch i
