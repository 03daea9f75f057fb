-- The planes of all batches, where some batches are kept and the others are missing, as the laws and private contracts name them: steps of
-- `progress`.
use Rattle.std.specs.Prelude.{◌≡◌, ℕ, ◌&&◌, not, Bool, List, Some, unwrap_or}
use Rattle.metric_sums.specs.Classes.{is_mechanism}
use Rattle.fm_base.specs.Planes.{plane_of}
use Rattle.fault_list.specs.Faults.{fault_number, is_used, used_plane}
use Rattle.campaign_plan.specs.declared.Outcome.{Outcome}
use Rattle.campaign_plan.specs.Analysis.{Analysis, fault_count, fault_numbered, part_numbered, part_of}
use Rattle.campaign_plan.specs.Batches.{Entry}
use Rattle.result_file.specs.RowPlanes.{Planes}
use Rattle.result_merge.specs.Union.{found}
use Rattle.metric_bounds.specs.declared.End.{End}
use Rattle.metric_bounds.specs.declared.End.TheVariants.{Best, Worst, MostLatent}

-- each kept batch has the planes that are kept of it; a missing one may have any
abbrev pub AgreeWith : List Entry → Planes → Type 0
AgreeWith entries planes = (batch : ℕ) (own : Outcome) → found entries batch ≡ Some own → planes batch ≡ own

-- AT BEST each fault of a missing batch is noticed, and none is dangerous. AT WORST each is dangerous. MOST LATENT they are where a
-- fault of a mechanism is neither dangerous nor noticed, and each other one is dangerous
abbrev pub planes_when_missing : Analysis → End → Planes
planes_when_missing p Best batch = record { danger = 0; noticed = used_plane (fault_count p) batch }
planes_when_missing p Worst batch = record { danger = used_plane (fault_count p) batch; noticed = 0 }
planes_when_missing p MostLatent batch =
    let is_on_mechanism : ℕ → Bool = λ i. is_mechanism (part_numbered p (part_of p (fault_numbered p i))).role in
    let dangerous : ℕ → Bool = λ lane. is_used (fault_count p) batch lane && not (is_on_mechanism (fault_number batch lane)) in
    record { danger = plane_of dangerous; noticed = 0 }

-- the planes of all batches at an end: those that are kept, and for a missing batch those of the end
abbrev pub planes_at_end : Analysis → List Entry → End → Planes
planes_at_end p entries end batch = unwrap_or (found entries batch) (planes_when_missing p end batch)
