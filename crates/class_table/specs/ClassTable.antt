-- The text of `classes`.
use Rattle.std.specs.Prelude.{[], ◌∷◌, ◌++◌, flat_map, codes, decimal}
use Rattle.fm_base.specs.Lists.{below}
use Rattle.fm_base.specs.Names.{Bytes}
use Rattle.fm_base.specs.Text.{line}
use Rattle.fault_list.specs.Faults.{fault_name}
use Rattle.campaign_plan.specs.Analysis.{Analysis, fault_count, fault_numbered}
use Rattle.campaign_plan.specs.Batches.{class_of_fault, true_planes}
use Rattle.metric_sums.specs.Words.{class_word}

-- each fault's name and class, and the number of faults
unfoldable pub classes_text : Analysis → Bytes
classes_text p =
    flat_map (λ i. line (fault_name p.circuit (fault_numbered p i) ∷ class_word (class_of_fault p (true_planes p) i) ∷ []))
    (below (fault_count p))
    ++ line (codes "end" ∷ decimal (fault_count p) ∷ [])
