-- The table of faults: a row for each fault of the kept batches, in the order of the fault list. This project's own columns.
use Rattle.std.specs.Prelude.{ℕ, ◌/◌, ◌%◌, List, [], ◌∷◌, ◌++◌, map, flat_map, Some, None, if◌then◌else◌, codes, decimal}
use Rattle.std.specs.List.{join_with_byte}
use Rattle.std.specs.Str.{byte}
use Rattle.circuit.specs.declared.parts.Fault.TheVariants.{Stuck, Flip, Pulse}
use Rattle.circuit.specs.Names.{net_name}
use Rattle.fm_base.specs.Lists.{below}
use Rattle.fm_base.specs.Names.{Bytes}
use Rattle.fm_base.specs.Planes.{lanes, bit}
use Rattle.fm_base.specs.Text.{whole_line}
use Rattle.fault_list.specs.Faults.{fault_name, net_of_fault}
use Rattle.campaign_plan.specs.declared.Outcome.{Outcome}
use Rattle.campaign_plan.specs.Analysis.{Analysis, fault_count, fault_numbered, part_numbered, part_of}
use Rattle.campaign_plan.specs.Batches.{Entry, class_in_lane}
use Rattle.campaign_plan.specs.Weights.{weight}
use Rattle.metric_sums.specs.Words.{role_word, class_word}
use Rattle.result_merge.specs.Union.{found}
use Rattle.campaign_tables.specs.Csv.{csv_field}

-- the CSV row of fault i, where its batch has these planes: the class is the report's, the weight is in units of 10^-6 FIT
unfoldable pub fault_row : Analysis → Outcome → ℕ → Bytes
fault_row p planes i =
    let fault = fault_numbered p i in
    let part = part_numbered p (part_of p fault) in
    let kind : Bytes = elim fault [ Stuck n value ↦ codes "stuck-at" | Flip latch cycle ↦ codes "flip" | Pulse n cycle ↦ codes "pulse" ] in
    let in_plane : ℕ → Bytes = λ plane. if bit plane (i % lanes) then codes "1" else codes "0" in
    join_with_byte (byte ",") (map csv_field (
    fault_name p.circuit fault ∷ net_name p.circuit (net_of_fault p.circuit fault) ∷ kind ∷ part.name ∷ role_word part.role
    ∷ (if part.covered then codes "yes" else codes "no") ∷ class_word (class_in_lane p (i / lanes) planes (i % lanes))
    ∷ in_plane planes.danger ∷ in_plane planes.noticed ∷ decimal (weight p i) ∷ [])) ++ 10 ∷ []

-- THE TABLE of the faults of these batches: the names of the columns, and a row for each fault, in list order
unfoldable pub fault_table : Analysis → List Entry → Bytes
fault_table p entries =
    whole_line (codes "fault,net,kind,part,role,covered,class,dangerous,noticed,weight")
    ++ flat_map (λ i. elim (found entries (i / lanes)) [ Some planes ↦ fault_row p planes i | None ↦ [] ]) (below (fault_count p))
