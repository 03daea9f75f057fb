-- The fault that a place of a group holds, and the latency of a plan's fault.
use Rattle.std.proofs.Common.{◌≡◌, ℕ, ◌+◌, ◌*◌, ◌/◌, ◌%◌, ◌<◌, true, List, [], ◌∷◌, length, Some, None, ap, subst, ◌∙◌, arith}
use Rattle.std.specs.Prelude.{if◌then◌else◌}
use Rattle.std.proofs.lemmas.Bool.{lt-ltb}
use Rattle.circuit.specs.declared.parts.Fault.{Fault}
use Rattle.circuit.specs.Circuit.{Circuit}
use Rattle.fault_list.specs.Faults.{fault_at, fault_in_lane, fault_number, is_used}
use Rattle.lane_words.specs.Loads.{somes}
use Rattle.workload.specs.declared.run.Run.{Run}
use Rattle.alarm_points.specs.declared.Points.{Points}
use Rattle.campaign_plan.specs.Analysis.{Analysis}
use Rattle.testbench.specs.Testbench.{IsTestbenchFor, Testbench}
use Rattle.latency_table.specs.declared.latency.Latency.{Latency}
use Rattle.latency_table.specs.Latency.{IsLatencyOf}

-- its number
pub number_is : (first lane : ℕ) → fault_number (first + lane / 64 * 1) (lane % 64) ≡ first * 64 + lane
number_is first lane = omega arith

-- a place of a group holds the fault of its number
pub holds_fault : (faults : List Fault) (first lane : ℕ) → first * 64 + lane < length faults
    → somes (fault_in_lane faults (Some (first + lane / 64 * 1)) (lane % 64) ∷ []) ≡ fault_at faults (first * 64 + lane) ∷ []
holds_fault faults first lane lt =
    let number = number_is first lane in
    let used : is_used (length faults) (first + lane / 64 * 1) (lane % 64) ≡ true = lt-ltb (fault_number (first + lane / 64 * 1) (lane % 64)) (length faults) (omega (arith, number, lt)) in
    ap (λ b. somes ((if b then Some (fault_at faults (fault_number (first + lane / 64 * 1) (lane % 64))) else None) ∷ [])) used
    ∙ ap (λ n. fault_at faults n ∷ []) number

-- on a testbench of the plan
pub of_plan : (p : Analysis) (bench : Testbench) (ftti : ℕ) (x y : List Fault) (l : Latency) → IsTestbenchFor p bench → x ≡ y
    → IsLatencyOf bench.circuit bench.points ftti bench.runs x (length bench.runs) l → IsLatencyOf p.circuit p.points ftti p.runs y (length p.runs) l
of_plan p bench ftti x y l is same kept =
    subst (λ (c : Circuit). IsLatencyOf c p.points ftti p.runs y (length p.runs) l) is.circuit
    (subst (λ (points : Points). IsLatencyOf bench.circuit points ftti p.runs y (length p.runs) l) is.points
    (subst (λ (runs : List Run). IsLatencyOf bench.circuit bench.points ftti runs y (length runs) l) is.runs
    (subst (λ (faults : List Fault). IsLatencyOf bench.circuit bench.points ftti bench.runs faults (length bench.runs) l) same kept)))
