use Rattle.std.proofs.Common.{◌≡◌, ℕ, Bool, List, [], false, length, take, ap, ap₂, sym, ◌∙◌, arith}
use Rattle.std.proofs.lemmas.List.{length-take-le}
use Rattle.circuit.specs.declared.parts.Fault.{Fault}
use Rattle.circuit.specs.Circuit.{Circuit}
use Rattle.circuit.specs.Trace.{first_state}
use Rattle.circuit.specs.Value.{bit_at}
use Rattle.circuit.proofs.Steps.{raw_state-zero}
use Rattle.lane_words.specs.Bits.{either}
use Rattle.lane_words.specs.Loads.{loaded_faults}
use Rattle.golden_difference.specs.Beside.{state_differs}
use Rattle.golden_difference.proofs.Exclusive.{either_same}
use Rattle.fault_runs.specs.First.{fault_in}
use Rattle.fault_runs.proofs.start.start_run.Goals as goal

-- before the first cycle no latch differs
none_differs : (c : Circuit) (x : List Fault) (vectors : List (List Bool)) (n l : ℕ) → n ≡ 0 → state_differs c x vectors n l ≡ false
none_differs c x vectors n l none =
    ap (λ m. state_differs c x vectors m l) none
    ∙ ap₂ (λ (a b : List Bool). either (bit_at a l) (bit_at b l)) (raw_state-zero c x vectors) (raw_state-zero c [] vectors) ∙ either_same (bit_at (first_state c) l)

pub returns-clause-stand : goal.returns-clause-stand
returns-clause-stand c = λ circuit points run draw group fit inside k lt.
    let i = fault_in group k in
    record {
      latches = λ latch within.
          c.clear_states.ensures.none i latch (inside k 0 lt)
          ∙ sym (none_differs circuit (loaded_faults draw i) (take 0 run.vectors) (length (take 0 run.vectors)) latch (length-take-le 0 run.vectors (omega arith)));
      shown = c.start.ensures.nothing circuit points run (loaded_faults draw i) i fit;
    }
