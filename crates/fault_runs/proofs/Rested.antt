-- A fault at rest stands at the end of a stretch as before it.
use Rattle.std.proofs.Common.{◌≡◌, ℕ, ◌≤◌, Bool, List, [], take, drop, length, ap, ap₂, sym, ◌∙◌, arith}
use Rattle.std.proofs.lemmas.List.{length-take-le, take-append-drop}
use Rattle.circuit.specs.declared.parts.Fault.{Fault}
use Rattle.circuit.specs.Circuit.{Circuit}
use Rattle.circuit.specs.Trace.{raw_state}
use Rattle.circuit.specs.Value.{bit_at}
use Rattle.circuit.proofs.Cycles.{raw_state-append}
use Rattle.workload.specs.declared.run.Run.{Run}
use Rattle.workload.specs.Runs.{cycles_of}
use Rattle.alarm_points.specs.declared.Points.{Points}
use Rattle.alarm_points.specs.PointsKept.{ArePointsFor}
use Rattle.golden_difference.specs.Beside.{state_differs}
use Rattle.lane_words.specs.Bits.{either}
use Rattle.place_set.specs.Places.{Places}
use Rattle.testbench.specs.Resting.{IsGoldenAt}
use Rattle.fault_runs.specs.Records.{RunShown}
use Rattle.fault_runs.specs.Resting.{AreAtRest}
use Rattle.fault_runs.specs.Stretch.{Stands}
use Rattle.fault_runs.proofs.OverShown.{quiet_shown}

-- what a latch differs in after some cycles hangs on these alone
module _ (c : Circuit) (vectors : List (List Bool)) (t : ℕ) (le : t ≤ length vectors) where
  size : length (take t vectors) ≡ t
  size = length-take-le t vectors le

  raw_taken : (x : List Fault) → raw_state c x (take t vectors) t ≡ raw_state c x vectors t
  raw_taken x =
      sym (raw_state-append c x (take t vectors) (drop t vectors) t (omega (arith, size)))
      ∙ ap (λ (vs : List (List Bool)). raw_state c x vs t) (take-append-drop t vectors)

  state_taken : (x : List Fault) (l : ℕ) → state_differs c x (take t vectors) (length (take t vectors)) l ≡ state_differs c x vectors t l
  state_taken x l =
      ap (λ n. state_differs c x (take t vectors) n l) size
      ∙ ap₂ (λ (a b : List Bool). either (bit_at a l) (bit_at b l)) (raw_taken x) (raw_taken [])

pub rested : (c : Circuit) (points : Points) (run : Run) (x : List Fault) (from to : ℕ) (state : Places) (r : RunShown) → ArePointsFor c points → from ≤ to → to ≤ cycles_of run
    → AreAtRest c run x from to state → Stands c points run x from state r → Stands c points run x to state r
rested c points run x from to state r fit le within rest stands =
    let before : IsGoldenAt c x run.vectors from = λ l lt.
    sym (state_taken c run.vectors from (omega (arith, le, within)) x l) ∙ sym (stands.latches l lt) ∙ rest.latches l in
    let behind : IsGoldenAt c x run.vectors to = rest.rest.latches before in
    record {
      latches = λ l lt. rest.latches l ∙ sym (state_taken c run.vectors to within x l ∙ behind l lt);
      shown = quiet_shown c points run x from to r le (λ u net begun lt inside. rest.rest.nets before u net begun lt inside) fit stands.shown;
    }
