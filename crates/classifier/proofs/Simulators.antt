-- What a simulator holds, by what it was made for.
use Rattle.std.proofs.Common.{◌≡◌, List, [], ◌∷◌, ap, sym, subst, ◌∙◌}
use Rattle.circuit.specs.declared.parts.NetId.{NetId}
use Rattle.circuit.specs.Circuit.{Circuit}
use Rattle.alarm_points.specs.declared.Points.{Points}
use Rattle.alarm_points.specs.FourWatches.{AreFourMadeFor, FourWatches}
use Rattle.golden_difference.specs.Lanes.{IsMadeFor, Lanes}
use Rattle.lane_words.specs.declared.quad.Quad.{Quad}
use Rattle.classifier.specs.Simulator.{Simulator, simulator_of}
use Rattle.testbench.specs.Testbench.{Testbench}
use Rattle.classifier.specs.Narrowed.{AreNarrowFor}
use Rattle.classifier.specs.declared.narrow.Narrow.{Narrow}
use Rattle.classifier.proofs.Narrowing.{one_narrow}

-- a simulator with these lanes and windows
abbrev pub holding : Lanes Quad → Points → FourWatches → Simulator
holding lanes points windows = record { circuit = lanes.circuit; order = lanes.order; points = points; ftti = windows.ftti }

-- what was made for the same stands for one another
pub made_alike : {V W : Type 0} (c : Circuit) (order : List NetId) (lanes : Lanes V) (other : Lanes W) → IsMadeFor c order lanes → IsMadeFor c order other
    → IsMadeFor lanes.circuit lanes.order other
made_alike c order lanes other made own = record { circuit = own.circuit ∙ sym made.circuit; order = own.order ∙ sym made.order }

module _ (bench : Testbench) (s : Simulator) (lanes : Lanes Quad) (points : Points) (windows : FourWatches)
    (is : holding lanes points windows ≡ s) (made : s ≡ simulator_of bench s.ftti) where
  pub lanes_fit : IsMadeFor bench.circuit bench.order lanes
  lanes_fit = record { circuit = ap (λ (t : Simulator). t.circuit) (is ∙ made); order = ap (λ (t : Simulator). t.order) (is ∙ made) }

  -- so is the word that goes on with the last of them
  pub narrow_fits : (narrow : Narrow) → IsMadeFor lanes.circuit lanes.order narrow.lanes → AreNarrowFor bench.circuit bench.order (narrow ∷ [])
  narrow_fits narrow own = one_narrow bench.circuit bench.order narrow (record { circuit = own.circuit ∙ lanes_fit.circuit; order = own.order ∙ lanes_fit.order })

  points_fit : points ≡ bench.points
  points_fit = ap (λ (t : Simulator). t.points) (is ∙ made)

  pub windows_fit : AreFourMadeFor points windows → AreFourMadeFor bench.points windows
  windows_fit = subst (λ x. AreFourMadeFor x windows) points_fit

  pub windows_kept : (new : FourWatches) → AreFourMadeFor bench.points new → AreFourMadeFor points new
  windows_kept new = subst (λ x. AreFourMadeFor x new) (sym points_fit)

  -- with other lanes and windows for the testbench it is the same
  pub same_as_before : (later : Lanes Quad) (new : FourWatches) → IsMadeFor bench.circuit bench.order later → new.ftti ≡ windows.ftti → holding later points new ≡ s
  same_as_before later new fit interval =
      (λ i. record { circuit = fit.circuit i; order = fit.order i; points = points_fit i; ftti = (interval ∙ ap (λ (t : Simulator). t.ftti) is) i }) ∙ sym made
