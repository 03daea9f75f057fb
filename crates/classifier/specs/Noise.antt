-- Alarms that are raised and silenced in a cycle.
use Rattle.std.specs.Prelude.{◌≡◌, ℕ, ◌<◌, ◌&&◌, not, List, slice_index_or}
use Rattle.std.specs.List.{list_any}
use Rattle.circuit.specs.declared.parts.Fault.{Fault}
use Rattle.circuit.specs.declared.parts.NetId.{NetId}
use Rattle.circuit.specs.Circuit.{Circuit}
use Rattle.workload.specs.declared.run.Run.{Run}
use Rattle.fm_base.specs.Planes.{bit}
use Rattle.campaign_plan.specs.Danger.{golden, with_faults}
use Rattle.classifier.specs.declared.noise.Noise.{Noise}

-- of 64 lanes with these faults, the planes have those in which some of the nets is 1 in cycle t of a run, and 0 without faults; and those
-- in which some is 0, and 1 without
pub record IsNoiseOf (c : Circuit) (faults : ℕ → List Fault) (run : Run) (t : ℕ) (nets : List NetId) (noise : Noise) : Type 0 where
  pub raised : (k : ℕ) → k < 64 → bit noise.raised k ≡ list_any (λ net. with_faults c (faults k) run t net && not (golden c run t net)) nets
  pub silenced : (k : ℕ) → k < 64 → bit noise.silenced k ≡ list_any (λ net. not (with_faults c (faults k) run t net) && golden c run t net) nets

-- the alarms of a word
abbrev pub noise_at : List Noise → ℕ → Noise
noise_at noise word = slice_index_or noise word (record { raised = 0; silenced = 0 })
