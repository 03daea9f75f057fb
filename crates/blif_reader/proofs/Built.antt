-- The netlist that is built of its parts is that of the walk.
use Rattle.std.proofs.Common.{◌≡◌, ◌<◌, ◌≤◌, ◌^◌, List, refl, sym, ◌∙◌, length, arith}
use Rattle.std.specs.Prelude.{None, map, filter_map}
use Rattle.std.proofs.lemmas.List.{length-map}
use Rattle.circuit.specs.declared.parts.NetId.{NetId}
use Rattle.circuit.specs.Circuit.{Circuit}
use Rattle.fm_base.specs.Names.{Name}
use Rattle.net_names.specs.Driven.{IsDrivenOnce}
use Rattle.net_names.specs.Drivers.{drivers_by}
use Rattle.net_names.specs.Nets.{net_id}
use Rattle.net_names.proofs.Once.{few-inputs, few-tables, few-latches}
use Rattle.net_names.proofs.Putting.{drivers-put}
use Rattle.blif_model.specs.Net.{input_names_of, table_names_of, latch_names_of, output_names_of, circuit_of}
use Rattle.blif_model.specs.WalkSteps.{table_of, latch_of}
use Rattle.blif_model.specs.Walk.{Step, nets_of}
use Rattle.blif_model.specs.WalkFault.{walk_fault}
use Rattle.blif_model.proofs.FileNetlist.{walk_unfaulted}
use Rattle.blif_model.proofs.Sound.{walk-driven}

module _ (steps : List Step) (unfaulted : walk_fault steps ≡ None) where
  abbrev ids : List Name → List NetId
  ids names = map (net_id (nets_of steps)) names

  once : IsDrivenOnce (nets_of steps) (input_names_of steps) (table_names_of steps) (latch_names_of steps)
  once = let none = walk_unfaulted steps unfaulted in walk-driven steps none.drivers none.driven

  -- inputs, tables and latches are no more than nets
  pub few_driven : length (nets_of steps) ≤ 2 ^ 18
      → (length (ids (input_names_of steps)) < 2 ^ 32) × (length (ids (table_names_of steps)) < 2 ^ 32) × (length (ids (latch_names_of steps)) < 2 ^ 32)
  few_driven few =
      let ins = few-inputs (nets_of steps) (input_names_of steps) (table_names_of steps) (latch_names_of steps) once in
      let tabs = few-tables (nets_of steps) (input_names_of steps) (table_names_of steps) (latch_names_of steps) once in
      let lats = few-latches (nets_of steps) (input_names_of steps) (table_names_of steps) (latch_names_of steps) once in
      simp length-map (omega arith, omega arith, omega arith)

  pub built : (c : Circuit) → c.names ≡ nets_of steps → c.drivers ≡ drivers_by (ids (input_names_of steps)) (ids (table_names_of steps)) (ids (latch_names_of steps)) (length (nets_of steps))
      → c.tables ≡ filter_map (λ s. table_of (nets_of steps) s.act) steps → c.latches ≡ filter_map (λ s. latch_of (nets_of steps) s.act) steps
      → c.inputs ≡ ids (input_names_of steps) → c.outputs ≡ ids (output_names_of steps) → c ≡ circuit_of steps
  unfolding circuit_of input_names_of table_names_of latch_names_of output_names_of
  built c named driven tabled latched taken given =
      let drivers = driven ∙ drivers-put (nets_of steps) (input_names_of steps) (table_names_of steps) (latch_names_of steps) once in
      rw (sym drivers, sym tabled, sym latched, sym taken, sym given, sym named) refl
