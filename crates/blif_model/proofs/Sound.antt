-- The netlist of a file is one: each net has one driver and is the net of it, and all numbers are in range.
use Rattle.std.proofs.Common.{◌≡◌, ℕ, ◌≤◌, ◌^◌, Bool, true, false, ◌==◌, List, [], ◌∷◌, inl, inr, refl, ap, sym, ◌∙◌, length}
use Rattle.std.specs.Prelude.{bytes_eq, map, flat_map, filter_map, None}
use Rattle.std.specs.List.{AllByRecursion, cons_option, list_any, list_all}
use Rattle.std.proofs.lemmas.List.{length-map}
use Rattle.std.proofs.lemmas.Bool.{eqb-true}
use Rattle.circuit.specs.declared.parts.Latch.{Latch}
use Rattle.circuit.specs.declared.parts.Table.{Table}
use Rattle.circuit.specs.Circuit.{Circuit}
use Rattle.circuit.specs.Sound.{IsNet, IsTable, IsNetlist}
use Rattle.fm_base.specs.Names.{Name, is_one_of}
use Rattle.fm_base.proofs.Tests.{or_false, or_cases, and_both}
use Rattle.fm_base.proofs.Distinct.{distinct-apart, same_name}
use Rattle.net_names.specs.Nets.{net_id}
use Rattle.net_names.specs.Driven.{AreAligned, drives, name_count, IsDrivenOnce}
use Rattle.net_names.proofs.Once.{driven-once}
use Rattle.net_names.proofs.Brought.{all-brought, as-many, in-order}
use Rattle.net_names.proofs.Sound.{is-net, is-table, netlist-of-names, size-of-drivers}
use Rattle.blif_model.specs.LineFault.{is_row_of}
use Rattle.blif_model.specs.Walk.{Act, flat_table, flat_latch, Step, Visit, nets_of, drives_of, visits_of}
use Rattle.blif_model.specs.WalkSteps.{is_clock, table_net, latch_net, outputs_at, read, lit_of, table_of, latch_of}
use Rattle.blif_model.specs.WalkFault.{two_drivers, undriven, clock_read}
use Rattle.blif_model.specs.Net.{lits_of, table_plane, input_names_of, table_names_of, latch_names_of, output_names_of, circuit_of}
use Rattle.blif_model.proofs.Nets.{nets-apart, nets-found}
use Rattle.blif_model.proofs.Drivers.{names_of, drives-once, nets-driven, drives-visited, times-drives, visit-found}
use Rattle.blif_model.proofs.ReadNets.{reads-nets, outputs-nets}
use Rattle.blif_model.proofs.Fits.{ActFits, StepsFit}

-- ---- what a table of the walk keeps

-- a row for so many inputs has so many literals
row_length : (count : ℕ) (tokens : List Name) → is_row_of count tokens ≡ true → length (lits_of tokens) ≡ count
row_length count [] e = cc
row_length count (output ∷ []) e = sym (eqb-true count 0 (and_both (count == 0) _ e).0)
row_length count (cells ∷ output ∷ []) e =
    length-map cells lit_of ∙ eqb-true (length cells) count (and_both _ _ (and_both _ _ (and_both _ _ e).0).0).1
row_length count (a ∷ b ∷ c ∷ more) e = cc

rows_length : (count : ℕ) (rows : List (List Name)) → list_all (is_row_of count) rows ≡ true
    → AllByRecursion (λ row. length row ≡ count) (map lits_of rows)
rows_length count [] e = tt
rows_length count (row ∷ rows) e =
    let parts = and_both (is_row_of count row) _ e in (row_length count row parts.0, rows_length count rows parts.1)

module _ (nets : List Name) (c : Circuit) (size : length c.drivers ≡ length nets) where
  tables_fit : (some : List Step) → AllByRecursion (λ s. list_all (is_one_of nets) (read s.act) ≡ true) some → StepsFit some
      → AllByRecursion (IsTable c) (filter_map (λ s. table_of nets s.act) some)
  tables_fit some e f =
      all-brought (IsTable c) (λ (s : Step). list_all (is_one_of nets) (read s.act) ≡ true) (λ (s : Step). ActFits s.act)
      (λ (s : Step). table_of nets s.act) (λ s q r. at s.act q r) some e f
    where
      at : (act : Act) → list_all (is_one_of nets) (read act) ≡ true → ActFits act
          → AllByRecursion (IsTable c) (cons_option (table_of nets act) [])
      at (flat_table ins out rows) e f =
          (is-table nets c size ins (map lits_of rows) (table_plane rows) e (rows_length (length ins) rows f), tt)
      at act e f = tt

  sources_fit : (some : List Step) → AllByRecursion (λ s. list_all (is_one_of nets) (read s.act) ≡ true) some
      → AllByRecursion (λ (latch : Latch). IsNet c latch.from) (filter_map (λ s. latch_of nets s.act) some)
  sources_fit some e =
      all-brought (λ (latch : Latch). IsNet c latch.from) (λ (s : Step). list_all (is_one_of nets) (read s.act) ≡ true)
      (λ (s : Step). list_all (is_one_of nets) (read s.act) ≡ true)
      (λ (s : Step). latch_of nets s.act) (λ s q r. at s.act q) some e e
    where
      at : (act : Act) → list_all (is_one_of nets) (read act) ≡ true
          → AllByRecursion (λ (latch : Latch). IsNet c latch.from) (cons_option (latch_of nets act) [])
      at (flat_latch l) e = (is-net nets c size l.from (and_both (is_one_of nets l.from) true e).0, tt)
      at act e = tt

-- tables and latches stand beside the nets that they drive
beside : (nets : List Name) (some : List Step)
    → AreAligned nets (flat_map (λ s. table_net s.act) some) (flat_map (λ s. latch_net s.act) some)
    (filter_map (λ s. table_of nets s.act) some) (filter_map (λ s. latch_of nets s.act) some)
beside nets some = record {
  counted = as-many (λ (s : Step). table_of nets s.act) (λ (s : Step). table_net s.act) (λ s. table_at s.act) some;
  ordered =
      in-order (λ (latch : Latch). latch.to) (net_id nets) (λ (s : Step). latch_of nets s.act) (λ (s : Step). latch_net s.act)
      (λ s. latch_at s.act) some;
}
  where
    table_at : (act : Act) → length (cons_option (table_of nets act) []) ≡ length (table_net act)
    table_at (flat_table ins out rows) = refl
    table_at act = refl

    latch_at : (act : Act) → map (λ (latch : Latch). latch.to) (cons_option (latch_of nets act) []) ≡ map (net_id nets) (latch_net act)
    latch_at (flat_latch l) = refl
    latch_at act = refl

-- ---- the netlist of a walk without these faults

module _ (steps : List Step) (once : two_drivers steps ≡ None) (driven : undriven steps ≡ None) where
  abbrev nets : List Name
  nets = nets_of steps

  abbrev ins : List Name
  ins = input_names_of steps

  abbrev tabs : List Name
  tabs = table_names_of steps

  abbrev lats : List Name
  lats = latch_names_of steps

  drive_count : (name : Name) → name_count name (names_of (drives_of steps)) ≡ drives ins tabs lats name
  unfolding drives_of input_names_of table_names_of latch_names_of
  drive_count name = times-drives name steps steps

  none_among : (p : Name → Bool) (ds : List Visit) (name : Name) → list_any (λ d. p d.name) ds ≡ false → is_one_of (names_of ds) name ≡ true
      → p name ≡ false
  none_among p [] name e f = cc
  none_among p (d ∷ ds) name e f =
      let parts = or_false (p d.name) (list_any (λ x. p x.name) ds) e in
      elim (or_cases (bytes_eq name d.name) _ f)
      [ inl same ↦ ap p (same_name name d.name same) ∙ parts.0 | inr there ↦ none_among p ds name parts.1 there ]

  -- a driven name is a net
  driven_net : (name : Name) → is_one_of (names_of (drives_of steps)) name ≡ true → is_one_of nets name ≡ true
  unfolding nets_of
  driven_net name there =
      let clock : is_clock steps name ≡ false = none_among (is_clock steps) (drives_of steps) name (drives-once steps once).clock there in
      nets-found steps (names_of (visits_of steps)) name ∙ rw (clock, drives-visited steps name there) refl

  -- EACH NET OF THE WALK is driven once
  pub walk-driven : IsDrivenOnce nets ins tabs lats
  walk-driven =
      driven-once nets ins tabs lats (names_of (drives_of steps)) drive_count (nets-apart steps) (drives-once steps once).apart
      (λ name e. sym (visit-found (drives_of steps) name) ∙ nets-driven steps driven name e) driven_net

  -- the netlist of a walk
  pub netlist-sound : clock_read steps ≡ None → StepsFit steps → length (nets_of steps) ≤ 2 ^ 18 → IsNetlist (circuit_of steps)
  unfolding circuit_of input_names_of output_names_of table_names_of latch_names_of
  netlist-sound unread fit small =
      let tables : List Table = filter_map (λ s. table_of nets s.act) steps in
      let latches : List Latch = filter_map (λ s. latch_of nets s.act) steps in
      let size : length (circuit_of steps).drivers ≡ length nets =
      size-of-drivers nets ins tabs lats (output_names_of steps) tables latches walk-driven (beside nets steps) in
      netlist-of-names nets ins tabs lats (output_names_of steps) tables latches walk-driven (beside nets steps) small
      (tables_fit nets (circuit_of steps) size steps (reads-nets steps unread) fit)
      (sources_fit nets (circuit_of steps) size steps (reads-nets steps unread))
      (distinct-apart (flat_map (λ s. outputs_at s.act) steps)) (outputs-nets steps unread)
