-- TwoDrivers is found by the marks of what is driven.
use Rattle.std.proofs.Common.{◌≡◌, ℕ, ◌<◌, Bool, true, false, ◌||◌, List, [], ◌∷◌, ◌++◌, refl, ap, sym, ◌∙◌, append_assoc, length, map, arith}
use Rattle.std.specs.Prelude.{Option, slice_index_or, slice_set}
use Rattle.std.proofs.lemmas.List.{get_or-map, map-append}
use Rattle.std.proofs.lemmas.List.Elements.{All-cons, All-nil, All-head, All-tail, All-filter}
use Rattle.std.proofs.Math.Bool.{or_comm}
use Rattle.fm_base.specs.Names.{Name, is_one_of}
use Rattle.fm_base.specs.Firsts.{first_after, given}
use Rattle.fm_base.proofs.Lists.{all_right}
use Rattle.net_names.proofs.Times.{one_of_both}
use Rattle.blif_text.specs.declared.NetlistKind.TheVariants.{TwoDrivers}
use Rattle.blif_text.specs.declared.NetlistFault.{NetlistFault}
use Rattle.blif_model.specs.LineFault.{at_line}
use Rattle.blif_model.specs.WalkSteps.{is_clock, names_at, driven_nets}
use Rattle.blif_model.specs.Walk.{Step, Visit, clock_names}
use Rattle.blif_model.specs.WalkFault.{has_visit}
use Rattle.blif_model.proofs.Drivers.{names_at-names, visit-found}
use Rattle.blif_flatten.specs.declared.flat.FlatModel.{FlatModel}
use Rattle.blif_flatten.specs.declared.flat.NameId.{NameId}
use Rattle.blif_flatten.specs.declared.flat.NumberedAct.{NumberedAct}
use Rattle.blif_flatten.specs.declared.flat.NumberedAct.TheVariants.{Inputs, Table, Latch}
use Rattle.blif_flatten.specs.declared.flat.NumberedStep.{NumberedStep}
use Rattle.blif_flatten.specs.Flat.{act_by, AreBelow, ids_in, name_at, step_by}
use Rattle.blif_flatten.specs.Flattened.{flat_steps}
use Rattle.blif_flatten.specs.Marks.{marked}
use Rattle.blif_flatten.proofs.Marking.{mark_one, mark_names}
use Rattle.blif_reader.specs.Passes.{AreClockMarks, driven_ids, drives_twice, settled}
use Rattle.blif_reader.specs.Steps.{IsStep}
use Rattle.blif_reader.proofs.FlatSteps.{apart, given_or, unmarked_names}

abbrev pub driver_answer : List Step → List Visit → Visit → Option NetlistFault
driver_answer steps before d = given (has_visit before d.name || is_clock steps d.name) (at_line d.line TwoDrivers)

-- what a step drives
abbrev pub drives_at : List Step → Step → List Visit
drives_at steps s = names_at s.line (driven_nets steps s.act)

driven_below : (n : ℕ) (marks : List Bool) (act : NumberedAct) → AreBelow n (ids_in act) → AreBelow n (driven_ids marks act)
driven_below n marks (Inputs ids) below = All-filter _ (λ (id : NameId). id.0 < n) ids below
driven_below n marks (Table t) below = all_right (λ (id : NameId). id.0 < n) t.ins (t.out ∷ []) below
driven_below n marks (Latch l) below = All-cons (λ (id : NameId). id.0 < n) l.to [] (below 1 l.to (omega arith)) (All-nil (λ (id : NameId). id.0 < n))
driven_below n marks act below = All-nil (λ (id : NameId). id.0 < n)

module _ (f : FlatModel) where
  abbrev all : List Step
  all = flat_steps f

  driven_names : (clocks : List Bool) → AreClockMarks f clocks → (act : NumberedAct) → AreBelow (length f.names) (ids_in act)
      → map (name_at f.names) (driven_ids clocks act) ≡ driven_nets all (act_by (name_at f.names) act)
  driven_names clocks are (Inputs ids) below = unmarked_names f (is_clock all) clocks are ids below
  driven_names clocks are act below = refl

  settled_found : (before : List Visit) (q : Name) → (has_visit before q || is_clock all q) ≡ is_one_of (settled all before) q
  settled_found before q =
      or_comm (has_visit before q) (is_clock all q) ∙ ap (λ b. is_clock all q || b) (visit-found before q)
      ∙ sym (one_of_both (clock_names all) (map (λ (d : Visit). d.name) before) q)

  settled_more : (before more : List Visit) → settled all before ++ map (λ (d : Visit). d.name) more ≡ settled all (before ++ more)
  settled_more before more =
      append_assoc (clock_names all) (map (λ (d : Visit). d.name) before) (map (λ (d : Visit). d.name) more)
      ∙ ap (λ (names : List Name). clock_names all ++ names) (sym (map-append (λ (d : Visit). d.name) before more))

  module _ (line : ℕ) where
    -- numbers that are driven twice are names that are
    twice_found : (ids : List NameId) (before : List Visit) (marks : List Bool) → AreBelow (length f.names) ids → marks ≡ map (is_one_of (settled all before)) f.names
        → first_after (driver_answer all) before (names_at line (map (name_at f.names) ids)) ≡ given (drives_twice marks ids) (at_line line TwoDrivers)
    unfolding first_after
    twice_found [] before marks below are = refl
    twice_found (id ∷ ids) before marks below are =
        let lt = All-head (λ (i : NameId). i.0 < length f.names) id ids below in
        let d : Visit = record { name = name_at f.names id; line = line } in
        let here : slice_index_or marks id.0 false ≡ is_one_of (settled all before) d.name =
        ap (λ (ms : List Bool). slice_index_or ms id.0 false) are ∙ get_or-map (is_one_of (settled all before)) f.names id.0 [] false lt in
        let next : slice_set marks id.0 true ≡ map (is_one_of (settled all (before ++ d ∷ []))) f.names =
        ap (λ (ms : List Bool). slice_set ms id.0 true) are ∙ mark_one (settled all before) f.names id.0 (apart f) lt
        ∙ ap (λ (texts : List Name). map (is_one_of texts) f.names) (settled_more before (d ∷ [])) in
        let rest = twice_found ids (before ++ d ∷ []) (slice_set marks id.0 true) (All-tail (λ (i : NameId). i.0 < length f.names) id ids below) next in
        rw (settled_found before d.name, here, rest) (given_or (is_one_of (settled all before) d.name) (drives_twice (slice_set marks id.0 true) ids) (at_line line TwoDrivers))

    marks_behind : (ids : List NameId) (before : List Visit) (marks : List Bool) → AreBelow (length f.names) ids → marks ≡ map (is_one_of (settled all before)) f.names
        → marked marks ids ≡ map (is_one_of (settled all (before ++ names_at line (map (name_at f.names) ids)))) f.names
    marks_behind ids before marks below are =
        ap (λ (ms : List Bool). marked ms ids) are ∙ mark_names (settled all before) f.names ids (apart f) below
        ∙ ap (λ (names : List Name). map (is_one_of (settled all before ++ names)) f.names) (sym (names_at-names line (map (name_at f.names) ids)))
        ∙ ap (λ (texts : List Name). map (is_one_of texts) f.names) (settled_more before (names_at line (map (name_at f.names) ids)))

  -- what a step drives, by the marks before it
  pub step_drives : {i : ℕ} {s : NumberedStep} (before : List Visit) (clocks driven : List Bool) → IsStep f i s → AreClockMarks f clocks
      → driven ≡ map (is_one_of (settled all before)) f.names
      → (first_after (driver_answer all) before (drives_at all (step_by (name_at f.names) s)) ≡ given (drives_twice driven (driven_ids clocks s.act)) (at_line s.line TwoDrivers))
      × (marked driven (driven_ids clocks s.act) ≡ map (is_one_of (settled all (before ++ drives_at all (step_by (name_at f.names) s)))) f.names)
  step_drives {i} {s} before clocks driven at are marks =
      let ids : List NameId = driven_ids clocks s.act in
      let below = driven_below (length f.names) clocks s.act at.within in
      rw (sym (driven_names clocks are s.act at.within)) (twice_found s.line ids before driven below marks, marks_behind s.line ids before driven below marks)
