-- The parts of a netlist by numbers are those by names.
use Rattle.std.proofs.Common.{◌≡◌, ◌<◌, Bool, true, false, cond, List, [], ◌∷◌, ◌++◌, refl, ap, sym, ◌∙◌, append_assoc, length, map, arith}
use Rattle.std.specs.Prelude.{All, filter_map, flat_map, not, slice_index_or, slice_set}
use Rattle.std.proofs.lemmas.Bool.Decides.{nat_tests}
use Rattle.std.proofs.lemmas.List.{append-nil, get_or-map}
use Rattle.std.proofs.lemmas.List.Elements.{All-cons, All-head, All-tail, filter-append, filter_map-append}
use Rattle.circuit.specs.declared.parts.NetId.{NetId}
use Rattle.fm_base.specs.Names.{Name, distinct, is_one_of}
use Rattle.fm_base.proofs.Distinct.{distinct-snoc}
use Rattle.fm_base.proofs.Lists.{all_left}
use Rattle.net_names.specs.Nets.{net_id}
use Rattle.blif_model.specs.WalkSteps.{is_clock, latch_of, table_of, taken}
use Rattle.blif_model.specs.Walk.{Act, takes, Step, nets_of, unclocked}
use Rattle.blif_flatten.specs.declared.flat.FlatModel.{FlatModel}
use Rattle.blif_flatten.specs.declared.flat.NameId.{NameId}
use Rattle.blif_flatten.specs.declared.flat.NumberedAct.{NumberedAct}
use Rattle.blif_flatten.specs.declared.flat.NumberedAct.TheVariants.{Table as ATable, Latch as ALatch}
use Rattle.blif_flatten.specs.declared.flat.NumberedStep.{NumberedStep}
use Rattle.blif_flatten.specs.Flat.{act_by, AreBelow, ids_in, name_at, steps_by}
use Rattle.blif_flatten.specs.Flattened.{flat_steps}
use Rattle.blif_flatten.proofs.Marking.{mark_one}
use Rattle.blif_reader.specs.Numbers.{AreNetNumbers, net_of_name}
use Rattle.blif_reader.specs.Parts.{first_ids, inputs_at, latch_in, table_in}
use Rattle.blif_reader.proofs.FlatSteps.{apart, value_at}

pub ruleset filtered = (filter_map-append)

-- ---- inputs

-- without the clock names, the names on `.inputs` lines are those that the lines take
pub inputs_taken : (all some : List Step) → unclocked all (flat_map (λ s. inputs_at s.act) some) ≡ flat_map (λ s. taken all s.act) some
inputs_taken all [] = refl
inputs_taken all (s ∷ some) =
    filter-append (λ name. not (is_clock all name)) (inputs_at s.act) (flat_map (λ x. inputs_at x.act) some) ∙ rw (own s.act, inputs_taken all some) refl
  where
    own : (act : Act) → unclocked all (inputs_at act) ≡ taken all act
    own (takes names) = refl
    own act = refl

module _ (f : FlatModel) where
  -- ---- outputs

  pub firsts_within : (ids : List NameId) (seen : List Bool) → AreBelow (length f.names) ids → AreBelow (length f.names) (first_ids seen ids)
  firsts_within [] seen below = below
  firsts_within (id ∷ ids) seen below =
      let rest = firsts_within ids (slice_set seen id.0 true) (All-tail (λ (i : NameId). i.0 < length f.names) id ids below) in
      elim (slice_index_or seen id.0 true) as (λ b. AreBelow (length f.names) (cond b (first_ids (slice_set seen id.0 true) ids) (id ∷ first_ids (slice_set seen id.0 true) ids))) [
        | true ↦ rest
        | false ↦ All-cons (λ (i : NameId). i.0 < length f.names) id _ (All-head (λ (i : NameId). i.0 < length f.names) id ids below) rest
      ]

  -- the numbers that are taken once are those of the names that are
  pub firsts_named : (ids : List NameId) (done : List Name) (seen : List Bool) → AreBelow (length f.names) ids → seen ≡ map (is_one_of done) f.names
      → distinct done ++ map (name_at f.names) (first_ids seen ids) ≡ distinct (done ++ map (name_at f.names) ids)
  firsts_named [] done seen below are = append-nil (distinct done) ∙ ap distinct (sym (append-nil done))
  firsts_named (id ∷ ids) done seen below are =
      let lt = All-head (λ (i : NameId). i.0 < length f.names) id ids below in
      let here : slice_index_or seen id.0 true ≡ is_one_of done (name_at f.names id) =
      ap (λ (ms : List Bool). slice_index_or ms id.0 true) are ∙ get_or-map (is_one_of done) f.names id.0 [] true lt in
      let next : slice_set seen id.0 true ≡ map (is_one_of (done ++ name_at f.names id ∷ [])) f.names =
      ap (λ (ms : List Bool). slice_set ms id.0 true) are ∙ mark_one done f.names id.0 (apart f) lt in
      let rest = firsts_named ids (done ++ name_at f.names id ∷ []) (slice_set seen id.0 true) (All-tail (λ (i : NameId). i.0 < length f.names) id ids below) next in
      let whole = append_assoc done (name_at f.names id ∷ []) (map (name_at f.names) ids) in
      let split = append_assoc (distinct done) (name_at f.names id ∷ []) (map (name_at f.names) (first_ids (slice_set seen id.0 true) ids)) in
      grind (arith, nat_tests, distinct-snoc done (name_at f.names id))

  -- ---- nets

  module _ (numbers : List NetId) (are : AreNetNumbers f numbers) where
    net_is : (id : NameId) → id.0 < length f.names → net_of_name numbers id ≡ net_id (nets_of (flat_steps f)) (name_at f.names id)
    net_is id lt = value_at f (net_id (nets_of (flat_steps f))) numbers (record { 0 = 0 }) id are lt

    pub nets_are : (ids : List NameId) → AreBelow (length f.names) ids → map (net_of_name numbers) ids ≡ map (net_id (nets_of (flat_steps f))) (map (name_at f.names) ids)
    nets_are [] below = refl
    nets_are (id ∷ ids) below =
        rw (net_is id (All-head (λ (i : NameId). i.0 < length f.names) id ids below), nets_are ids (All-tail (λ (i : NameId). i.0 < length f.names) id ids below)) refl

    -- ---- tables and latches

    cells_are : (act : NumberedAct) → AreBelow (length f.names) (ids_in act)
        → (table_in numbers act ≡ table_of (nets_of (flat_steps f)) (act_by (name_at f.names) act)) × (latch_in numbers act ≡ latch_of (nets_of (flat_steps f)) (act_by (name_at f.names) act))
    cells_are (ATable t) below = (rw (nets_are t.ins (all_left (λ (i : NameId). i.0 < length f.names) t.ins (t.out ∷ []) below)) refl, refl)
    cells_are (ALatch l) below =
        (refl, rw (net_is l.from (below 0 l.from (omega arith)), net_is l.to (below 1 l.to (omega arith))) refl)
    cells_are act below = (refl, refl)

    pub all_cells : (steps : List NumberedStep) → All (λ s. AreBelow (length f.names) (ids_in s.act)) steps
        → (filter_map (λ s. table_in numbers s.act) steps ≡ filter_map (λ s. table_of (nets_of (flat_steps f)) s.act) (steps_by f.names steps))
        × (filter_map (λ s. latch_in numbers s.act) steps ≡ filter_map (λ s. latch_of (nets_of (flat_steps f)) s.act) (steps_by f.names steps))
    all_cells [] within = (refl, refl)
    all_cells (s ∷ steps) within =
        let own = cells_are s.act (All-head (λ (x : NumberedStep). AreBelow (length f.names) (ids_in x.act)) s steps within) in
        let rest = all_cells steps (All-tail (λ (x : NumberedStep). AreBelow (length f.names) (ids_in x.act)) s steps within) in
        (rw (own.0, rest.0) refl, rw (own.1, rest.1) refl)
