-- The faults of models and instances: the kinds from TwoModels to TooLarge, in their order. They are looked at where no line is faulty.
use Rattle.std.specs.Prelude.{ℕ, ◌^◌, ◌*◌, max, Bool, false, not, ◌||◌, List, [], ◌∷◌, length, map, flat_map, sum_by, Option, None, bytes_eq, find, is_none, nat_lt, slice_index_or}
use Rattle.std.specs.List.{list_any}
use Rattle.blif_text.specs.declared.NetlistKind.{NetlistKind}
use Rattle.blif_text.specs.declared.NetlistKind.TheVariants.{TwoModels, UnknownModel, BadFormal, Unbound, Recursive, TooDeep, TooLarge}
use Rattle.blif_text.specs.declared.NetlistFault.{NetlistFault}
use Rattle.fm_base.specs.Firsts.{first_after, first_where, first_answer, given}
use Rattle.blif_model.specs.LineFault.{at_line}
use Rattle.blif_model.specs.Models.{Model, Instance, main_of, at_model, instances, reaches, has_nest, sum_over_instances}
use Rattle.blif_model.specs.Statement.{inputs, outputs, clock, table}
use Rattle.blif_model.specs.Walk.{walk, nets_of}
use Rattle.fm_base.specs.Names.{Name, is_one_of, has_repeat}

-- the first `.subckt` line of the file at which a test passes; it is told the model around the line too
abbrev pub first_instance : List Model → (Model → Instance → Bool) → NetlistKind → Option NetlistFault
first_instance models test kind = first_where (λ m. first_where (λ i. given (test m i) (at_line i.line kind)) (instances m)) models

-- the faults of models and instances, kind by kind
unfoldable pub model_faults : List Model → List (Option NetlistFault)
model_faults models =
    let on_inputs = λ (m : Model). flat_map (λ item. elim item.says [ inputs ns ↦ ns | clock ns ↦ ns | _ ↦ [] ]) m.items in
    let on_ports = λ (m : Model). flat_map (λ item. elim item.says [ inputs ns ↦ ns | outputs ns ↦ ns | clock ns ↦ ns | _ ↦ [] ]) m.items in
    let bound = λ (i : Instance). map (λ b. b.formal) i.bindings in
    let any_beside = λ (names others : List Name). list_any (λ name. not (is_one_of others name)) names in
    let cells = λ (m : Model). sum_by (λ i. elim i.says [ table ins out ↦ max 1 (length i.rows) * max 1 (length ins) | _ ↦ 0 ]) m.items in
    let total = λ (own : Model → ℕ). sum_over_instances own models 32 (main_of models) in
    -- TwoModels: a `.model` line has the name of an earlier one
    first_after (λ before m. given (list_any (λ earlier. bytes_eq earlier.name m.name) before) (at_line m.line TwoModels)) [] models
    -- UnknownModel: a `.subckt` line names no model
    ∷ first_instance models (λ m i. is_none (find (λ known. bytes_eq known.name i.name) models)) UnknownModel
    -- BadFormal: it binds a name that is no formal, on no line of ports of its model, or one formal twice
    ∷ first_instance models (λ m i. at_model models i.name (λ c. any_beside (bound i) (on_ports c)) false || has_repeat (bound i)) BadFormal
    -- Unbound: it leaves a formal input unbound, a name on an `.inputs` or `.clock` line of its model
    ∷ first_instance models (λ m i. at_model models i.name (λ c. any_beside (on_inputs c) (bound i)) false) Unbound
    -- Recursive: its model reaches the model around it again; no way without a repeat has more instances than there are models
    ∷ first_instance models (λ m i. at_model models i.name (reaches models (length models) m.name) false) Recursive
    -- TooDeep: the instance of a line of the main model has 32 more, one in the other, in it
    ∷ first_where (λ i. given (at_model models i.name (has_nest models 32) false) (at_line i.line TooDeep)) (instances (main_of models))
    -- TooLarge: the flattened main model has too many instances, cells (rows times inputs of each table, each at least 1) or nets
    ∷ given (nat_lt (2 ^ 18) (total (λ m. length (instances m))) || nat_lt (2 ^ 24) (total cells)
    || nat_lt (2 ^ 18) (length (nets_of (walk models)))) (at_line (main_of models).line TooLarge) ∷ []

-- ---- shapes of private steps: the first of these faults, and each kind by itself

unfoldable pub model_fault : List Model → Option NetlistFault
unfolding model_faults
model_fault models = first_answer (model_faults models)

unfoldable pub two_models : List Model → Option NetlistFault
unfolding model_faults
two_models models = slice_index_or (model_faults models) 0 None

unfoldable pub unknown_model : List Model → Option NetlistFault
unfolding model_faults
unknown_model models = slice_index_or (model_faults models) 1 None

unfoldable pub bad_formal : List Model → Option NetlistFault
unfolding model_faults
bad_formal models = slice_index_or (model_faults models) 2 None

unfoldable pub unbound : List Model → Option NetlistFault
unfolding model_faults
unbound models = slice_index_or (model_faults models) 3 None

unfoldable pub recursive : List Model → Option NetlistFault
unfolding model_faults
recursive models = slice_index_or (model_faults models) 4 None

unfoldable pub too_deep : List Model → Option NetlistFault
unfolding model_faults
too_deep models = slice_index_or (model_faults models) 5 None

unfoldable pub too_large : List Model → Option NetlistFault
unfolding model_faults
too_large models = slice_index_or (model_faults models) 6 None

-- the formals that a line binds
abbrev pub bound_formals : Instance → List Name
bound_formals i = map (λ b. b.formal) i.bindings

-- some name isn't one of the others
abbrev pub has_other : List Name → List Name → Bool
has_other names others = list_any (λ name. not (is_one_of others name)) names
