-- No line of the generated netlist is faulty, and its one model is its lines.
use Rattle.std.proofs.Common.{◌≡◌, ℕ, ◌+◌, Bool, true, false, List, [], ◌∷◌, ◌++◌, length, refl, ap, ap₂, sym, subst, ◌∙◌, append_assoc}
use Rattle.std.specs.Prelude.{Option, Some, None, codes, flat_map, if◌then◌else◌, nat_lt, not, bytes_eq}
use Rattle.std.specs.List.{before_first}
use Rattle.std.specs.Option.{option_map, option_map_or, option_or}
use Rattle.std.proofs.lemmas.List.Sums.{fold_push, take_while-cons}
use Rattle.fm_base.specs.Firsts.{first_after, given}
use Rattle.fm_base.specs.Lists.{below}
use Rattle.fm_base.specs.Names.{Name}
use Rattle.blif_text.specs.declared.NetlistFault.{NetlistFault}
use Rattle.blif_text.specs.declared.NetlistKind.{NetlistKind}
use Rattle.blif_text.specs.declared.NetlistKind.TheVariants.{NoModel, BadToken, BadRow, MixedPlane, TooWide}
use Rattle.blif_model.specs.LineFault.{Said, at_line, is_inside, is_row_of, line_fault, place_fault, plane_above, row_output, table_above}
use Rattle.blif_model.specs.Models.{Model, items_of, models_of}
use Rattle.blif_model.specs.Statement.{Statement, clock, end, inputs, instance, latch, model, outputs, passed, row, table, unnamed, wrong}
use Rattle.campaign_laws.proofs.Stating.{body, both_says, ends, ports, says_from}

-- ---- the state behind some lines

record State : Type 0 where
  inside : Bool
  above : Option (List Name)
  plane : Option Name

state_of : List Said → State
state_of before = record { inside = is_inside before; above = table_above before; plane = plane_above before }

abbrev step : State → Statement → State
step s says = record {
  inside = elim says [ model name ↦ true | end ↦ false | _ ↦ s.inside ];
  above = elim says [ table ins out ↦ Some ins | row cells ↦ s.above | passed ↦ s.above | _ ↦ None ];
  plane = elim says [ row cells ↦ option_or s.plane (Some (row_output cells)) | passed ↦ s.plane | _ ↦ None ];
}

state_step : (before : List Said) (l : Said) → state_of (before ++ l ∷ []) ≡ step (state_of before) l.says
unfolding state_of is_inside table_above plane_above
state_step before l = λ j. record {
  inside = fold_push (λ (inside : Bool) (line : Said). elim line.says [ model name ↦ true | end ↦ false | _ ↦ inside ]) false before l j;
  above = fold_push (λ (above : Option (List Name)) (line : Said). elim line.says [ table ins out ↦ Some ins | row tokens ↦ above | passed ↦ above | _ ↦ None ]) None before l j;
  plane = fold_push (λ (above : Option Name) (line : Said). elim line.says [ row tokens ↦ option_or above (Some (row_output tokens)) | passed ↦ above | _ ↦ None ]) None before l j;
}

-- the kind of a line behind such a state
abbrev check : State → Statement → Option NetlistKind
check s says =
    let is_mixed = λ (tokens : List Name). option_map_or (λ output. not (bytes_eq output (row_output tokens))) s.plane false in
    let own_plane = λ (tokens ins : List Name). if is_row_of (length ins) tokens then given (is_mixed tokens) MixedPlane else Some BadRow in
    let of_row = λ (tokens : List Name). option_map_or (own_plane tokens) s.above (Some BadRow) in
    let of_table = λ (ins : List Name). given (nat_lt 1024 (length ins)) TooWide in
    let own : Option NetlistKind = elim says [ wrong kind ↦ Some kind | row t ↦ of_row t | table ins out ↦ of_table ins | _ ↦ None ] in
    elim says [ passed ↦ None | model name ↦ None | unnamed ↦ Some BadToken | _ ↦ if s.inside then own else Some NoModel ]

check_is : (before : List Said) (says : Statement) → place_fault before says ≡ check (state_of before) says
unfolding state_of is_inside table_above plane_above
check_is before says = refl

-- no line is faulty behind those before it
Run : State → List Statement → Type 0
Run s [] = Unit {0}
Run s (says ∷ more) = (check s says ≡ None) × Run (step s says) more

abbrev answer : List Said → Said → Option NetlistFault
answer before l = option_map (at_line l.number) (option_or (place_fault before l.says) (given l.wide TooWide))

run_faultless : (k : ℕ) (lines : List Statement) (before : List Said) → Run (state_of before) lines → first_after answer before (says_from k lines) ≡ None
unfolding Run first_after
run_faultless k [] before run = refl
run_faultless k (says ∷ more) before run =
    let line : Said = record { number = k; says = says; wide = false } in
    let here : place_fault before says ≡ None = check_is before says ∙ run.0 in
    let later : Run (state_of (before ++ line ∷ [])) more = subst (λ s. Run s more) (sym (state_step before line)) run.1 in
    ap (λ kind. option_or (option_map (at_line k) (option_or kind None)) (first_after answer (before ++ line ∷ []) (says_from (k + 1) more))) here
    ∙ run_faultless (k + 1) more (before ++ line ∷ []) later

abbrev ready : State
ready = record { inside = true; above = None; plane = None }

both_run : (k : ℕ) (rest : List Statement) → Run ready rest → Run ready (both_says k ++ rest)
unfolding Run
both_run k rest run = (refl, (refl, (refl, (refl, (refl, (refl, run))))))

stages_run : (ks : List ℕ) (rest : List Statement) → Run ready rest → Run ready (flat_map both_says ks ++ rest)
stages_run [] rest run = run
stages_run (k ∷ ks) rest run =
    subst (Run ready) (sym (append_assoc (both_says k) (flat_map both_says ks) rest)) (both_run k (flat_map both_says ks ++ rest) (stages_run ks rest run))

ends_run : (n : ℕ) → Run ready (ends n ++ end ∷ [])
unfolding Run
ends_run n = (refl, (refl, (refl, (refl, (refl, (refl, tt))))))

file_run : (n : ℕ) → Run (state_of []) (model (codes "pipe") ∷ (body n ++ end ∷ []))
unfolding Run state_of is_inside table_above plane_above
file_run n =
    let rest : Run ready (flat_map both_says (below n) ++ (ends n ++ end ∷ [])) = stages_run (below n) (ends n ++ end ∷ []) (ends_run n) in
    let same : flat_map both_says (below n) ++ (ends n ++ end ∷ []) ≡ (flat_map both_says (below n) ++ ends n) ++ end ∷ [] = sym (append_assoc (flat_map both_says (below n)) (ends n) (end ∷ [])) in
    (refl, (refl, (refl, subst (Run ready) same rest)))

pub no_line_fault : (n : ℕ) → line_fault (says_from 1 (model (codes "pipe") ∷ (body n ++ end ∷ []))) ≡ None
unfolding line_fault
no_line_fault n = run_faultless 1 (model (codes "pipe") ∷ (body n ++ end ∷ [])) [] (file_run n)

-- ---- the model

-- a line that neither begins nor ends a model
abbrev is_inner : Statement → Bool
is_inner says = elim says [ end ↦ false | model name ↦ false | _ ↦ true ]

AreInner : List Statement → Type 0
AreInner [] = Unit {0}
AreInner (says ∷ more) = (is_inner says ≡ true) × AreInner more

inner_both : (xs ys : List Statement) → AreInner xs → AreInner ys → AreInner (xs ++ ys)
unfolding AreInner
inner_both [] ys first second = second
inner_both (x ∷ xs) ys first second = (first.0, inner_both xs ys first.1 second)

inner_stages : (ks : List ℕ) → AreInner (flat_map both_says ks)
unfolding AreInner
inner_stages [] = tt
inner_stages (k ∷ ks) = inner_both (both_says k) (flat_map both_says ks) (refl, (refl, (refl, (refl, (refl, (refl, tt)))))) (inner_stages ks)

inner_body : (n : ℕ) → AreInner (body n)
unfolding AreInner
inner_body n =
    inner_both (ports ++ flat_map both_says (below n)) (ends n) (refl, (refl, inner_stages (below n)))
    (refl, (refl, (refl, (refl, (refl, tt)))))

ends_model : Statement → Bool
ends_model says = elim says [ end ↦ true | model name ↦ true | _ ↦ false ]

inner_goes_on : (says : Statement) → is_inner says ≡ true → ends_model says ≡ false
unfolding ends_model
inner_goes_on (model name) e = absurd (cc)
inner_goes_on (inputs names) e = refl
inner_goes_on (outputs names) e = refl
inner_goes_on (clock names) e = refl
inner_goes_on (row names) e = refl
inner_goes_on (table ins out) e = refl
inner_goes_on (latch l) e = refl
inner_goes_on (instance name bindings) e = refl
inner_goes_on end e = absurd (cc)
inner_goes_on passed e = refl
inner_goes_on unnamed e = refl
inner_goes_on (wrong kind) e = refl

cut_end : (k : ℕ) (lines : List Statement) → AreInner lines → before_first (λ (below : Said). ends_model below.says) (says_from k (lines ++ end ∷ [])) ≡ says_from k lines
unfolding AreInner ends_model
cut_end k [] inner = take_while-cons (λ (below : Said). not (ends_model below.says)) (record { number = k; says = end; wide = false }) []
cut_end k (says ∷ more) inner =
    let here : not (ends_model says) ≡ true = ap not (inner_goes_on says inner.0) in
    take_while-cons (λ (below : Said). not (ends_model below.says)) (record { number = k; says = says; wide = false }) (says_from (k + 1) (more ++ end ∷ []))
    ∙ rw here (ap (λ rest. record { number = k; says = says; wide = false } ∷ rest) (cut_end (k + 1) more inner.1))

abbrev begun : Said → List Said → List Model
begun line lines =
    let items = items_of (before_first (λ (below : Said). elim below.says [ end ↦ true | model name ↦ true | _ ↦ false ]) lines) in
    elim line.says [ model name ↦ record { name = name; line = line.number; items = items } ∷ [] | _ ↦ [] ]

inner_begins : (says : Statement) (k : ℕ) (lines : List Said) → is_inner says ≡ true → begun (record { number = k; says = says; wide = false }) lines ≡ []
inner_begins (model name) k lines e = absurd (cc)
inner_begins (inputs names) k lines e = refl
inner_begins (outputs names) k lines e = refl
inner_begins (clock names) k lines e = refl
inner_begins (row names) k lines e = refl
inner_begins (table ins out) k lines e = refl
inner_begins (latch l) k lines e = refl
inner_begins (instance name bindings) k lines e = refl
inner_begins end k lines e = refl
inner_begins passed k lines e = refl
inner_begins unnamed k lines e = refl
inner_begins (wrong kind) k lines e = refl

no_more_models : (k : ℕ) (lines : List Statement) → AreInner lines → models_of (says_from k (lines ++ end ∷ [])) ≡ []
unfolding AreInner models_of
no_more_models k [] inner = refl
no_more_models k (says ∷ more) inner =
    ap₂ (λ (xs ys : List Model). xs ++ ys) (inner_begins says k (says_from (k + 1) (more ++ end ∷ [])) inner.0) (no_more_models (k + 1) more inner.1)

-- the one model
unfoldable pub the_model : ℕ → Model
the_model n = record { name = codes "pipe"; line = 1; items = items_of (says_from 2 (body n)) }

pub models_are : (n : ℕ) → models_of (says_from 1 (model (codes "pipe") ∷ (body n ++ end ∷ []))) ≡ the_model n ∷ []
unfolding models_of the_model ends_model
models_are n =
    ap₂ (λ (lines : List Said) (rest : List Model). record { name = codes "pipe"; line = 1; items = items_of lines } ∷ rest) (cut_end 2 (body n) (inner_body n)) (no_more_models 2 (body n) (inner_body n))
