-- In a file without a line fault, the rows of each table are rows for its inputs.
use Rattle.std.proofs.Common.{◌≡◌, ℕ, Bool, true, false, cond, List, [], ◌∷◌, ◌++◌, refl, ap, sym, ◌∙◌, length, take, drop, arith}
use Rattle.std.specs.Prelude.{Option, Some, None}
use Rattle.std.specs.List.{list_all, position_or_len, AllByRecursion}
use Rattle.std.proofs.lemmas.List.{take-append-drop}
use Rattle.std.proofs.lemmas.List.Sums.{fold_push}
use Rattle.blif_text.specs.declared.NetlistFault.{NetlistFault}
use Rattle.fm_base.specs.Firsts.{first_after}
use Rattle.fm_base.specs.Names.{Name}
use Rattle.fm_base.proofs.Firsts.{first_after-append}
use Rattle.fm_base.proofs.Options.{none_both, none_mapped}
use Rattle.blif_model.specs.Statement.{Statement, model, table, row, passed}
use Rattle.blif_model.specs.LineFault.{Said, at_line, is_inside, table_above, is_row_of, place_fault, kind_of, line_fault, plane_above}
use Rattle.blif_model.specs.LineSteps.{inside_after, table_after, fault_of, plane_after}
use Rattle.blif_model.specs.Models.{Item, Model, rows_below, items_of, models_of}
use Rattle.blif_model.specs.ModelSteps.{rows_from, ends_model, model_from}

-- the rows of a table have a cell for each input
abbrev pub RowsFit : Statement → List (List Name) → Type 0
RowsFit (table ins out) rows = list_all (is_row_of (length ins)) rows ≡ true
RowsFit _ rows = Unit {0}

abbrev pub ItemFits : Item → Type 0
ItemFits item = RowsFit item.says item.rows

abbrev pub ModelFits : Model → Type 0
ModelFits m = AllByRecursion ItemFits m.items

-- no line of these has a fault, behind the ones before
abbrev AreSound : List Said → List Said → Type 0
AreSound before lines = first_after fault_of before lines ≡ None

-- the first line has no fault of its place, and the others have none behind it
sound_first : (before : List Said) (line : Said) (lines : List Said) → AreSound before (line ∷ lines)
    → (place_fault before line.says ≡ None) × AreSound (before ++ line ∷ []) lines
unfolding first_after kind_of
sound_first before line lines e =
    let parts = none_both (fault_of before line) (first_after fault_of (before ++ line ∷ []) lines) e in
    ((none_both (place_fault before line.says) _ (none_mapped (at_line line.number) (kind_of before line) parts.0)).0, parts.1)

-- nor has a line of their front
sound_front : (before lines : List Said) (n : ℕ) → AreSound before lines → AreSound before (take n lines)
sound_front before lines n e =
    (none_both _ _ (sym (first_after-append fault_of before (take n lines) (drop n lines))
    ∙ ap (first_after fault_of before) (take-append-drop n lines) ∙ e)).0

-- one more line, and where the next one stands
pub is_inside_more : (before : List Said) (line : Said) → is_inside (before ++ line ∷ []) ≡ inside_after (is_inside before) line.says
unfolding is_inside
is_inside_more before line = fold_push (λ inside (l : Said). inside_after inside l.says) false before line

pub table_above_more : (before : List Said) (line : Said) → table_above (before ++ line ∷ []) ≡ table_after (table_above before) line.says
unfolding table_above
table_above_more before line = fold_push (λ above (l : Said). table_after above l.says) None before line

pub plane_above_more : (before : List Said) (line : Said) → plane_above (before ++ line ∷ []) ≡ plane_after (plane_above before) line.says
unfolding plane_above
plane_above_more before line = fold_push (λ above (l : Said). plane_after above l.says) None before line

-- a row in its place is a row for the inputs of the table above
row_here : (before : List Said) (tokens ins : List Name) → table_above before ≡ Some ins → place_fault before (row tokens) ≡ None
    → is_row_of (length ins) tokens ≡ true
unfolding table_above
row_here before tokens ins t e = grind arith

rows_fit : (before lines : List Said) (ins : List Name) → AreSound before lines → table_above before ≡ Some ins
    → list_all (is_row_of (length ins)) (rows_below lines) ≡ true
unfolding rows_below
rows_fit before [] ins e t = refl
rows_fit before (line ∷ lines) ins e t =
    let parts = sound_first before line lines e in
    at line.says parts.0 (λ t. rows_fit (before ++ line ∷ []) lines ins parts.1 (table_above_more before line ∙ t))
  where
    at : (says : Statement) → place_fault before says ≡ None
        → (table_after (table_above before) says ≡ Some ins → list_all (is_row_of (length ins)) (rows_below lines) ≡ true)
        → list_all (is_row_of (length ins)) (rows_from (rows_below lines) says) ≡ true
    at (row tokens) f more = rw (row_here before tokens ins t f) (more t)
    at passed f more = more t
    at _ f more = refl

items_fit : (before lines : List Said) → AreSound before lines → AllByRecursion ItemFits (items_of lines)
unfolding items_of
items_fit before [] e = tt
items_fit before (line ∷ lines) e =
    let parts = sound_first before line lines e in (
      at line.says (λ ins t. rows_fit (before ++ line ∷ []) lines ins parts.1 (table_above_more before line ∙ t)),
      items_fit (before ++ line ∷ []) lines parts.1,
    )
  where
    at : (says : Statement)
        → ((ins : List Name) → table_after (table_above before) says ≡ Some ins
        → list_all (is_row_of (length ins)) (rows_below lines) ≡ true)
        → RowsFit says (rows_below lines)
    at (table ins out) rows = rows ins refl
    at _ rows = tt

models_fit : (before lines : List Said) → AreSound before lines → AllByRecursion ModelFits (models_of lines)
unfolding models_of
models_fit before [] e = tt
models_fit before (line ∷ lines) e =
    let behind = (sound_first before line lines e).1 in
    let front = sound_front (before ++ line ∷ []) lines (position_or_len (λ (l : Said). ends_model l.says) lines) behind in
    begun line.says (items_fit (before ++ line ∷ []) (take (position_or_len (λ (l : Said). ends_model l.says) lines) lines) front)
    (models_fit (before ++ line ∷ []) lines behind)
  where
    begun : (says : Statement) → AllByRecursion ItemFits (items_of (take (position_or_len (λ (l : Said). ends_model l.says) lines) lines))
        → AllByRecursion ModelFits (models_of lines) → AllByRecursion ModelFits (model_from line.number lines says ++ models_of lines)
    begun (model name) items more = (items, more)
    begun _ items more = more

none_or : (b : Bool) (found : Option NetlistFault) (fault : NetlistFault) → cond b found (Some fault) ≡ None → found ≡ None
none_or true found fault e = e
none_or false found fault e = cc

pub rows-fit : (lines : List Said) → line_fault lines ≡ None → AllByRecursion ModelFits (models_of lines)
unfolding line_fault kind_of
rows-fit lines e = models_fit [] lines (none_or _ (first_after fault_of [] lines) _ e)
