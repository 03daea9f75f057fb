-- In the walk, as in the models, the rows of each table are rows for its inputs.
use Rattle.std.proofs.Common.{◌≡◌, ℕ, zero, suc, Bool, true, false, cond, List, [], ◌∷◌, map, length}
use Rattle.std.specs.Prelude.{bytes_eq, MatchOption, Option, Some, None}
use Rattle.std.specs.List.{AllByRecursion, list_all}
use Rattle.std.specs.Option.{option_map_or}
use Rattle.std.proofs.lemmas.List.{length-map}
use Rattle.fm_base.specs.Names.{Name}
use Rattle.blif_text.proofs.Slices.{all-append}
use Rattle.blif_model.specs.LineFault.{is_row_of}
use Rattle.blif_model.specs.Statement.{Statement, table, instance}
use Rattle.blif_model.specs.Models.{Item, Model, model_named, main_of}
use Rattle.blif_model.specs.Walk.{Scope, top, inside, Act, flat_table, Step, acts_of, net_of, steps_from, enter, walk}
use Rattle.blif_model.specs.WalkSteps.{scope_of, inner_steps, next}
use Rattle.blif_model.proofs.TableRows.{RowsFit, ItemFits, ModelFits}

-- the rows of a table of the walk have a cell for each input
abbrev pub ActFits : Act → Type 0
ActFits (flat_table ins out rows) = list_all (is_row_of (length ins)) rows ≡ true
ActFits _ = Unit {0}

abbrev pub StepsFit : List Step → Type 0
StepsFit steps = AllByRecursion (λ s. ActFits s.act) steps

acts_fit : (scope : Scope) (line : ℕ) (says : Statement) (rows : List (List Name)) → RowsFit says rows
    → StepsFit (map (λ act. record { line = line; act = act }) (acts_of scope says rows))
acts_fit scope line (table ins out) rows fits = (rw (length-map ins (net_of scope)) fits, tt)
acts_fit top line says rows fits = search
acts_fit (inside path bound) line says rows fits = search

inner_fit : (f : Scope → Name → List Step) → ((scope : Scope) (name : Name) → StepsFit (f scope name))
    → (scope : Scope) (j : ℕ) (says : Statement) → StepsFit (inner_steps f scope j says)
inner_fit f fits scope j (instance name bindings) = fits (scope_of scope j bindings) name
inner_fit f fits scope j says = tt

steps_fit : (f : Scope → Name → List Step) → ((scope : Scope) (name : Name) → StepsFit (f scope name))
    → (scope : Scope) (j : ℕ) (items : List Item)
    → AllByRecursion ItemFits items → StepsFit (steps_from f scope j items)
unfolding steps_from
steps_fit f fits scope j [] all = tt
steps_fit f fits scope j (item ∷ items) all =
    all-append _ _ _ (all-append _ _ _ (acts_fit scope item.line item.says item.rows all.0) (inner_fit f fits scope j item.says))
    (steps_fit f fits scope (next j item.says) items all.1)

found_fits : (models : List Model) (name : Name) → AllByRecursion ModelFits models
    → MatchOption (model_named models name) (Unit {0}) ModelFits
found_fits [] name all = tt
found_fits (x ∷ xs) name all = by_cases (bytes_eq x.name name) (found_fits xs name all.1)
  where
    by_cases : (b : Bool) → MatchOption (model_named xs name) (Unit {0}) ModelFits
        → MatchOption (cond b (Some x) (model_named xs name)) (Unit {0}) ModelFits
    by_cases true more = all.0
    by_cases false more = more

enter_fits : (models : List Model) → AllByRecursion ModelFits models → (depth : ℕ) (scope : Scope) (name : Name)
    → StepsFit (enter models depth scope name)
unfolding enter
enter_fits models all zero scope name = tt
enter_fits models all (suc depth) scope name = at (model_named models name) (found_fits models name all) (enter_fits models all depth)
  where
    at : (o : Option Model) → MatchOption o (Unit {0}) ModelFits
        → ((inner : Scope) (other : Name) → StepsFit (enter models depth inner other))
        → StepsFit (option_map_or (λ (m : Model). steps_from (enter models depth) scope 0 m.items) o [])
    at None found fits = tt
    at (Some m) found fits = steps_fit (enter models depth) fits scope 0 m.items found

main_fits : (models : List Model) → AllByRecursion ModelFits models → ModelFits (main_of models)
main_fits [] all = tt
main_fits (m ∷ models) all = all.0

-- where the tables of the models fit, those of the walk do
pub walk-fits : (models : List Model) → AllByRecursion ModelFits models → StepsFit (walk models)
unfolding walk
walk-fits models all = steps_fit (enter models 32) (enter_fits models all 32) top 0 (main_of models).items (main_fits models all)
