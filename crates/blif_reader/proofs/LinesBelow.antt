-- Lines, and the rows and the items that they are, one by one.
use Rattle.std.proofs.Common.{◌≡◌, ℕ, ◌+◌, ◌<◌, List, [], ◌∷◌, refl, sym, ◌∙◌, length, drop, get_or, arith}
use Rattle.std.specs.Prelude.{filter_map, map, min, slice_get, sum_by}
use Rattle.std.specs.List.{cons_option}
use Rattle.std.specs.Option.{unwrap_or}
use Rattle.std.proofs.lemmas.List.{at_drop_more}
use Rattle.std.proofs.lemmas.List.Sums.{sum_by-cons}
use Rattle.fm_base.specs.Names.{Name}
use Rattle.blif_text.specs.declared.token.Token.{Token}
use Rattle.std.specs.Borrow.{Bor}
use Rattle.blif_model.specs.LineFault.{Said}
use Rattle.blif_model.specs.Models.{Item, Model, instances, items_of, rows_below, sum_over_instances}
use Rattle.blif_model.specs.ModelSteps.{instance_from, rows_from}
use Rattle.blif_model.specs.Statement.{Statement, instance}
use Rattle.blif_model.specs.declared.says.Says.{Says}
use Rattle.blif_model.specs.declared.says.Says.TheVariants.{Row, Passed}
use Rattle.blif_model.specs.Meant.{meant}
use Rattle.blif_reader.specs.declared.counts.Count.{Count}
use Rattle.blif_reader.specs.declared.counts.Count.TheVariants.{Instances, Cells, Mentions}
use Rattle.blif_reader.specs.Counts.{count_on, instances_on, main_count, model_count}

-- the rows from a line on, by what the line says
pub rows_step : (lines : List Said) (i : ℕ) (x : Said) (says known : Says) → i < length lines → x ≡ get_or lines i x → meant says ≡ x.says → says ≡ known
    → rows_below (drop i lines) ≡ rows_from (rows_below (drop (i + 1) lines)) (meant known)
unfolding rows_below
rows_step lines i x says known lt is means same = at_drop_more rows_below lines i x lt ∙ rw (sym is, sym means, same) refl

-- any line but a row and one that is read past ends the rows
pub ends_rows : (says : Says) → ((tokens : Bor (List Token)) → says ≡ Row tokens → ⊥) → (says ≡ Passed → ⊥) → (more : List (List Name)) → rows_from more (meant says) ≡ []
ends_rows (Row tokens) row passed more = absurd (row tokens refl)
ends_rows Passed row passed more = absurd (passed refl)
ends_rows says row passed more = refl

abbrev pub counted : Count → List Said → ℕ
counted count lines = sum_by (λ (item : Item). count_on count item.says item.rows) (items_of lines)

-- what is counted from a line on
pub count_step : (count : Count) (lines : List Said) (i : ℕ) (x : Said) (says : Says) → i < length lines → x ≡ get_or lines i x → meant says ≡ x.says
    → counted count (drop i lines) ≡ count_on count (meant says) (rows_below (drop (i + 1) lines)) + counted count (drop (i + 1) lines)
unfolding items_of
count_step count lines i x says lt is means =
    let rest : List Said = drop (i + 1) lines in
    let first : Item = record { line = x.number; says = x.says; rows = rows_below rest } in
    let here = rw (sym is) at (at_drop_more (counted count) lines i x lt) in
    here ∙ sum_by-cons (λ (item : Item). count_on count item.says item.rows) first (items_of rest) ∙ rw (sym means) refl

-- the instances of a model, one for each such line
instances_counted : (items : List Item) → sum_by (λ item. instances_on item.says) items ≡ length (filter_map (λ item. instance_from item.line item.says) items)
instances_counted [] = refl
instances_counted (item ∷ items) = sum_by-cons (λ (i : Item). instances_on i.says) item items ∙ by_cases item.says (instances_counted items)
  where
    by_cases : (says : Statement) → sum_by (λ i. instances_on i.says) items ≡ length (filter_map (λ i. instance_from i.line i.says) items)
        → instances_on says + sum_by (λ i. instances_on i.says) items ≡ length (cons_option (instance_from item.line says) (filter_map (λ i. instance_from i.line i.says) items))
    by_cases (instance name bindings) more = omega arith
    by_cases says more = omega arith

pub model_counted : (count : Count) (m : Model) → sum_by (λ item. count_on count item.says item.rows) m.items ≡ model_count count m
unfolding instances
model_counted Instances m = instances_counted m.items
model_counted Cells m = refl
model_counted Mentions m = refl

-- the first of the totals is that of the main model, and there is none where there is no model
pub main_total : (count : Count) (cap : ℕ) (models : List Model)
    → unwrap_or (slice_get (map (λ m. min cap (sum_over_instances (model_count count) models 32 m)) models) 0) 0 ≡ min cap (main_count count models)
unfolding sum_over_instances instances
main_total count cap (m ∷ models) = refl
main_total Instances cap [] = omega arith
main_total Cells cap [] = omega arith
main_total Mentions cap [] = omega arith
