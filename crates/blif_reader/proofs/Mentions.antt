-- The clock names of the flattened main model are no more than its mentions of them.
use Rattle.std.proofs.Common.{ℕ, zero, suc, ◌+◌, ◌≤◌, List, [], ◌∷◌, ◌++◌, length, arith}
use Rattle.std.specs.Prelude.{Option, Some, None, map, filter_map, sum_by}
use Rattle.std.specs.Option.{option_map, option_map_or, option_to_list}
use Rattle.std.proofs.lemmas.List.Concat.{length-flat_map}
use Rattle.std.proofs.lemmas.List.Sums.{sum_by-append, sum_by-cons, sum_by-le}
use Rattle.fm_base.specs.Names.{Name}
use Rattle.blif_model.specs.Statement.{Statement, inputs, outputs, clock, latch, instance}
use Rattle.blif_model.specs.Models.{Item, Instance, Model, at_model, model_named, main_of, instances, sum_over_instances}
use Rattle.blif_model.specs.ModelSteps.{instance_from}
use Rattle.blif_model.specs.Walk.{Scope, top, inside, Step, acts_of, clock_names, net_of, steps_from, enter, walk}
use Rattle.blif_model.specs.WalkSteps.{scope_of, clocked, inner_steps, next}
use Rattle.blif_reader.specs.Mentions.{count_of_mentions, mention_count, mentions_on}
use Rattle.blif_model.proofs.Counts.{named_sum, named_at, named_more}

-- the clock names of a walk
abbrev clocks_in : List Step → ℕ
clocks_in steps = sum_by (λ s. length (clocked s.act)) steps

abbrev own_sum : List Item → ℕ
own_sum items = sum_by (λ (item : Item). mentions_on item.says) items

-- those of a line's own step, and of its instance
control_mention : (scope : Scope) (c : Option Name) → length (option_to_list (option_map (net_of scope) c)) ≤ length (option_to_list c)
control_mention scope None = omega arith
control_mention scope (Some name) = omega arith

act_of_line : (scope : Scope) (line : ℕ) (says : Statement) (rows : List (List Name)) → clocks_in (map (λ act. record { line = line; act = act }) (acts_of scope says rows)) ≤ mentions_on says
act_of_line scope line (latch l) rows = omega (arith, control_mention scope l.control)
act_of_line top line (clock names) rows = omega arith
act_of_line (inside path bound) line (clock names) rows = omega arith
act_of_line top line (inputs names) rows = omega arith
act_of_line (inside path bound) line (inputs names) rows = omega arith
act_of_line top line (outputs names) rows = omega arith
act_of_line (inside path bound) line (outputs names) rows = omega arith
act_of_line scope line says rows = omega arith

module _ (f : Scope → Name → List Step) (g : Name → ℕ) (most : (scope : Scope) (name : Name) → clocks_in (f scope name) ≤ g name) where
  inner_of_line : (scope : Scope) (j : ℕ) (says : Statement) → clocks_in (inner_steps f scope j says) ≤ named_at g says
  inner_of_line scope j (instance name bindings) = most (scope_of scope j bindings) name
  inner_of_line scope j says = omega arith

  -- those of items: their own, and those of the models that they instance
  items_clocks : (scope : Scope) (j : ℕ) (items : List Item) → clocks_in (steps_from f scope j items) ≤ own_sum items + named_sum g items
  unfolding steps_from
  items_clocks scope j [] = omega arith
  items_clocks scope j (item ∷ items) =
      let own = sum_by-cons (λ (i : Item). mentions_on i.says) item items in
      let named = named_more g item.line item.says item.rows items in
      let acts : List Step = map (λ act. record { line = item.line; act = act }) (acts_of scope item.says item.rows) in
      let inner : List Step = inner_steps f scope j item.says in
      let all = sum_by-append (λ (s : Step). length (clocked s.act)) (acts ++ inner) (steps_from f scope (next j item.says) items) in
      let both = sum_by-append (λ (s : Step). length (clocked s.act)) acts inner in
      let few = act_of_line scope item.line item.says item.rows in
      let within = inner_of_line scope j item.says in
      let rest = items_clocks scope (next j item.says) items in
      omega arith

model_at : (f : Model → List Step) (g : Model → ℕ) → ((m : Model) → clocks_in (f m) ≤ g m) → (found : Option Model) → clocks_in (option_map_or f found []) ≤ option_map_or g found 0
model_at f g most None = omega arith
model_at f g most (Some m) = most m

module _ (models : List Model) where
  model_clocks : (depth : ℕ) (scope : Scope) (m : Model) → clocks_in (steps_from (enter models depth) scope 0 m.items) ≤ sum_over_instances mention_count models depth m
  unfolding enter sum_over_instances instances
  model_clocks zero scope m =
      let most = items_clocks (enter models zero) (λ name. 0) (λ inner name. omega arith) scope 0 m.items in
      let none = sum_by-le (λ (i : Instance). 0) 0 (filter_map (λ (item : Item). instance_from item.line item.says) m.items) (λ k d lt. omega arith) in
      omega arith
  model_clocks (suc depth) scope m =
      items_clocks (enter models (suc depth)) (λ name. at_model models name (sum_over_instances mention_count models depth) 0)
      (λ inner name. model_at (λ n. steps_from (enter models depth) inner 0 n.items) (sum_over_instances mention_count models depth) (model_clocks depth inner) (model_named models name)) scope 0 m.items

  -- no more clock names than mentions
  pub few_clocks : length (clock_names (walk models)) ≤ count_of_mentions models
  unfolding walk clock_names
  few_clocks =
      let most = model_clocks 32 top (main_of models) in
      let size = length-flat_map (λ (s : Step). clocked s.act) (walk models) in
      omega arith
