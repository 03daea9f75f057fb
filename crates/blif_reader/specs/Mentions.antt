-- How often clock names stand in the flattened main model: on `.clock` lines, and as controls of latches.
use Rattle.std.specs.Prelude.{ℕ, List, length, sum_by}
use Rattle.std.specs.Option.{option_to_list}
use Rattle.blif_model.specs.Models.{Model, main_of, sum_over_instances}
use Rattle.blif_model.specs.Statement.{Statement, clock, latch}

-- on a line
abbrev pub mentions_on : Statement → ℕ
mentions_on (clock names) = length names
mentions_on (latch line) = length (option_to_list line.control)
mentions_on _ = 0

-- in a model, without the instances in it
abbrev pub mention_count : Model → ℕ
mention_count m = sum_by (λ item. mentions_on item.says) m.items

-- in the flattened main model, where those on the `.clock` lines of instances count too
abbrev pub count_of_mentions : List Model → ℕ
count_of_mentions models = sum_over_instances mention_count models 32 (main_of models)
