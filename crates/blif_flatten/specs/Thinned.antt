-- The walk without the visits of nets that were mentioned before, which tell nothing new.
use Rattle.std.specs.Prelude.{List, [], ◌∷◌, ◌++◌, fold, if◌then◌else◌, map}
use Rattle.fm_base.specs.Names.{Name, is_one_of}
use Rattle.blif_model.specs.Walk.{Act, visits, Step}
use Rattle.blif_flatten.specs.Flat.{all_names}

-- the names that aren't among those seen, each at its first place
unfoldable pub unseen : List Name → List Name → List Name
unseen seen [] = []
unseen seen (name ∷ names) = if is_one_of seen name then unseen seen names else name ∷ unseen (seen ++ name ∷ []) names

-- a visit of these nets, unless there are none
abbrev pub some_visits : List Name → List Act
some_visits [] = []
some_visits names = visits names ∷ []

-- what is kept of a line where these names were seen: of nets that it only visits those that are new
abbrev pub kept_of : List Name → Act → List Act
kept_of seen (visits names) = some_visits (unseen seen names)
kept_of seen act = act ∷ []

-- steps, and behind them what is kept of one more
abbrev pub with_step : List Step → Step → List Step
with_step steps s = steps ++ map (λ act. record { line = s.line; act = act }) (kept_of (all_names steps) s.act)

-- the same of more steps
unfoldable pub with_steps : List Step → List Step → List Step
with_steps steps more = fold with_step steps more

-- what is kept of the steps of a walk, each behind those before it
unfoldable pub thinned : List Step → List Step
thinned steps = with_steps [] steps
