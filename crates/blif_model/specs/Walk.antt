-- The walk of the flattened main model: its lines in order, with net names, and at each `.subckt` line those of the instance.
-- Source: BLIF of SIS; the names of nets in instances are this project's own.
use Rattle.std.specs.Prelude.{ℕ, zero, suc, ◌+◌, not, List, [], ◌∷◌, ◌++◌, codes, bytes_eq, decimal, find, map, flat_map, filter}
use Rattle.std.specs.Option.{option_map, option_map_or, option_to_list}
use Rattle.blif_model.specs.Statement.{Binding, LatchLine, Statement, inputs, outputs, clock, table, latch, instance}
use Rattle.blif_model.specs.Models.{Item, Model, at_model, main_of}
use Rattle.fm_base.specs.Names.{Name, is_one_of, distinct}

-- ---- names of nets

-- where a name stands: in the main model, or in an instance with this path, where formals are bound to nets
pub data Scope : Type 0 where
  top : Scope
  inside : (path : Name) (bound : List Binding) → Scope

-- the net of a name: in the main model itself; in an instance that of its actual, or else the name behind the path
unfoldable pub net_of : Scope → Name → Name
net_of top name = name
net_of (inside path bound) name = option_map_or (λ b. b.actual) (find (λ b. bytes_eq b.formal name) bound) (path ++ codes "." ++ name)

-- ---- the steps of the walk

-- what a line of the walk does with its nets
pub data Act : Type 0 where
  -- an `.inputs`, an `.outputs` and a `.clock` line of the main model; such a line of an instance, or the actuals at a `.subckt` line
  takes gives clocks visits : List Name → Act
  flat_table : (ins : List Name) (out : Name) (rows : List (List Name)) → Act
  flat_latch : LatchLine → Act

-- a line of the walk
pub record Step : Type 0 where
  pub line : ℕ
  pub act : Act

-- what a line with rows does in a scope: ports mean something of their own in the main model alone; a `.subckt` line visits its actuals
abbrev pub acts_of : Scope → Statement → List (List Name) → List Act
acts_of scope says rows =
    let net = net_of scope in
    let port : (List Name → Act) → List Name → Act = λ own names. elim scope [ top ↦ own names | inside _ _ ↦ visits (map net names) ] in
    elim says [
      | inputs names ↦ port takes names ∷ []
      | outputs names ↦ port gives names ∷ []
      | clock names ↦ port clocks names ∷ []
      | table ins out ↦ flat_table (map net ins) (net out) rows ∷ []
      | latch l ↦ flat_latch (record l { from = net l.from; to = net l.to; control = option_map net l.control }) ∷ []
      | instance name bindings ↦ visits (map (λ b. net b.actual) bindings) ∷ []
      | _ ↦ []
    ]

-- the walk of the items from instance j on; behind a `.subckt` line comes that of its instance, where `enter` walks the model of a name
unfoldable pub steps_from : (Scope → Name → List Step) → Scope → ℕ → List Item → List Step
steps_from enter scope j [] = []
steps_from enter scope j (item ∷ items) =
    let own = map (λ act. record { line = item.line; act = act }) (acts_of scope item.says item.rows) in
    let path : Name = elim scope [ top ↦ codes "u" ++ decimal j | inside path bound ↦ path ++ codes ".u" ++ decimal j ] in
    let bound = map (λ (b : Binding). record { formal = b.formal; actual = net_of scope b.actual }) in
    let inner : List Step = elim item.says [ instance name bindings ↦ enter (inside path (bound bindings)) name | _ ↦ [] ] in
    let next : ℕ = elim item.says [ instance name bindings ↦ j + 1 | _ ↦ j ] in
    own ++ inner ++ steps_from enter scope next items

-- the walk of the model of a name in a scope, and of the instances in it down to this depth
unfoldable pub enter : List Model → ℕ → Scope → Name → List Step
enter models zero scope name = []
enter models (suc depth) scope name = at_model models name (λ m. steps_from (enter models depth) scope 0 m.items) []

-- the walk of the flattened main model, whose instances are numbered from 0, as those of each model are
unfoldable pub walk : List Model → List Step
walk models = steps_from (enter models 32) top 0 (main_of models).items

-- ---- clock names and nets

-- the nets that a step visits, from left to right
abbrev pub visited : Act → List Name
visited act =
    let ports : List Name = elim act [ takes names ↦ names | gives names ↦ names | clocks names ↦ names | visits names ↦ names | _ ↦ [] ] in
    elim act [ flat_table ins out rows ↦ ins ++ out ∷ [] | flat_latch l ↦ l.from ∷ l.to ∷ [] | _ ↦ ports ]

-- a name at a line of the walk
pub record Visit : Type 0 where
  pub name : Name
  pub line : ℕ

-- the visits of the walk
unfoldable pub visits_of : List Step → List Visit
visits_of steps = flat_map (λ s. map (λ name. record { name = name; line = s.line }) (visited s.act)) steps

-- the clock names: those on the main model's `.clock` lines, and the nets of all controls
unfoldable pub clock_names : List Step → List Name
clock_names steps = flat_map (λ s. elim s.act [ clocks names ↦ names | flat_latch l ↦ option_to_list l.control | _ ↦ [] ]) steps

-- the names without the clock names
abbrev pub unclocked : List Step → List Name → List Name
unclocked steps names = filter (λ name. not (is_one_of (clock_names steps) name)) names

-- the nets in order of first visit
unfoldable pub nets_of : List Step → List Name
nets_of steps = unclocked steps (distinct (map (λ v. v.name) (visits_of steps)))

-- the nets that are driven, each as often as it is, in the order of the walk: inputs but clock names, and what tables and latches drive
unfoldable pub drives_of : List Step → List Visit
drives_of steps =
    let driven : Act → List Name = elim [ takes ns ↦ unclocked steps ns | flat_table _ o _ ↦ o ∷ [] | flat_latch l ↦ l.to ∷ [] | _ ↦ [] ] in
    flat_map (λ s. map (λ name. record { name = name; line = s.line }) (driven s.act)) steps
