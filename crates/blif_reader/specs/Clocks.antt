-- TwoClocks by the first type of latch and the first clock name.
use Rattle.std.specs.Prelude.{Bool, false, not, ◌||◌, List, [], ◌∷◌, ◌++◌, Option, Some, None, bytes_eq, map}
use Rattle.std.specs.Option.{option_or}
use Rattle.fm_base.specs.Names.{Name}
use Rattle.blif_model.specs.Walk.{Act}
use Rattle.blif_model.specs.WalkSteps.{clocked, edge_of}

-- the type of a latch, or a clock name
pub data Mark : Type 0 where
  edge : Name → Mark
  control : Name → Mark

-- the first type of latch, and the first clock name
pub record Firsts : Type 0 where
  pub edge : Option Name
  pub control : Option Name

-- the name isn't the first one
abbrev pub is_other : Option Name → Name → Bool
is_other None name = false
is_other (Some first) name = not (bytes_eq first name)

abbrev pub is_apart : Firsts → Mark → Bool
is_apart firsts (edge name) = is_other firsts.edge name
is_apart firsts (control name) = is_other firsts.control name

-- the first of each, with one more mark
abbrev pub firsts_with : Firsts → Mark → Firsts
firsts_with firsts (edge name) = record { edge = option_or firsts.edge (Some name); control = firsts.control }
firsts_with firsts (control name) = record { edge = firsts.edge; control = option_or firsts.control (Some name) }

-- one of the marks isn't the first
abbrev pub any_apart : Firsts → List Mark → Bool
any_apart firsts [] = false
any_apart firsts (mark ∷ marks) = is_apart firsts mark || any_apart (firsts_with firsts mark) marks

-- the marks of a line
abbrev pub marks_in : Act → List Mark
marks_in act = map edge (edge_of act) ++ map control (clocked act)
