-- What the numbering of names does.
use Rattle.std.specs.Prelude.{◌≡◌, ℕ, List, ◌++◌, All, Option, Some, flat_map, fold, length, map}
use Rattle.std.specs.Option.{option_to_list}
use Rattle.fm_base.specs.Index.{with_name}
use Rattle.fm_base.specs.Names.{Name}
use Rattle.blif_model.specs.Walk.{Act, Step}
use Rattle.blif_flatten.specs.declared.flat.NameId.{NameId}
use Rattle.blif_flatten.specs.declared.flat.NumberedAct.{NumberedAct}
use Rattle.blif_flatten.specs.declared.flat.NumberedStep.{NumberedStep}
use Rattle.blif_flatten.specs.Flat.{AreBelow, act_by, all_names, ids_in, mentioned, name_at, steps_by}
use Rattle.blif_flatten.specs.Thinned.{with_steps}

-- names went to those that were there, where they are new; each number is that of its name, whatever names go there later
pub record HaveNumbers (old new : List Name) (texts : List Name) (ids : List NameId) : Type 0 where
  pub names : new ≡ fold with_name old texts
  pub same : (later : List Name) → map (name_at (fold with_name new later)) ids ≡ texts
  pub within : AreBelow (length new) ids

-- the same of the names of steps
pub record AreNumbered (old new : List Name) (steps : List NumberedStep) : Type 0 where
  pub names : new ≡ fold with_name old (flat_map (λ s. mentioned s.act) (steps_by new steps))
  pub same : (later : List Name) → steps_by (fold with_name new later) steps ≡ steps_by new steps
  pub within : All (λ s. AreBelow (length new) (ids_in s.act)) steps

-- the step of a line, where it does something
abbrev pub own_step : ℕ → Option NumberedAct → List NumberedStep
own_step line act = map (λ a. record { line = line; act = a }) (option_to_list act)

-- the names of a line, whatever its number is
abbrev pub IsLineNumbered : (old new : List Name) → Option NumberedAct → Type 0
IsLineNumbered old new act = (line : ℕ) → AreNumbered old new (own_step line act)

-- the act that numbers stand for, and the names of its line
abbrev pub IsNumberedAs : (old new : List Name) → Act → NumberedAct → Type 0
IsNumberedAs old new act numbered = (act_by (name_at new) numbered ≡ act) × IsLineNumbered old new (Some numbered)

-- what is kept of the acts of a line, whatever its number is and whatever lines of the old names stand before it
abbrev pub IsKept : (old new : List Name) → List Act → Option NumberedAct → Type 0
IsKept old new acts kept =
    ((before : List Step) (line : ℕ) → all_names before ≡ old
    → with_steps before (map (λ act. record { line = line; act = act }) acts) ≡ before ++ steps_by new (own_step line kept))
    × IsLineNumbered old new kept
