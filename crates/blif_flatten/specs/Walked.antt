-- How the walk goes on.
use Rattle.std.specs.Prelude.{◌≡◌, ◌<◌, ◌-◌, ◌^◌, List, length, Option, Some, None}
use Rattle.blif_model.specs.Walk.{Step}
use Rattle.blif_flatten.specs.declared.walked.Walked.{Walked}
use Rattle.blif_flatten.specs.Flat.{all_names, steps_by}
use Rattle.blif_flatten.specs.Thinned.{with_steps}

-- the steps so far
abbrev pub walked_steps : Walked → List Step
walked_steps w = steps_by w.names.index w.steps.items

-- it goes on by what is kept of these steps, unless they bring a name too many, of which there may then be as many as a number of 64 bits tells
abbrev pub IsWalkedOn : Walked → List Step → Option Walked → Type 0
IsWalkedOn before steps None = (before.most < 2 ^ 64 - 1) × (before.most < length (all_names (with_steps (walked_steps before) steps)))
IsWalkedOn before steps (Some after) = (after.most ≡ before.most) × (walked_steps after ≡ with_steps (walked_steps before) steps)
