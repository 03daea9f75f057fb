-- What a file gives, stage by stage.
use Rattle.std.specs.Prelude.{◌≡◌, ℕ, ◌^◌, ◌||◌, List, [], ◌∷◌, nat_lt, length, Option, Result, Ok, Err}
use Rattle.std.specs.Option.{option_or}
use Rattle.circuit.specs.Circuit.{Circuit}
use Rattle.circuit.specs.Sound.{IsNetlist}
use Rattle.fm_base.specs.Firsts.{first_answer, given}
use Rattle.blif_text.specs.declared.NetlistFault.{NetlistFault}
use Rattle.blif_text.specs.declared.NetlistKind.TheVariants.{TooLarge}
use Rattle.blif_model.specs.LineFault.{at_line}
use Rattle.blif_model.specs.ModelFault.{bad_formal, recursive, too_deep, two_models, unbound, unknown_model}
use Rattle.blif_model.specs.ModelSteps.{count_of_cells, count_of_instances}
use Rattle.blif_model.specs.Models.{Model, main_of}
use Rattle.blif_model.specs.WalkSteps.{netlist_unless}
use Rattle.blif_model.specs.Walk.{Step, nets_of, walk}
use Rattle.blif_model.specs.WalkFault.{walk_fault}

-- the fault of models that is found without a walk
abbrev pub unwalked_fault : List Model → Option NetlistFault
unwalked_fault models = option_or (first_answer (two_models models ∷ unknown_model models ∷ bad_formal models ∷ unbound models ∷ []))
    (option_or (option_or (recursive models) (too_deep models))
    (given (nat_lt (2 ^ 18) (count_of_instances models) || nat_lt (2 ^ 24) (count_of_cells models)) (at_line (main_of models).line TooLarge)))

-- too many nets, or the fault of a walk; `line` is that of the main model
abbrev pub flat_fault : List Step → ℕ → Option NetlistFault
flat_fault steps line = option_or (given (nat_lt (2 ^ 18) (length (nets_of steps))) (at_line line TooLarge)) (walk_fault steps)

-- what a walk gives
abbrev pub walk_gives : List Step → ℕ → Result Circuit NetlistFault
walk_gives steps line = netlist_unless steps (flat_fault steps line)

-- what models give
abbrev pub models_give : List Model → Result Circuit NetlistFault
models_give models = netlist_unless (walk models) (option_or (unwalked_fault models) (flat_fault (walk models) (main_of models).line))

-- what a file gives, of whose lines this is read
abbrev pub file_gives : Result (List Model) NetlistFault → Result Circuit NetlistFault
file_gives (Ok models) = models_give models
file_gives (Err fault) = Err fault

-- a netlist that is given is one
abbrev pub IsNetlistIfGiven : Result Circuit NetlistFault → Type 0
IsNetlistIfGiven given = (c : Circuit) → given ≡ Ok c → IsNetlist c
