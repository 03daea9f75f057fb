-- What is answered for a file, from what is found of its models and of their walk.
use Rattle.std.proofs.Common.{◌≡◌, ℕ, ◌+◌, ◌-◌, ◌<◌, ◌^◌, min, List, [], ◌∷◌, refl, ap, ◌∙◌, length, arith}
use Rattle.std.specs.Prelude.{Option, Some, None, Err, nat_lt}
use Rattle.std.specs.Option.{option_or}
use Rattle.blif_text.specs.declared.NetlistFault.{NetlistFault}
use Rattle.blif_text.specs.declared.NetlistKind.TheVariants.{TooLarge}
use Rattle.fm_base.specs.declared.refusal.Refusal.{Refusal}
use Rattle.fm_base.specs.declared.refusal.Refusal.TheVariants.{Fault, Memory}
use Rattle.fm_base.specs.Answers.{Gives}
use Rattle.fm_base.specs.Firsts.{first_answer, given}
use Rattle.fm_base.specs.Names.{Bytes}
use Rattle.fm_base.proofs.Options.{or_assoc, or_none}
use Rattle.blif_model.specs.Answer.{models_read, models_unless}
use Rattle.blif_model.specs.LineFault.{at_line, line_fault, said_lines}
use Rattle.blif_model.specs.Models.{Model, file_models, main_of}
use Rattle.blif_model.specs.ModelFault.{model_fault, two_models, unknown_model, bad_formal, unbound, recursive, too_deep, too_large}
use Rattle.blif_model.specs.ModelSteps.{count_of_nets}
use Rattle.blif_model.specs.Walk.{nets_of, walk}
use Rattle.blif_model.specs.WalkFault.{walk_fault}
use Rattle.blif_model.specs.Net.{bad_net, netlist_of}
use Rattle.blif_model.specs.WalkSteps.{netlist_unless}
use Rattle.blif_model.proofs.Answer.{netlist-told}
use Rattle.blif_flatten.specs.Flat.{all_names}
use Rattle.blif_reader.specs.Mentions.{count_of_mentions}
use Rattle.blif_reader.specs.Stages.{file_gives, unwalked_fault}
use Rattle.blif_reader.proofs.FlatNets.{few_names}
use Rattle.blif_reader.proofs.FlatSteps.{given_or}
use Rattle.blif_reader.proofs.Mentions.{few_clocks}

-- more names than nets and mentions of clock names allow
pub over_names : (models : List Model) (most : ℕ) → most ≡ min (2 ^ 64 - 1) (2 ^ 18 + count_of_mentions models)
    → (most < 2 ^ 64 - 1) × (most < length (all_names (walk models))) → 2 ^ 18 < length (nets_of (walk models))
over_names models most counted over = let names = few_names (walk models) in let clocks = few_clocks models in omega (arith, over.0, over.1)

-- the kinds of faults of models
model_kinds : (models : List Model)
    → model_fault models
    ≡ first_answer (two_models models ∷ unknown_model models ∷ bad_formal models ∷ unbound models ∷ recursive models ∷ too_deep models
    ∷ too_large models ∷ [])
unfolding model_fault two_models unknown_model bad_formal unbound recursive too_deep too_large
model_kinds models = refl

-- too many nets come behind all else
nets_last : (models : List Model) → model_fault models ≡ option_or (unwalked_fault models) (given (nat_lt (2 ^ 18) (count_of_nets models)) (at_line (main_of models).line TooLarge))
unfolding too_large
nets_last models = rw (model_kinds models) (simp (or_none, or_assoc, given_or))

-- what a file gives is told by its models
pub file_is : (bytes : Bytes) → netlist_of bytes ≡ file_gives (models_read bytes)
unfolding bad_net
file_is bytes = netlist-told bytes ∙ by_cases (line_fault (said_lines bytes))
  where
    models : List Model
    models = file_models bytes

    by_cases : (lines : Option NetlistFault) → netlist_unless (walk models) (option_or lines (option_or (model_fault models) (option_or (walk_fault (walk models)) None))) ≡ file_gives (models_unless lines models)
    by_cases (Some fault) = refl
    by_cases None = rw (nets_last models, or_none (walk_fault (walk models)), or_assoc (unwalked_fault models)) refl

-- a file of which no models are read
pub gives_unread : (bytes : Bytes) (refusal : Refusal NetlistFault) → Gives (models_read bytes) (Err refusal) → Gives (netlist_of bytes) (Err refusal)
gives_unread bytes (Fault fault) told = file_is bytes ∙ ap file_gives told
gives_unread bytes (Memory no_room) told = told
