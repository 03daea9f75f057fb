-- What a netlist file that isn't refused gives: each fault that could be isn't there, and the netlist is one.
use Rattle.std.proofs.Common.{◌≡◌, ◌≤◌, ◌^◌, List, [], ◌∷◌, refl, sym, subst, ◌∙◌, length}
use Rattle.std.specs.Prelude.{Option, Some, None, Ok}
use Rattle.std.specs.List.{AllByRecursion}
use Rattle.std.proofs.lemmas.Bool.{ltb-false}
use Rattle.blif_text.specs.declared.NetlistFault.{NetlistFault}
use Rattle.circuit.specs.Circuit.{Circuit}
use Rattle.circuit.specs.Sound.{IsNetlist}
use Rattle.fm_base.specs.Firsts.{first_answer}
use Rattle.fm_base.specs.Names.{Bytes}
use Rattle.fm_base.proofs.Tests.{or_false}
use Rattle.net_names.proofs.Answers.{not_given, same_answer}
use Rattle.blif_model.specs.LineFault.{line_fault, said_lines}
use Rattle.blif_model.specs.Models.{Model, file_models}
use Rattle.blif_model.specs.ModelFault.{model_fault, model_faults}
use Rattle.blif_model.specs.ModelSteps.{count_of_nets}
use Rattle.blif_model.specs.Walk.{Step, walk, nets_of}
use Rattle.blif_model.specs.WalkFault.{walk_fault, walk_faults, two_clocks, bad_clock, clock_read, two_drivers, undriven}
use Rattle.blif_model.specs.Net.{bad_net, circuit_of, netlist_of}
use Rattle.blif_model.specs.WalkSteps.{netlist_unless}
use Rattle.blif_model.proofs.Answer.{netlist-told}
use Rattle.blif_model.proofs.TableRows.{rows-fit}
use Rattle.blif_model.proofs.Fits.{walk-fits}
use Rattle.blif_model.proofs.Sound.{netlist-sound}
use Rattle.fm_base.proofs.Options.{none_both}

-- where no answer comes first, none is there
none_each : (answers : List (Option NetlistFault)) → first_answer answers ≡ None → AllByRecursion (λ answer. answer ≡ None) answers
none_each [] e = tt
none_each (answer ∷ answers) e = let parts = none_both answer (first_answer answers) e in (parts.0, none_each answers parts.1)

-- no fault of the lines, of the models or of the walk
pub record IsUnfaulted (bytes : Bytes) : Type 0 where
  pub lines : line_fault (said_lines bytes) ≡ None
  pub models : model_fault (file_models bytes) ≡ None
  pub walk : walk_fault (walk (file_models bytes)) ≡ None

pub unfaulted : (bytes : Bytes) → bad_net bytes ≡ None → IsUnfaulted bytes
unfolding bad_net
unfaulted bytes e =
    let none = none_each (line_fault (said_lines bytes) ∷ model_fault (file_models bytes) ∷ walk_fault (walk (file_models bytes)) ∷ []) e in
    record { lines = none.0; models = none.1.0; walk = none.1.1.0 }

-- at most 2^18 nets
few_nets : (models : List Model) → model_fault models ≡ None → length (nets_of (walk models)) ≤ 2 ^ 18
unfolding model_fault
few_nets models e =
    let none = none_each (model_faults models) e in
    ltb-false (2 ^ 18) (count_of_nets models) (or_false _ _ (not_given _ _ none.1.1.1.1.1.1.0)).1

-- no fault of the walk is none of each kind
pub record HasNone (steps : List Step) : Type 0 where
  pub clocks : two_clocks steps ≡ None
  pub controls : bad_clock steps ≡ None
  pub reads : clock_read steps ≡ None
  pub drivers : two_drivers steps ≡ None
  pub driven : undriven steps ≡ None

pub walk_unfaulted : (steps : List Step) → walk_fault steps ≡ None → HasNone steps
unfolding walk_fault two_clocks bad_clock clock_read two_drivers undriven
walk_unfaulted steps e =
    let none = none_each (walk_faults steps) e in
    record { clocks = none.0; controls = none.1.0; reads = none.1.1.0; drivers = none.1.1.1.0; driven = none.1.1.1.1.0 }

-- the netlist of a file without a fault
pub unfaulted-netlist : (bytes : Bytes) → IsUnfaulted bytes → IsNetlist (circuit_of (walk (file_models bytes)))
unfolding file_models
unfaulted-netlist bytes u =
    let none = walk_unfaulted (walk (file_models bytes)) u.walk in
    netlist-sound (walk (file_models bytes)) none.drivers none.driven none.reads
    (walk-fits (file_models bytes) (rows-fit (said_lines bytes) u.lines)) (few_nets (file_models bytes) u.models)

-- a netlist that a file gives is one
pub netlist-is : (bytes : Bytes) (c : Circuit) → netlist_of bytes ≡ Ok c → IsNetlist c
netlist-is bytes c e = by_cases (bad_net bytes) refl (sym (netlist-told bytes) ∙ e)
  where
    by_cases : (o : Option NetlistFault) → bad_net bytes ≡ o → netlist_unless (walk (file_models bytes)) o ≡ Ok c → IsNetlist c
    by_cases None none e =
        subst IsNetlist (same_answer (circuit_of (walk (file_models bytes))) c _ refl e) (unfaulted-netlist bytes (unfaulted bytes none))
    by_cases (Some fault) some e = cc
