-- A netlist is read exactly where there is no fault.
use Rattle.std.proofs.Common.{◌≡◌, ◌∙◌, ℕ, List, refl, ap}
use Rattle.std.specs.Prelude.{Option, Some, None, Ok, Err, is_ok, is_none}
use Rattle.blif_text.specs.declared.NetlistFault.{NetlistFault}
use Rattle.blif_model.specs.ModelFault.{model_fault}
use Rattle.blif_model.specs.Models.{file_models}
use Rattle.blif_model.specs.Walk.{Step, walk}
use Rattle.blif_model.specs.Net.{bad_net, netlist_of, circuit_of}
use Rattle.blif_model.specs.WalkFault.{walk_fault}
use Rattle.blif_model.specs.WalkSteps.{netlist_unless}

-- the netlist, unless there is a fault
pub netlist-told : (bytes : List ℕ) → netlist_of bytes ≡ netlist_unless (walk (file_models bytes)) (bad_net bytes)
unfolding netlist_of bad_net file_models model_fault walk_fault
netlist-told bytes = refl

pub netlist-refused : (bytes : List ℕ) (fault : NetlistFault) → bad_net bytes ≡ Some fault → netlist_of bytes ≡ Err fault
netlist-refused bytes fault e = netlist-told bytes ∙ ap (λ found. netlist_unless (walk (file_models bytes)) found) e

pub netlist-read : (bytes : List ℕ) → bad_net bytes ≡ None → netlist_of bytes ≡ Ok (circuit_of (walk (file_models bytes)))
netlist-read bytes e = netlist-told bytes ∙ ap (λ found. netlist_unless (walk (file_models bytes)) found) e

pub netlist-exactly : (bytes : List ℕ) → is_ok (netlist_of bytes) ≡ is_none (bad_net bytes)
netlist-exactly bytes = ap is_ok (netlist-told bytes) ∙ by_cases (bad_net bytes) (walk (file_models bytes))
  where
    by_cases : (found : Option NetlistFault) (steps : List Step) → is_ok (netlist_unless steps found) ≡ is_none found
    by_cases None steps = refl
    by_cases (Some fault) steps = refl
