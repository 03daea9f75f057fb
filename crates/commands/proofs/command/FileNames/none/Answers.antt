use Rattle.std.proofs.Common.{◌≡◌, [], refl}
use Rattle.commands.specs.Commands.{by_file, no_names}
use Rattle.commands.specs.declared.command.Which.{Which}
use Rattle.commands.specs.declared.command.Which.TheVariants.{Netlist, Workload, Rates, Points, Result, First, Second, NewRates, Held}
use Rattle.commands.proofs.command.FileNames.none.Goals as goal

empty : (file : Which) → by_file [] [] [] [] [] [] [] [] [] file ≡ no_names file
empty Netlist = refl
empty Workload = refl
empty Rates = refl
empty Points = refl
empty Result = refl
empty First = refl
empty Second = refl
empty NewRates = refl
empty Held = refl

pub returns : goal.returns
returns c = λ i file. empty file i
