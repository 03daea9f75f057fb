use Rattle.std.proofs.Common.{◌∙◌, arith}
use Rattle.std.proofs.lemmas.Grind.{common_steps}
use Rattle.blif_reader.proofs.NetNumbers.{nets-counted}
use Rattle.blif_reader.proofs.read.has_many_nets.Goals as goal

pub returns : goal.returns
returns c = let nets = c.net_count.ensures ∙ nets-counted c.args.flat.now c.args.clocks.now c.requires in grind (arith, common_steps)
