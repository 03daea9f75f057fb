use Rattle.std.proofs.lemmas.Result.{IfOk-weaker}
use Rattle.blif_reader.proofs.NetNumbers.{nets-counted, nets-numbered}
use Rattle.blif_reader.proofs.nets.net_numbers.Goals as goal

pub numbers_by-requires : goal.numbers_by-requires
numbers_by-requires c = rw (nets-counted c.args.flat.now c.args.clocks.now c.requires.marks) c.requires.few

pub returns : goal.returns
returns c = IfOk-weaker c.numbers_by.result _ _ (λ numbers e. nets-numbered c.args.flat.now c.args.clocks.now c.requires.marks numbers.items e) c.numbers_by.ensures
