use Rattle.std.proofs.Common.{◌≡◌, List, length, ap, arith}
use Rattle.circuit.specs.declared.parts.NetId.{NetId}
use Rattle.circuit.proofs.FewTables.{few_tables}
use Rattle.golden_run.proofs.values.Values.new.Goals as goal

pub overflow_cast-nets : goal.overflow_cast-nets
overflow_cast-nets c =
    let sound = c.nets.ensures.sound in
    let size : length c.nets-2.result.now ≡ length c.args.order.now = ap (λ (ns : List NetId). length ns) c.nets-2.ensures in
    omega (arith, size, few_tables c.args.netlist.now sound, sound.few, c.requires.count)
