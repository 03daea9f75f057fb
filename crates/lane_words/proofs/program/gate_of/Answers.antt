use Rattle.std.proofs.Common.{◌≡◌, ◌<◌, length, map, ap, sym, ◌∙◌, subst, arith}
use Rattle.circuit.specs.declared.parts.Table.{Table}
use Rattle.circuit.specs.declared.parts.Driver.TheVariants.{Table as FromTable}
use Rattle.circuit.specs.Table.{table_value}
use Rattle.circuit.specs.Value.{driven, driver_at, table_gives}
use Rattle.lane_words.proofs.TableGates.{gate_means, place_inside}
use Rattle.lane_words.proofs.program.gate_of.Goals as goal

pub returns-then-len-le2-clause-gate : goal.returns-then-len-le2-clause-gate
returns-then-len-le2-clause-gate c =
    let nets = length c.args.netlist.now.drivers in
    let made = c.gate_of_table.ensures in
    let driver : driver_at c.args.netlist.now c.gate_of_table.result.to ≡ FromTable c.in-Table.k =
    ap (driver_at c.args.netlist.now) made.to ∙ sym c.in-Table.ensures.value in
    record {
      inside = record {
        to = subst (λ n. n < nets) (sym made.to) c.requires.net;
        a = subst (λ n. n < nets) (sym made.a) (place_inside c.table-table.result.now.ins 0 nets c.args.net.0 c.table-table.ensures.fits.ins c.requires.net);
        b = subst (λ n. n < nets) (sym made.b) (place_inside c.table-table.result.now.ins 1 nets c.args.net.0 c.table-table.ensures.fits.ins c.requires.net);
      };
      table = (c.in-Table.k, driver);
      means = λ small state inputs read.
          gate_means c.table-table.result.now read c.args.net.0 c.gate_of_table.result (omega arith) made.a made.b made.means
          ∙ ap (λ (t : Table). table_value t (map (λ m. read m.0) t.ins)) c.table-table.ensures.value
          ∙ ap (driven state inputs (table_gives c.args.netlist.now read)) (sym driver);
    }
