use Rattle.std.proofs.Common.{refl}
use Rattle.fm_shelf.proofs.Sending.{sends_as}
use Rattle.latency_table.proofs.table.write_columns.Goals as goal

pub returns : goal.returns
returns g c =
    let wrote = c.write_all.ensures in
    sends_as refl wrote
