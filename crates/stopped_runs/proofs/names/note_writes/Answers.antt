use Rattle.stopped_runs.specs.Stopping.{write_noted}
use Rattle.stopped_runs.proofs.Noting.{set_mapped}
use Rattle.stopped_runs.proofs.names.note_writes.Goals as goal

pub loop-told-preserved : goal.loop-told-preserved
loop-told-preserved c =
    set_mapped (write_noted c.args.name.now) c.loop-told.names c.args.names.now c.loop-told.told-index c.told-item.result c.note_write_of.new.told
    c.loop-told-test.true c.loop-told.invariant c.note_write_of.ensures
