use Rattle.stopped_runs.specs.Stopping.{read_noted}
use Rattle.stopped_runs.proofs.Noting.{set_mapped}
use Rattle.stopped_runs.proofs.names.note_reads.Goals as goal

pub loop-told-preserved : goal.loop-told-preserved
loop-told-preserved c =
    set_mapped (read_noted c.args.name.now) c.loop-told.names c.args.names.now c.loop-told.told-index c.told-item.result c.note_read_of.new.told
    c.loop-told-test.true c.loop-told.invariant c.note_read_of.ensures
