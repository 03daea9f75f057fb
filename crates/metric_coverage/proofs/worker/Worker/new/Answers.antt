use Rattle.metric_coverage.proofs.worker.Worker.new.Goals as goal

pub returns : goal.returns
returns c = record { simulator = c.in_ok-simulator.ensures; room = c.in_ok-turns.ensures.room; wide = c.in_ok-turns.ensures.wide }
