use Rattle.latency_table.proofs.worker.LatencyWorker.new.Goals as goal

pub returns : goal.returns
returns c = record {
  made = c.in_ok-draw.ensures.made;
  size = c.in_ok-draw.ensures.count;
  paths = c.in_ok-paths.ensures;
  rounds_are = c.in_ok-groups.ensures.count;
  room = c.in_ok-groups.ensures.room;
}
