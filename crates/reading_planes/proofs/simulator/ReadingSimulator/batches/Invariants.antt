use Rattle.reading_planes.proofs.simulator.ReadingSimulator.batches.Given as goal

abbrev pub ghosts-batches_by : goal.ghosts-batches_by
ghosts-batches_by a = record { name = a.blank.name; parts = a.blank.parts }
