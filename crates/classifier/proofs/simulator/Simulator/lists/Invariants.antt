use Rattle.classifier.proofs.simulator.Simulator.lists.Given as goal

abbrev pub ghosts-lists_by : goal.ghosts-lists_by
ghosts-lists_by a = record { name = a.blank.name; parts = a.blank.parts }
