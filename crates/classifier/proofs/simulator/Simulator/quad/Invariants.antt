use Rattle.classifier.proofs.simulator.Simulator.quad.Given as goal

abbrev pub ghosts-quad_by : goal.ghosts-quad_by
ghosts-quad_by a = record { name = a.blank.name; parts = a.blank.parts }
