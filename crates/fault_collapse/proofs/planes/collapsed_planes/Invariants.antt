use Rattle.fault_collapse.proofs.planes.collapsed_planes.Given as goal

abbrev pub ghosts-counted_planes : goal.ghosts-counted_planes
ghosts-counted_planes a = record { name = a.blank.name; parts = a.blank.parts }
