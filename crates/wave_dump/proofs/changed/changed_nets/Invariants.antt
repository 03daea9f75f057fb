use Rattle.wave_dump.proofs.changed.changed_nets.Given as goal

abbrev pub ghosts-counted_marks : goal.ghosts-counted_marks
ghosts-counted_marks a = record { name = a.blank.name; parts = a.blank.parts }
