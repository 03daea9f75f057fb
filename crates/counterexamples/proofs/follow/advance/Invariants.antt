use Rattle.counterexamples.proofs.follow.advance.Given as goal

abbrev pub ghosts-run_next : goal.ghosts-run_next
ghosts-run_next a = record { name = a.blank.name; parts = a.blank.parts }
