use Rattle.test_simulators.proofs.tests.a_latch_goes_on_from_what_it_took.Given as goal

abbrev pub ghosts-told_of_toggle : goal.ghosts-told_of_toggle
ghosts-told_of_toggle g a = record { name = a.blank.name; parts = a.blank.parts }
