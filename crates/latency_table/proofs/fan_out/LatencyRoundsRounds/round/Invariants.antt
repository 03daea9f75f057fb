use Rattle.latency_table.proofs.fan_out.LatencyRoundsRounds.round.Given as goal

abbrev pub ghosts-simulate_round : goal.ghosts-simulate_round
ghosts-simulate_round a = record { name = a.blank.name; parts = a.blank.parts }
