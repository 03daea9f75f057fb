use Rattle.fmeda_top.proofs.perform.perform_alone.Goals as goal

pub perform-requires-clause-turn : goal.perform-requires-clause-turn
perform-requires-clause-turn g c κs within = λ several share. absurd (several c.requires.alone)
