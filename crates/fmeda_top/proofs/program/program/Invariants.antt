use Rattle.fmeda_top.proofs.program.program.Given as goal

-- what the output had sent, from the callee's arguments
abbrev pub ghosts-program_since : goal.ghosts-program_since
ghosts-program_since g a = record { sent = (g.O.Sink.seen a.out).written }
