use Rattle.std.proofs.Common.{map, ℕ, List}
use Rattle.std.specs.Borrow.{Bor}
use Rattle.command_line.proofs.CycleLists.{Stands}
use Rattle.command_line.proofs.cycles.numbers_of.Given as goal

abbrev pub invariant-loop-word : goal.invariant-loop-word
invariant-loop-word l = Stands l.most l.greatest (map (λ (word : Bor (List ℕ)). word.now) l.words) l.numbers l.word-index
