use Rattle.std.proofs.Common.{drop, ◌∙◌, arith}
use Rattle.lane_words.proofs.WideRows.{ins_end}
use Rattle.lane_words.proofs.table.row_word.Goals as goal

pub returns-else-i-ins : goal.returns-else-i-ins
returns-else-i-ins g c = λ k lt.
    ins_end (g.W.Word.lane_bit c.lits.every k) (drop c.lits.i c.args.row.now) (λ m. g.N.NetWords.read c.args.nets.now k m.0) c.args.ins.now c.lits.i (omega arith)
    ∙ c.lits.invariant k lt
