use Rattle.std.proofs.Common.{arith}
use Rattle.std.proofs.lemmas.Bool.{eqb-false}
use Rattle.place_set.proofs.Masks.{lowest}
use Rattle.lane_words.proofs.word.U64Word.is_none.Goals as goal

pub returns-clause-some : goal.returns-clause-some
returns-clause-some c = λ some.
    let first = lowest c.args.self (eqb-false c.args.self 0 some) (omega arith) in
    (_, first.0, first.1)
