use Rattle.std.proofs.Common.{◌≡◌, length, take, subst, arith}
use Rattle.std.proofs.lemmas.List.{take_all}
use Rattle.circuit.proofs.Walks.{Holds}
use Rattle.lane_words.specs.Gates.{plane}
use Rattle.lane_kernel.proofs.walk.walk.Goals as goal

pub pieces-preserved-then-to-gates : goal.pieces-preserved-then-to-gates
pieces-preserved-then-to-gates g c = (
  omega arith,
  (let least = c.requires.next.least c.pieces.from (omega arith) in omega (arith, least, c.pieces.invariant.1, c.run_plain.ensures.cost, c.run_forced.ensures.cost)),
  λ k x order lt same program forces paused first.
      c.run_forced.ensures.values k x order lt same program forces
      (c.run_plain.ensures.values k x order lt program (paused c.pieces.from (omega arith)) (c.pieces.invariant.2 k x order lt same program forces paused first)),
)

pub pieces-preserved : goal.pieces-preserved
pieces-preserved g c = (
  c.requires.next.most c.pieces.from (omega arith),
  (let least = c.requires.next.least c.pieces.from (omega arith) in omega (arith, least, c.pieces.invariant.1, c.run_plain.ensures.cost)),
  λ k x order lt same program forces paused first.
      c.run_plain.ensures.values k x order lt program (paused c.pieces.from (omega arith)) (c.pieces.invariant.2 k x order lt same program forces paused first),
)

pub returns-clause-values : goal.returns-clause-values
returns-clause-values g c = λ k x order lt same program forces paused first.
    let e : c.pieces.from ≡ length order = (let most = c.pieces.invariant.0 in let count = program.count in omega (arith, most, count)) in
    subst (λ xs. Holds x (plane g.W.Word.lane_bit k c.pieces.words) xs (length order)) (take_all c.pieces.from order (omega (arith, e)))
    (subst (λ n. Holds x (plane g.W.Word.lane_bit k c.pieces.words) (take c.pieces.from order) n) e
    (c.pieces.invariant.2 k x order lt same program forces paused first))
