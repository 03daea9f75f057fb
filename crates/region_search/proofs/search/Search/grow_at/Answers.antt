use Rattle.std.proofs.Common.{inl, ◌∙◌}
use Rattle.pair_sets.specs.Pairs.{has}
use Rattle.region_search.proofs.Standing.{leaves_same, more_pairs}
use Rattle.region_search.proofs.search.Search.grow_at.Goals as goal

pub returns-then-is_inside-clause-again : goal.returns-then-is_inside-clause-again
returns-then-is_inside-clause-again c = λ _ s bounds q sites goes golden faulty so lie.
    leaves_same (s.region c.args.latch.to.0) (has c.args.start.now) (has c.grown-grown.result) (golden 0 c.args.latch.from.0) (faulty 0 c.args.latch.from.0) c.grown-grown.ensures.grows
    (c.is_inside.ensures.inside.0 c.if-is_inside.true)
    ∙ c.grown-grown.ensures.again s bounds q sites goes golden faulty so lie

pub returns-then-is_inside-clause-forced : goal.returns-then-is_inside-clause-forced
returns-then-is_inside-clause-forced c = λ s bounds q sites goes x y e. inl e

pub returns-clause-grows : goal.returns-clause-grows
returns-clause-grows c = λ _. more_pairs c.args.start.now c.grown-grown.result c.is_inside.result c.grown-grown.ensures.grows c.is_inside.ensures.value c.if-is_inside.false
