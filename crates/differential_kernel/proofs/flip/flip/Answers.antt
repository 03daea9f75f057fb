use Rattle.std.proofs.Common.{sym, ◌∙◌}
use Rattle.lane_words.specs.Gates.{plane}
use Rattle.differential_kernel.proofs.Acting.{no_flips_now}
use Rattle.differential_kernel.proofs.flip.flip.Goals as goal

pub returns-then-acting-clause-live : goal.returns-then-acting-clause-live
returns-then-acting-clause-live g c = record {
  bound = c.flip_all.ensures.live ∙ c.requires.live.bound ∙ sym c.flip_all.ensures.raw;
  same = c.flip_all.ensures.held c.requires.live.same;
}

pub returns-else-acting-clause-flipped : goal.returns-else-acting-clause-flipped
returns-else-acting-clause-flipped g c = λ k lt.
    sym (no_flips_now c.args.loads.now k c.args.cycle (plane g.W.Word.lane_bit k c.args.latches.now.raw.items) (sym c.requires.acting ∙ c.if-acting.false))
