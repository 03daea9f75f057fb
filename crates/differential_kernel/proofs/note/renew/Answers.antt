use Rattle.std.proofs.Common.{ap, sym, ◌∙◌, subst}
use Rattle.std.proofs.lemmas.Bool.{true≢false}
use Rattle.place_set.specs.Places.{Places}
use Rattle.differential_kernel.specs.Forces.{AreNamed}
use Rattle.differential_kernel.proofs.note.renew.Goals as goal

pub returns-then-noted-clause-noted : goal.returns-then-noted-clause-noted
returns-then-noted-clause-noted g c = c.requires.noted c.if-noted.true

pub returns-else-noted-clause-forces : goal.returns-else-noted-clause-forces
returns-else-noted-clause-forces g c = record {
  named = c.note_all.ensures.bound ∙ c.forget_all.ensures.bound ∙ c.requires.forces.named;
  each = c.forget_all.ensures.each;
  idle = λ n lt none. c.forget_all.ensures.idle n lt;
  zeros = ap (λ (set : Places). set.bound) c.forget_all.ensures.zeros ∙ c.requires.forces.zeros;
  ones = ap (λ (set : Places). set.bound) c.forget_all.ensures.ones ∙ c.requires.forces.ones;
}

pub returns-else-noted-clause-noted : goal.returns-else-noted-clause-noted
returns-else-noted-clause-noted g c = record {
  bound = c.note_cycles.ensures.bound ∙ c.requires.cycles;
  acts = c.note_cycles.ensures.acts;
  named = subst (λ n. AreNamed c.args.loads.now n c.note_all.new.set) (c.forget_all.ensures.bound ∙ c.requires.forces.named ∙ sym c.forget_all.ensures.each) c.note_all.ensures.named;
  idle = λ k n d own lt within none. c.forget_all.ensures.idle n within k d own lt;
  steady = λ fresh. absurd (true≢false fresh);
  changed = λ fresh. absurd (true≢false fresh);
}
