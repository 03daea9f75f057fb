use Rattle.std.proofs.Common.{◌≡◌, ◌+◌, true, length, get_or, ap, subst, ◌∙◌, arith}
use Rattle.std.proofs.lemmas.List.Elements.{Contains-get_or}
use Rattle.fanout.specs.Readers.{Ordered}
use Rattle.place_set.specs.Places.{has}
use Rattle.differential_kernel.specs.Cone.{LeadsInto, driven_at}
use Rattle.differential_kernel.proofs.Begun.{read_within}
use Rattle.differential_kernel.proofs.Cones.{closed_taken}
use Rattle.differential_kernel.proofs.cone.close.Goals as goal

pub put_driven-requires-clause-places : goal.put_driven-requires-clause-places
put_driven-requires-clause-places c = λ k d lt.
    let o = c.args.cycle.now.fanout.now in
    let place = get_or c.readers.result.now k d in
    omega (
      arith,
      ap (λ (m : Ordered). length m.order + length m.circuit.latches) c.requires.golden.fanout,
      read_within o c.in-Some.n place ((c.readers.ensures place).0 (Contains-get_or c.readers.result.now k d lt)),
    )

pub loop-preserved : goal.loop-preserved
loop-preserved c =
    let o = c.args.cycle.now.fanout.now in
    let spreads = c.put_driven.ensures.spreads in
    let leads : LeadsInto o c.put_driven.new.nets c.in-Some.n = λ place reads.
    (let at = (c.readers.ensures place).1 reads in
    subst (λ p. has c.put_driven.new.nets (driven_at o p) ≡ true) at.2 (c.put_driven.ensures.there at.0 place at.1)) in
    record {
      nets = spreads.bound ∙ c.loop.invariant.nets;
      left = spreads.left_bound ∙ c.remove.ensures.bound ∙ c.loop.invariant.left;
      closed = closed_taken o c.loop.nets c.loop.left c.remove.new.self c.put_driven.new.nets c.put_driven.new.left c.in-Some.n c.remove.ensures.has spreads leads c.loop.invariant.closed;
    }
