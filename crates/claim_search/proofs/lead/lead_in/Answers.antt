use Rattle.std.proofs.Common.{◌≡◌, true, false, length, ap, subst, ◌∙◌, arith}
use Rattle.circuit.specs.Circuit.{Circuit}
use Rattle.region_search.specs.Going.{sets_of}
use Rattle.claim_search.proofs.Cycles.{end_known, first_known, next_known, none_known}
use Rattle.claim_search.specs.LeadIn.{IsKnownTo}
use Rattle.claim_search.proofs.Taking.{from_nets, to_nets}
use Rattle.claim_search.proofs.lead.lead_in.Goals as goal

pub first_starts-requires-clause-nets : goal.first_starts-requires-clause-nets
first_starts-requires-clause-nets c =
    to_nets c.args.searched.now.netlist.now c.latches-latches.result.now (length c.args.question.now.sites.now) c.latches-latches.ensures.sound c.latches-latches.ensures.value c.requires.asked.sites

pub next_starts-requires-clause-nets : goal.next_starts-requires-clause-nets
next_starts-requires-clause-nets c =
    to_nets c.args.searched.now.netlist.now c.latches-latches.result.now (length c.args.question.now.sites.now) c.latches-latches.ensures.sound c.latches-latches.ensures.value c.requires.asked.sites

pub next_starts-requires-clause-from : goal.next_starts-requires-clause-from
next_starts-requires-clause-from c =
    from_nets c.args.searched.now.netlist.now c.latches-latches.result.now c.settle_cycle.new.search.sets.nets c.latches-latches.ensures.sound c.latches-latches.ensures.value
    (c.settle_cycle.ensures.fits.nets ∙ ap (λ (net : Circuit). length net.drivers) c.requires.searched.netlist)

pub may_differ-differs-requires-clause-nets : goal.may_differ-differs-requires-clause-nets
may_differ-differs-requires-clause-nets c = λ i d lt. (
    let within = c.requires.asked.posed.observed i d lt in
    omega (arith, within, c.settle_cycle.ensures.fits.nets, ap (λ (net : Circuit). length net.drivers) c.requires.searched.netlist))

pub loop-cycle-init : goal.loop-cycle-init
loop-cycle-init c = record {
  fits = c.requires.fits;
  frames = c.requires.frames;
  known = λ claim asked. first_known c.args.searched.now c.args.question.now c.requires.searched c.requires.asked claim asked
      c.latches-latches.result.now c.latches-latches.ensures.value c.first_starts.new.starts c.first_starts.ensures;
}

pub loop-cycle-preserved : goal.loop-cycle-preserved
loop-cycle-preserved c = record {
  fits = c.settle_cycle.ensures.fits;
  frames = c.settle_cycle.ensures.frames;
  known = λ claim asked. next_known c.args.searched.now c.args.question.now c.requires.searched c.requires.asked claim asked
      c.loop-cycle.cycle (omega (arith, c.loop-cycle-test.true)) c.loop-cycle.starts c.loop-cycle.differs (c.loop-cycle.invariant.known claim asked)
      (sets_of c.settle_cycle.new.search.sets) (c.settle_cycle.ensures.settled c.if-not-settle_cycle.false claim asked)
      c.latches-latches.result.now c.latches-latches.ensures.value c.next_starts.new.starts c.next_starts.ensures
      c.may_differ-differs.result c.may_differ-differs.ensures.same c.may_differ-differs.ensures.differs;
}

pub returns-then-not-settle_cycle-clause-led : goal.returns-then-not-settle_cycle-clause-led
returns-then-not-settle_cycle-clause-led c = λ claim asked.
    none_known c.args.searched.now c.args.question.now c.requires.searched c.requires.asked claim asked
    c.loop-cycle.cycle (omega (arith, c.loop-cycle-test.true)) c.loop-cycle.starts c.loop-cycle.differs (c.loop-cycle.invariant.known claim asked)
    (c.settle_cycle.ensures.none c.if-not-settle_cycle.true claim asked)

pub returns-then-not-settle_cycle-2-clause-led : goal.returns-then-not-settle_cycle-2-clause-led
returns-then-not-settle_cycle-2-clause-led c = λ claim asked.
    let end : c.loop-cycle.cycle ≡ c.args.question.now.posed.from = omega (arith, c.loop-cycle-test.false, c.loop-cycle.auto.cycle-end) in
    none_known c.args.searched.now c.args.question.now c.requires.searched c.requires.asked claim asked
    c.args.question.now.posed.from (omega arith) c.loop-cycle.starts c.loop-cycle.differs (subst (λ n. IsKnownTo claim n c.loop-cycle.starts c.loop-cycle.differs) end (c.loop-cycle.invariant.known claim asked))
    (c.settle_cycle-2.ensures.none c.if-not-settle_cycle-2.true claim asked)

pub returns-then-differs-clause-led : goal.returns-then-differs-clause-led
returns-then-differs-clause-led c = λ claim asked.
    let end : c.loop-cycle.cycle ≡ c.args.question.now.posed.from = omega (arith, c.loop-cycle-test.false, c.loop-cycle.auto.cycle-end) in
    end_known c.args.searched.now c.args.question.now c.requires.searched c.requires.asked claim asked c.loop-cycle.starts true
    (subst (λ differs. IsKnownTo claim c.args.question.now.posed.from c.loop-cycle.starts differs) c.if-differs.true
    (subst (λ n. IsKnownTo claim n c.loop-cycle.starts c.loop-cycle.differs) end (c.loop-cycle.invariant.known claim asked)))
    (sets_of c.settle_cycle-2.new.search.sets) (c.settle_cycle-2.ensures.settled c.if-not-settle_cycle-2.false claim asked)

pub returns-else-differs-clause-led : goal.returns-else-differs-clause-led
returns-else-differs-clause-led c = λ claim asked.
    let end : c.loop-cycle.cycle ≡ c.args.question.now.posed.from = omega (arith, c.loop-cycle-test.false, c.loop-cycle.auto.cycle-end) in
    end_known c.args.searched.now c.args.question.now c.requires.searched c.requires.asked claim asked c.loop-cycle.starts false
    (subst (λ differs. IsKnownTo claim c.args.question.now.posed.from c.loop-cycle.starts differs) c.if-differs.false
    (subst (λ n. IsKnownTo claim n c.loop-cycle.starts c.loop-cycle.differs) end (c.loop-cycle.invariant.known claim asked)))
    (sets_of c.settle_cycle-2.new.search.sets) (c.settle_cycle-2.ensures.settled c.if-not-settle_cycle-2.false claim asked)
