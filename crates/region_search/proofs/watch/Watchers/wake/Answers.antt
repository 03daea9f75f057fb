use Rattle.std.proofs.Common.{◌≡◌, ◌+◌, ◌-◌, ◌*◌, true, refl, subst, arith}
use Rattle.fanout.specs.Readers.{Ordered}
use Rattle.place_set.specs.Places.{has}
use Rattle.region_search.specs.Search.{Wakes}
use Rattle.region_search.proofs.Watching.{bound_seen, own_read, put_stays, put_there, reads_inside, wakes_of}
use Rattle.region_search.proofs.watch.Watchers.wake.Goals as goal

pub wake_all-requires-clause-inside : goal.wake_all-requires-clause-inside
wake_all-requires-clause-inside c = λ place there.
    reads_inside c.self.inside.fanout c.self.inside.tables c.self.inside.places c.self.inside.own.items c.self.invariant c.args.frame c.args.net.0 c.args.waiting.now.bound
    (bound_seen c.self.inside.fanout c.self.inside.tables c.self.inside.places c.self.inside.own.items c.self.invariant c.args.self.now c.args.frame c.args.waiting.now.bound c.self.view_is c.requires.frame)
    place ((c.readers.ensures place).0 there)

pub returns-then-own-self : goal.returns-then-own-self
returns-then-own-self c =
    subst (λ (o : Ordered). Wakes o c.args.frame c.args.net.0 c.args.waiting.now c.put.new.self) c.self.view_is
    (wakes_of c.self.inside.fanout c.self.inside.tables c.self.inside.places c.self.inside.own.items c.self.invariant c.args.frame c.args.net.0 c.index.result.now
    c.args.waiting.now c.wake_all.new.waiting c.put.new.self
    (own_read c.self.inside.fanout c.self.inside.tables c.self.inside.places c.self.inside.own.items c.self.invariant c.args.self.now c.args.net.0 c.index.result.now c.self.view_is
    c.requires.net c.index.ensures)
    c.wake_all.ensures.bound c.put.ensures.bound c.wake_all.ensures.stays (put_stays c.wake_all.new.waiting c.put.new.self (c.args.frame * c.self.inside.places + c.index.result.now) c.put.ensures.has)
    (λ place reads. c.wake_all.ensures.woken place ((c.readers.ensures place).1 reads))
    (λ less. put_there c.wake_all.new.waiting c.put.new.self (c.args.frame * c.self.inside.places + c.index.result.now) c.put.ensures.has)
    (λ earlier e late less. absurd (omega (arith, late, c.if-own-self.true))))

pub returns-then-own-self-2 : goal.returns-then-own-self-2
returns-then-own-self-2 c =
    subst (λ (o : Ordered). Wakes o c.args.frame c.args.net.0 c.args.waiting.now c.wake_all.new.waiting) c.self.view_is
    (wakes_of c.self.inside.fanout c.self.inside.tables c.self.inside.places c.self.inside.own.items c.self.invariant c.args.frame c.args.net.0 c.index.result.now
    c.args.waiting.now c.wake_all.new.waiting c.wake_all.new.waiting
    (own_read c.self.inside.fanout c.self.inside.tables c.self.inside.places c.self.inside.own.items c.self.invariant c.args.self.now c.args.net.0 c.index.result.now c.self.view_is
    c.requires.net c.index.ensures)
    c.wake_all.ensures.bound refl c.wake_all.ensures.stays (λ p e. e)
    (λ place reads. c.wake_all.ensures.woken place ((c.readers.ensures place).1 reads))
    (λ less. absurd (omega (arith, less, c.if-own-self.false)))
    (λ earlier e late less. absurd (omega (arith, less, c.if-own-self-2.true))))

pub returns-then-frame-eq0 : goal.returns-then-frame-eq0
returns-then-frame-eq0 c =
    subst (λ (o : Ordered). Wakes o c.args.frame c.args.net.0 c.args.waiting.now c.wake_all.new.waiting) c.self.view_is
    (wakes_of c.self.inside.fanout c.self.inside.tables c.self.inside.places c.self.inside.own.items c.self.invariant c.args.frame c.args.net.0 c.index.result.now
    c.args.waiting.now c.wake_all.new.waiting c.wake_all.new.waiting
    (own_read c.self.inside.fanout c.self.inside.tables c.self.inside.places c.self.inside.own.items c.self.invariant c.args.self.now c.args.net.0 c.index.result.now c.self.view_is
    c.requires.net c.index.ensures)
    c.wake_all.ensures.bound refl c.wake_all.ensures.stays (λ p e. e)
    (λ place reads. c.wake_all.ensures.woken place ((c.readers.ensures place).1 reads))
    (λ less. absurd (omega (arith, less, c.if-own-self.false)))
    (λ earlier e late less. absurd (omega (arith, e, c.if-frame-eq0.true))))

pub returns : goal.returns
returns c =
    subst (λ (o : Ordered). Wakes o c.args.frame c.args.net.0 c.args.waiting.now c.put-2.new.self) c.self.view_is
    (wakes_of c.self.inside.fanout c.self.inside.tables c.self.inside.places c.self.inside.own.items c.self.invariant c.args.frame c.args.net.0 c.index.result.now
    c.args.waiting.now c.wake_all.new.waiting c.put-2.new.self
    (own_read c.self.inside.fanout c.self.inside.tables c.self.inside.places c.self.inside.own.items c.self.invariant c.args.self.now c.args.net.0 c.index.result.now c.self.view_is
    c.requires.net c.index.ensures)
    c.wake_all.ensures.bound c.put-2.ensures.bound c.wake_all.ensures.stays (put_stays c.wake_all.new.waiting c.put-2.new.self ((c.args.frame - 1) * c.self.inside.places + c.index.result.now) c.put-2.ensures.has)
    (λ place reads. c.wake_all.ensures.woken place ((c.readers.ensures place).1 reads))
    (λ less. absurd (omega (arith, less, c.if-own-self.false)))
    (λ earlier e late less.
    subst (λ n. has c.put-2.new.self (n * c.self.inside.places + c.index.result.now) ≡ true) (omega (arith, e))
    (put_there c.wake_all.new.waiting c.put-2.new.self ((c.args.frame - 1) * c.self.inside.places + c.index.result.now) c.put-2.ensures.has)))
