use Rattle.std.proofs.Common.{sym, subst, ◌∙◌, arith}
use Rattle.region_search.proofs.ReadsOnce.{AreFound, found_again, found_new, none_found, place_found, too_many}
use Rattle.region_search.proofs.truth.reads_of.Goals as goal

pub loop-net-preserved-then-is_some : goal.loop-net-preserved-then-is_some
loop-net-preserved-then-is_some c =
    let there = place_found c.place_of.result _ _ c.place_of.ensures (sym c.is_some.ensures ∙ c.if-is_some.true) in
    found_again c.args.ins.now c.loop-net.net-index c.loop-net.count c.loop-net.nets c.loop-net.invariant c.loop-net-test.true there.0 there.1.0 there.1.1

pub returns-then-count-eq6 : goal.returns-then-count-eq6
returns-then-count-eq6 c =
    too_many c.args.ins.now c.loop-net.net-index c.loop-net.nets
    (subst (λ n. AreFound c.args.ins.now c.loop-net.net-index n c.loop-net.nets) c.if-count-eq6.true c.loop-net.invariant) c.loop-net-test.true

pub loop-net-preserved : goal.loop-net-preserved
loop-net-preserved c =
    let apart = none_found c.place_of.result _ _ c.place_of.ensures (sym c.is_some.ensures ∙ c.if-is_some.false) in
    found_new c.args.ins.now c.loop-net.net-index c.loop-net.count c.loop-net.nets c.loop-net.invariant c.loop-net-test.true
    (omega (arith, c.if-count-eq6.false, c.loop-net.invariant.few))
    apart
