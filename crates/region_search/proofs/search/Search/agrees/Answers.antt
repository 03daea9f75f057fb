use Rattle.std.proofs.Common.{◌≡◌, inl, inr, refl, sym, subst, ◌∙◌, arith}
use Rattle.std.proofs.lemmas.Bool.{cases_lt}
use Rattle.std.proofs.lemmas.List.{get_or_default}
use Rattle.circuit.specs.Order.{net_at}
use Rattle.circuit.specs.declared.parts.NetId.{NetId}
use Rattle.region_search.proofs.Narrowing.{no_pair, some_pair}
use Rattle.region_search.proofs.Standing.{equal_of}
use Rattle.region_search.proofs.search.Search.agrees.Goals as goal

pub loop-net-preserved : goal.loop-net-preserved
loop-net-preserved c = record {
  trial = c.standing-standing.ensures.trial;
  frames = c.standing-standing.ensures.frames ∙ c.loop-net.invariant.frames;
  same = λ s bounds q sites goes golden faulty so lie j lt. elim (cases_lt j c.loop-net.net-index) as (λ _. golden 0 (net_at c.args.nets.now j).0 ≡ faulty 0 (net_at c.args.nets.now j).0) [
    | inl before ↦ c.loop-net.invariant.same s bounds q sites goes golden faulty so lie j before
    | inr last ↦ (
        let here : c.loop-net.net-index ≡ j = omega (arith, lt, last) in
        let net = net_at c.args.nets.now c.loop-net.net-index in
        subst (λ k. golden 0 (net_at c.args.nets.now k).0 ≡ faulty 0 (net_at c.args.nets.now k).0) here
        (equal_of (golden 0 net.0) (faulty 0 net.0) (λ e. c.standing-standing.ensures.none s bounds q sites goes (golden 0 net.0) (faulty 0 net.0)
        (c.unequal_pairs-pairs.ensures (golden 0 net.0) (faulty 0 net.0) ∙ e)
        (no_pair c.standing-standing.result c.is_empty.result c.is_empty.ensures c.if-not-is_empty.false (golden 0 net.0) (faulty 0 net.0)) golden faulty so lie refl refl)))
  ];
}

pub returns-then-not-is_empty-clause-open : goal.returns-then-not-is_empty-clause-open
returns-then-not-is_empty-clause-open c = λ _ s bounds q sites goes all.
    let there = some_pair c.standing-standing.result c.is_empty.result c.is_empty.ensures c.if-not-is_empty.true in
    c.standing-standing.ensures.open s bounds q sites goes there.0 there.1 there.2
    (all c.loop-net.net-index (record { 0 = 0 }) c.loop-net-test.true there.0 there.1
    (sym (c.unequal_pairs-pairs.ensures there.0 there.1) ∙ c.standing-standing.ensures.among there.0 there.1 there.2))

pub returns-clause-same : goal.returns-clause-same
returns-clause-same c = λ _ s bounds q sites goes golden faulty so lie j d lt.
    subst (λ (net : NetId). golden 0 net.0 ≡ faulty 0 net.0) (get_or_default c.args.nets.now j (record { 0 = 0 }) d lt)
    (c.loop-net.invariant.same s bounds q sites goes golden faulty so lie j (omega (arith, lt, c.loop-net-test.false)))
