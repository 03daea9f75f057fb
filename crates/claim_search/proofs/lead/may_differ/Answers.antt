use Rattle.std.proofs.Common.{◌≡◌, inl, inr, false, ap, sym, subst, ◌∙◌, arith}
use Rattle.std.proofs.lemmas.Bool.{cases_lt}
use Rattle.std.proofs.lemmas.List.{get_or_default}
use Rattle.fm_base.proofs.Tests.{clash}
use Rattle.circuit.specs.Order.{net_at}
use Rattle.circuit.specs.declared.parts.NetId.{NetId}
use Rattle.region_search.specs.Going.{sets_of}
use Rattle.claim_search.proofs.Taking.{equal_pairs, inside_equal}
use Rattle.claim_search.proofs.lead.may_differ.Goals as goal

pub loop-net-preserved : goal.loop-net-preserved
loop-net-preserved c = λ j lt a b e. elim (cases_lt j c.loop-net.net-index) as (λ _. sets_of c.args.search.now.sets 0 (net_at c.args.nets.now j).0 a b ≡ false) [
  | inl before ↦ c.loop-net.invariant j before a b e
  | inr last ↦ (
      let it : c.loop-net.net-index ≡ j = omega (arith, lt, last) in
      subst (λ k. sets_of c.args.search.now.sets 0 (net_at c.args.nets.now k).0 a b ≡ false) it
      (sym (c.get.ensures a b) ∙ equal_pairs c.get.result a b (c.is_inside.ensures.inside.0 c.if-not-is_inside.false a b) e))
]

pub returns-then-not-is_inside-clause-differs : goal.returns-then-not-is_inside-clause-differs
returns-then-not-is_inside-clause-differs c = λ _ all.
    let in_it = c.is_inside.ensures.inside.1 (inside_equal c.get.result (λ a b e. c.get.ensures a b ∙ all c.loop-net.net-index (record { 0 = 0 }) c.loop-net-test.true a b e)) in
    clash c.is_inside.result in_it c.if-not-is_inside.true

pub returns-clause-same : goal.returns-clause-same
returns-clause-same c = λ _ j d lt a b e.
    ap (λ (net : NetId). sets_of c.args.search.now.sets 0 net.0 a b) (sym (get_or_default c.args.nets.now j (record { 0 = 0 }) d lt))
    ∙ c.loop-net.invariant j (omega (arith, lt, c.loop-net-test.false)) a b e
