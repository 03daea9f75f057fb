use Rattle.std.proofs.Common.{◌≡◌, inl, inr, ℕ, ◌<◌, length, set, ap, sym, ◌∙◌, arith, length-set, get_or-set_same, get_or-set_other}
use Rattle.std.proofs.lemmas.Bool.{cases_eq, cases_lt}
use Rattle.std.proofs.lemmas.List.{get_or_default}
use Rattle.circuit.specs.Order.{net_at}
use Rattle.circuit.specs.declared.parts.NetId.{NetId}
use Rattle.coverage_claim.specs.declared.parts.Site.TheVariants.{Intact}
use Rattle.claim_search.specs.Sites.{site_at}
use Rattle.claim_search.proofs.sites.mark.Goals as goal

pub loop-net-preserved : goal.loop-net-preserved
loop-net-preserved c =
    let i = c.loop-net.net-index in
    let net : ℕ → NetId = net_at c.args.nets.now in
    let now = c.loop-net.sites in
    let within : (net i).0 < length now = (let fits = c.requires i (record { 0 = 0 }) c.loop-net-test.true in omega (arith, fits, c.loop-net.invariant.size)) in
    record {
      size = length-set now (net i).0 c.args.site ∙ c.loop-net.invariant.size;
      there = λ k lt. elim (cases_eq (net k).0 (net i).0) as (λ _. site_at (set now (net i).0 c.args.site) (net k).0 ≡ c.args.site) [
        | inl same ↦ ap (site_at (set now (net i).0 c.args.site)) same ∙ get_or-set_same now (net i).0 c.args.site Intact within
        | inr apart ↦ elim (cases_lt k i) as (λ _. site_at (set now (net i).0 c.args.site) (net k).0 ≡ c.args.site) [
          | inl before ↦ get_or-set_other now (net i).0 (net k).0 c.args.site Intact apart ∙ c.loop-net.invariant.there k before
          | inr last ↦ absurd (apart (let it : k ≡ i = omega (arith, lt, last) in ap (λ j. (net j).0) it))
        ]
      ];
      elsewhere = λ n out. get_or-set_other now (net i).0 n c.args.site Intact (λ same. out i (omega arith) (sym same)) ∙ c.loop-net.invariant.elsewhere n (λ k lt. out k (omega (arith, lt)));
    }

pub returns-clause-there : goal.returns-clause-there
returns-clause-there c = λ k d lt.
    ap (λ (each : NetId). site_at c.loop-net.sites each.0) (sym (get_or_default c.args.nets.now k (record { 0 = 0 }) d lt)) ∙ c.loop-net.invariant.there k (omega (arith, lt, c.loop-net-test.false))

pub returns-clause-elsewhere : goal.returns-clause-elsewhere
returns-clause-elsewhere c = λ n out. c.loop-net.invariant.elsewhere n (λ k lt. out k (record { 0 = 0 }) (omega (arith, lt, c.loop-net.auto.net-index-end)))
