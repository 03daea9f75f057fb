use Rattle.std.proofs.Common.{◌≡◌, ℕ, Bool, refl, subst, ◌∙◌, arith, length-set}
use Rattle.std.specs.Prelude.{slice_index_or}
use Rattle.std.proofs.lemmas.Option.{slice_get_within}
use Rattle.circuit.specs.declared.parts.Latch.{Latch}
use Rattle.coverage_claim.specs.Rules.{this_pair}
use Rattle.coverage_claim.specs.declared.parts.Site.TheVariants.{Intact}
use Rattle.pair_sets.specs.Choice.{set_at}
use Rattle.pair_sets.specs.Pairs.{has, shown}
use Rattle.region_search.proofs.Growing.{latch_is}
use Rattle.region_search.specs.BeginSteps.{latch_of}
use Rattle.claim_search.proofs.Taking.{one_more, shown_same}
use Rattle.claim_search.proofs.lead.first_starts.Goals as goal

pub loop-number-preserved : goal.loop-number-preserved
loop-number-preserved c =
    let latch : ℕ → Latch = latch_of c.args.latches.now in
    let n = c.loop-number.number in
    let site = slice_index_or c.args.sites.now (latch n).to.0 Intact in
    record {
      size = length-set c.loop-number.starts n c.shown.result ∙ c.loop-number.invariant.size;
      done = one_more (λ k set. (a b : Bool) → has set a b ≡ shown (slice_index_or c.args.sites.now (latch k).to.0 Intact) (this_pair (latch k).start (latch k).start) a b)
          c.loop-number.starts n c.shown.result (omega (arith, c.loop-number-test.true, c.loop-number.invariant.size)) c.loop-number.invariant.done
          (λ a b. c.shown.ensures a b ∙ shown_same site (has c.pair.result) (this_pair (latch n).start (latch n).start) c.pair.ensures a b);
    }

pub returns : goal.returns
returns c = λ l latch at a b.
    let lt = slice_get_within c.args.latches.now l latch at in
    subst (λ (each : Latch). has (set_at c.loop-number.starts l) a b ≡ shown (slice_index_or c.args.sites.now each.to.0 Intact) (this_pair each.start each.start) a b)
    (latch_is c.args.latches.now l l latch refl at) (c.loop-number.invariant.done l (omega (arith, lt, c.loop-number-test.false)) a b)
