use Rattle.std.proofs.Common.{◌≡◌, Bool, ap, sym, subst, ◌∙◌, arith}
use Rattle.std.specs.Prelude.{slice_index_or}
use Rattle.circuit.specs.Order.{net_at}
use Rattle.circuit.specs.declared.parts.NetId.{NetId}
use Rattle.coverage_claim.specs.Region.{may_show}
use Rattle.coverage_claim.specs.Rules.{MayGo, everything}
use Rattle.coverage_claim.specs.declared.parts.Site.TheVariants.{Intact}
use Rattle.region_search.proofs.FirstSets.{as_long, done_more, input_seen, may_input}
use Rattle.region_search.specs.BeginSteps.{input_passes}
use Rattle.region_search.specs.Going.{sets_of}
use Rattle.region_search.proofs.search.Search.limit_inputs.Goals as goal

pub bounds-beginning-net : goal.bounds-beginning-net
bounds-beginning-net c =
    let seen = input_seen c.args.netlist.now c.inputs-net-items.result.now c.loop-net.net-index c.inputs-net-items.ensures.sound c.inputs-net-items.ensures.value c.loop-net-test.true in
    omega (arith, seen.net, c.requires.said.sites)

pub limit-requires-clause-net : goal.limit-requires-clause-net
limit-requires-clause-net c =
    let seen = input_seen c.args.netlist.now c.inputs-net-items.result.now c.loop-net.net-index c.inputs-net-items.ensures.sound c.inputs-net-items.ensures.value c.loop-net-test.true in
    omega (arith, seen.net, c.requires.nets, c.loop-net.invariant.size.nets)

pub loop-net-preserved : goal.loop-net-preserved
loop-net-preserved c =
    let seen = input_seen c.args.netlist.now c.inputs-net-items.result.now c.loop-net.net-index c.inputs-net-items.ensures.sound c.inputs-net-items.ensures.value c.loop-net-test.true in
    let frame = c.args.frame in
    let k = c.loop-net.net-index in
    let sites = c.args.beginning.now.sites.now in
    let passes : (a b : Bool) → input_passes c.args.netlist.now c.args.beginning.now k a b ≡ may_show (slice_index_or sites (net_at c.inputs-net-items.result.now k).0 Intact) a b =
    λ a b. ap (λ (net : NetId). may_show (slice_index_or sites net.0 Intact) a b) (sym seen.same) in
    record {
      size = as_long c.args.self.now c.loop-net.self c.limit.new.self c.loop-net.invariant.size c.limit.ensures.size;
      fewer = λ i n a b e. c.loop-net.invariant.fewer i n a b (c.limit.ensures.fewer i n a b e);
      done = done_more frame (λ j. (net_at c.args.netlist.now.inputs j).0) (input_passes c.args.netlist.now c.args.beginning.now) k (sets_of c.loop-net.self.sets) (sets_of c.limit.new.self.sets)
          c.loop-net.invariant.done c.limit.ensures.fewer
          (λ a b e. passes a b ∙ sym (c.input_pairs.ensures a b)
          ∙ c.limit.ensures.there a b (ap (λ (net : NetId). sets_of c.limit.new.self.sets frame net.0 a b) seen.same ∙ e));
      begun = λ s so begun.
          c.limit.ensures.begun s (omega (arith, c.requires.frame, so.frames))
          (λ a b none. subst (λ (net : NetId). MayGo s everything frame net.0 a b) (sym seen.same)
          (may_input c.args.netlist.now s c.args.self.now.sets.frames c.args.beginning.now c.inputs-net-items.ensures.sound c.requires.said so frame k (omega (arith, c.requires.frame, so.frames)) seen.few a b
          (passes a b ∙ sym (c.input_pairs.ensures a b) ∙ none)))
          (c.loop-net.invariant.begun s so begun);
    }
