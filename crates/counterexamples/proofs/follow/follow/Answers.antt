use Rattle.std.proofs.Common.{◌+◌, List, length-set, refl, sym, subst, ap, ◌∙◌, arith}
use Rattle.std.specs.Prelude.{Option}
use Rattle.circuit.specs.Circuit.{Circuit}
use Rattle.circuit.specs.declared.parts.Fault.{Fault}
use Rattle.lane_words.specs.Loads.{loaded_faults}
use Rattle.counterexamples.specs.Runs.{AreHeldIn, Looks}
use Rattle.counterexamples.proofs.Loading.{kept_on, still_made}
use Rattle.counterexamples.proofs.Seeing.{followed_more, followed_none}
use Rattle.counterexamples.proofs.follow.follow.Goals as goal

pub loop-t-init : goal.loop-t-init
loop-t-init c = record {
  made = still_made c.args.netlist.now c.args.order.now c.args.lanes.now c.start.new.self c.start.ensures.keeps c.requires.made;
  keeps = c.start.ensures.keeps;
  size = refl;
  cycle = c.start.ensures.cycle;
  run = followed_none c.args.netlist.now c.args.posed.now (loaded_faults c.args.lanes.now.loads) c.start.new.self c.args.seen.now c.start.ensures.start;
}

pub loop-t-preserved : goal.loop-t-preserved
loop-t-preserved c =
    let own = c.args.netlist.now in
    let p = c.args.posed.now in
    let before = c.loop-t.lanes in
    let after = c.advance.new.lanes in
    let made = still_made own c.args.order.now before after c.advance.ensures.keeps c.loop-t.invariant.made in
    let keeps = kept_on c.args.lanes.now before after c.loop-t.invariant.keeps c.advance.ensures.keeps in
    let looks = (
    subst (λ (loads : List (List (Option Fault))). Looks own p (loaded_faults loads) after c.loop-t.t c.loop-t.raised c.look-now.result) keeps.loads
    (subst (λ (d : Circuit). Looks d p (loaded_faults after.loads) after c.loop-t.t c.loop-t.raised c.look-now.result) made.circuit c.look-now.ensures)) in
    let held = subst (λ (d : Circuit). AreHeldIn d p.held.now after c.loop-t.t) made.circuit (c.are_held.ensures c.if-not-are_held.false) in
    record {
      made = made;
      keeps = keeps;
      size = length-set c.loop-t.seen c.loop-t.t c.look-now.result ∙ c.loop-t.invariant.size;
      cycle = c.advance.ensures.cycle ∙ ap (λ n. n + 1) c.loop-t.invariant.cycle;
      run = followed_more own p (loaded_faults c.args.lanes.now.loads) before after c.loop-t.seen c.loop-t.t c.loop-t.raised c.look-now.result c.draw.new.inputs c.loop-t.invariant.run (omega arith)
          c.advance.ensures.step looks held (sym c.get.ensures ∙ c.if-get.false);
    }
