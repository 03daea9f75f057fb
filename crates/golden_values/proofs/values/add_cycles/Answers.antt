use Rattle.std.proofs.Common.{length, ◌||◌, not, ap, ◌∙◌}
use Rattle.place_set.specs.Places.{value_in}
use Rattle.workload.specs.Runs.{run_at}
use Rattle.golden_values.specs.Golden.{golden_of}
use Rattle.golden_values.proofs.Exciting.{cycle_more, no_cycle}
use Rattle.golden_values.proofs.values.add_cycles.Goals as goal

pub loop-t-init : goal.loop-t-init
loop-t-init c =
    let circuit = c.args.bench.now.circuit in
    let run = run_at c.args.bench.now.runs c.args.run in
    record {
      room = c.requires.room;
      ones_are = λ net lt. no_cycle (value_in c.args.seen.now.ones net) (golden_of circuit net run);
      zeros_are = λ net lt. no_cycle (value_in c.args.seen.now.zeros net) (λ u. not (golden_of circuit net run u));
    }

pub loop-t-preserved : goal.loop-t-preserved
loop-t-preserved c =
    let circuit = c.args.bench.now.circuit in
    let run = run_at c.args.bench.now.runs c.args.run in
    let t = c.loop-t.t in
    let inv = c.loop-t.invariant in
    record {
      room = c.see.ensures.room (length circuit.drivers) inv.room;
      ones_are = λ net lt.
          c.see.ensures.ones net (inv.room.ones net lt)
          ∙ ap (λ b. value_in c.loop-t.seen.ones net || b) (c.row.ensures net lt)
          ∙ ap (λ b. b || golden_of circuit net run t) (inv.ones_are net lt)
          ∙ cycle_more (value_in c.args.seen.now.ones net) t (golden_of circuit net run);
      zeros_are = λ net lt.
          c.see.ensures.zeros net (inv.room.ones net lt)
          ∙ ap (λ b. value_in c.loop-t.seen.zeros net || not b) (c.row.ensures net lt)
          ∙ ap (λ b. b || not (golden_of circuit net run t)) (inv.zeros_are net lt)
          ∙ cycle_more (value_in c.args.seen.now.zeros net) t (λ u. not (golden_of circuit net run u));
    }
