use Rattle.std.proofs.Common.{◌<◌, ap, sym, subst, length, arith}
use Rattle.std.specs.Prelude.{All}
use Rattle.wave_dump.proofs.Showing.{no_nets, shown_few, shown_within}
use Rattle.workload.specs.Runs.{run_at}
use Rattle.wave_dump.proofs.dump.scene_of.Goals as goal

pub invariant_of-scene : goal.invariant_of-scene
invariant_of-scene c =
    let none = c.new.ensures.items in
    let net = c.args.net.now in
    record {
      few = c.requires.sound.few;
      runs_are = c.requires.runs;
      there = c.requires.run;
      within = subst (All (λ n. n < length net.drivers)) (sym none) (no_nets (length net.drivers));
      count = omega (arith, ap length none);
    }

pub invariant_of-scene-2 : goal.invariant_of-scene-2
invariant_of-scene-2 c =
    let net = c.args.net.now in
    let run = run_at c.args.work.now c.args.run in
    let are = c.in_ok-scene-inside.ensures in
    record {
      few = c.requires.sound.few;
      runs_are = c.requires.runs;
      there = c.requires.run;
      within = subst (All (λ n. n < length net.drivers)) (sym are) (shown_within net run c.args.fault c.args.word.now);
      count = omega (arith, ap length are, shown_few net run c.args.fault c.args.word.now);
    }
