use Rattle.std.proofs.Common.{◌+◌, ◌*◌, min, length, ap, subst, ◌∙◌, arith}
use Rattle.std.proofs.lemmas.List.{length_push}
use Rattle.workload.specs.Runs.{cycles_of, run_at}
use Rattle.testbench.specs.Seen.{HasSeen}
use Rattle.testbench.proofs.SeenMore.{stretches_more}
use Rattle.testbench.proofs.stretches.stretches_of.Goals as goal

pub loop-s-init : goal.loop-s-init
loop-s-init c = record { count = ap length c.new-stretches.ensures.items; seen = λ s lt. absurd (omega (arith, lt)) }

pub loop-s-preserved : goal.loop-s-preserved
loop-s-preserved c =
    let inv = c.loop-s.invariant in
    let s = c.loop-s.s in
    let now = c.in_ok-push.ensures.items in
    let run = run_at c.args.golden.now.runs c.args.run in
    let own = c.in_ok-seen.seen in
    let seen : HasSeen c.args.net.now run (s * 256) (min (cycles_of run) (s * 256 + 256)) own =
    subst (λ n. HasSeen c.args.net.now run (s * 256) n own) (c.min.ensures ∙ ap (λ n. min n (s * 256 + 256)) c.requires.cycles) c.in_ok-seen.ensures in
    record {
      count = ap length now ∙ length_push c.loop-s.stretches.items own ∙ omega (arith, inv.count);
      seen = stretches_more c.args.net.now run s c.loop-s.stretches.items c.push.new.v.items own now inv.count inv.seen seen;
    }
