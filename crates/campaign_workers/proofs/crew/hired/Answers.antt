use Rattle.std.proofs.Common.{◌≡◌, ◌≤◌, length, ap, ◌∙◌, arith}
use Rattle.std.proofs.lemmas.List.{length_push}
use Rattle.std.proofs.lemmas.List.Elements.{All-push}
use Rattle.claim_counter.specs.declared.view.View.{View}
use Rattle.campaign_workers.specs.declared.worker.Worker.{Worker}
use Rattle.classifier.specs.Simulator.{simulator_of}
use Rattle.campaign_workers.proofs.Hiring.{hires_one}
use Rattle.campaign_workers.proofs.crew.hired.Goals as goal

pub loop-number-preserved : goal.loop-number-preserved
loop-number-preserved g c =
    let i = c.loop-number.invariant in
    let worker = c.in_ok-worker_at.field-0 in
    let old = c.loop-number.workers.items in
    let split = c.split-seat.ensures in
    let now = c.in_ok-push.ensures.items in
    let two : 2 ≤ c.loop-number.first.view.share = omega (arith, i.share, c.loop-number-test.true, c.requires.count) in
    let crew = hires_one c.args.shared.now c.loop-number.first c.split-seat.new.seat old worker c.split-seat.result i.crew two split.seat.0 split.seat.1 split.new.0 split.new.1 c.in_ok-worker_at.ensures.seat in
    let T = λ (w : Worker g.row.F.Denot g.row.N.Denot). w.simulator ≡ simulator_of c.args.bench.now c.args.plan.now.settings.ftti in
    record {
      crew = rw now crew;
      simulators = rw now (All-push T old worker i.simulators c.in_ok-worker_at.ensures.simulator);
      len = ap length now ∙ length_push old worker ∙ omega (arith, i.len);
      share = omega (arith, i.share, two, ap (λ (v : View). v.share) split.seat.1);
      table = split.seat.0 ∙ i.table;
      holds = ap (λ (v : View). v.holds) split.seat.1 ∙ i.holds;
      fails = ap (λ (v : View). v.fails) split.seat.1 ∙ i.fails;
      seen = ap (λ (v : View). v.seen) split.seat.1 ∙ i.seen;
    }
