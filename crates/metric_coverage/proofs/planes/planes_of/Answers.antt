use Rattle.std.proofs.Common.{◌≡◌, ◌/◌, ◌<◌, ℕ, List, [], length, refl, ap, ◌∙◌, arith}
use Rattle.std.proofs.lemmas.List.{get_or_read_under}
use Rattle.campaign_plan.specs.declared.Outcome.{Outcome}
use Rattle.classifier.specs.Planes.{outcome_at}
use Rattle.metric_coverage.specs.declared.worker.Worker.{Worker}
use Rattle.metric_coverage.specs.Turns.{turn_at}
use Rattle.metric_coverage.proofs.Turning.{kept_of}
use Rattle.metric_coverage.proofs.planes.planes_of.Goals as goal

pub index-turn-requires : goal.index-turn-requires
index-turn-requires c =
    let worker : Worker = c.index-crew-batch.result in
    let kept = kept_of c.args.plan.now c.args.readings.now c.args.crew.now c.requires.crew c.args.batch c.requires.batch worker c.index-crew-batch.is in
    omega (arith, kept.0, worker.turns.ok.0)

pub index-requires : goal.index-requires
index-requires c =
    let worker : Worker = c.index-crew-batch.result in
    let turn : ℕ = c.args.batch / length c.args.crew.now in
    let kept = kept_of c.args.plan.now c.args.readings.now c.args.crew.now c.requires.crew c.args.batch c.requires.batch worker c.index-crew-batch.is in
    let own : c.index-turn.result.now ≡ turn_at worker.turns.items turn =
    get_or_read_under worker.turns.items turn (length worker.turns.items) c.index-turn.result.now [] c.index-turn.ensures kept.0 refl in
    let list : c.turn.inside.planes.items ≡ turn_at worker.turns.items turn = c.turn.view_is ∙ own in
    let room : c.args.reading < length c.turn.inside.planes.items = omega (arith, c.requires.reading, ap length list ∙ kept.1.count) in
    omega (arith, room, c.turn.inside.planes.ok.0)

pub returns : goal.returns
returns c =
    let worker : Worker = c.index-crew-batch.result in
    let turn : ℕ = c.args.batch / length c.args.crew.now in
    let kept = kept_of c.args.plan.now c.args.readings.now c.args.crew.now c.requires.crew c.args.batch c.requires.batch worker c.index-crew-batch.is in
    let own : c.index-turn.result.now ≡ turn_at worker.turns.items turn =
    get_or_read_under worker.turns.items turn (length worker.turns.items) c.index-turn.result.now [] c.index-turn.ensures kept.0 refl in
    let list : c.turn.inside.planes.items ≡ turn_at worker.turns.items turn = c.turn.view_is ∙ own in
    let room : c.args.reading < length c.turn.inside.planes.items = omega (arith, c.requires.reading, ap length list ∙ kept.1.count) in
    get_or_read_under c.turn.inside.planes.items c.args.reading (length c.turn.inside.planes.items) c.index.result.now (outcome_at [] 0) c.index.ensures room refl
    ∙ ap (λ (planes : List Outcome). outcome_at planes c.args.reading) list
    ∙ kept.1.each c.args.reading c.requires.reading
