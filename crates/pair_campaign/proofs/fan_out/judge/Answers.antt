use Rattle.std.proofs.Common.{List, length, ap, sym, subst, ◌∙◌}
use Rattle.batch_crew.specs.Crew.{AreReady}
use Rattle.fm_base.proofs.Lists.{written_whole}
use Rattle.pair_campaign.specs.declared.worker.PairWorker.{PairWorker}
use Rattle.pair_campaign.specs.Crews.{MadeFor}
use Rattle.pair_campaign.specs.Work.{HasJudged}
use Rattle.pair_campaign.proofs.fan_out.judge.Goals as goal

pub judge_all-requires-clause-ready : goal.judge_all-requires-clause-ready
judge_all-requires-clause-ready g c κs within =
    let crew = c.crew.inside in
    let own = subst (λ (ws : List PairWorker). AreReady (HasJudged crew.plan.value crew.bench crew.pairs.value) (length ws) ws) (sym c.as_mut_slice.ensures.value) c.crew.invariant.ready in
    subst (λ (made : MadeFor). AreReady (HasJudged made.plan crew.bench made.pairs) (length c.as_mut_slice.result.now) c.as_mut_slice.result.now)
    (c.crew.view_is ∙ c.requires.made) own

pub returns : goal.returns
returns g c =
    let planes = c.crew.inside.planes in
    let same = c.judge_all.auto.planes ∙ ap length c.as_mut_slice-2.ensures.value in
    c.from_vec.ensures ∙ written_whole c.judge_all.new.planes planes.items planes.len same planes.ok.0 ∙ c.judge_all.ensures
