use Rattle.std.proofs.Common.{◌≡◌, ◌<◌, List, length, ap, sym, ◌∙◌, subst}
use Rattle.fm_base.proofs.Lists.{written_whole}
use Rattle.campaign_plan.specs.declared.Outcome.{Outcome}
use Rattle.classifier.specs.Planes.{outcome_at}
use Rattle.reading_planes.proofs.planes.ReadingPlanes.start.Goals as goal

pub returns-clause-nothing : goal.returns-clause-nothing
returns-clause-nothing c = λ r lt.
    let old = c.self.inside.outcomes in
    let new = c.forget.new.outcomes in
    let count : length new ≡ length old.items = c.forget.auto.outcomes ∙ ap length c.as_mut_slice.ensures.value in
    let whole = written_whole new old.items old.len count old.ok.0 in
    ap (λ (os : List Outcome). outcome_at os r) whole
    ∙ c.forget.ensures r (subst (λ n. r < n) (sym (ap length c.as_mut_slice.ensures.value ∙ ap length c.self.view_is)) lt)
