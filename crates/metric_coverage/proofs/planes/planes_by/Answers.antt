use Rattle.std.proofs.Common.{[], ◌∙◌}
use Rattle.std.proofs.lemmas.List.{get_or_default}
use Rattle.metric_coverage.proofs.planes.planes_by.Goals as goal

pub returns : goal.returns
returns c = c.outcomes.ensures ∙ c.index-tables-r.is ∙ get_or_default c.args.tables.now c.args.r c.index-tables-r.result [] c.requires
