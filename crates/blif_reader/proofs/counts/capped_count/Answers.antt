use Rattle.std.proofs.Common.{ap, min, ◌∙◌}
use Rattle.blif_model.specs.Grouped.{model_of}
use Rattle.blif_reader.proofs.LinesBelow.{model_counted}
use Rattle.blif_reader.proofs.counts.capped_count.Goals as goal

pub returns : goal.returns
returns c = c.capped_lines.ensures ∙ ap (min c.args.cap) (model_counted c.args.count (model_of c.args.model.now))
