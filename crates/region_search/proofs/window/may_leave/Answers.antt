use Rattle.std.proofs.Common.{◌∙◌}
use Rattle.pair_sets.specs.Pairs.{has}
use Rattle.region_search.proofs.Standing.{leaves_is}
use Rattle.region_search.proofs.window.may_leave.Goals as goal

pub returns : goal.returns
returns c = c.shows_other.ensures ∙ leaves_is c.args.site (has c.args.starts) c.pair-pair.result c.shown.result c.args.golden c.args.faulty c.pair-pair.ensures c.shown.ensures
