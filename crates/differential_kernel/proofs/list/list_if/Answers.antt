use Rattle.std.proofs.Common.{◌∙◌}
use Rattle.differential_kernel.proofs.Listing.{those_more, those_past}
use Rattle.differential_kernel.proofs.list.list_if.Goals as goal

pub returns-then-is : goal.returns-then-is
returns-then-is c = λ those is listed. those_more those c.args.list.now c.args.count c.args.place (is ∙ c.if-is.true) c.requires listed

pub returns-else-is : goal.returns-else-is
returns-else-is c = λ those is listed. those_past those c.args.list.now c.args.count c.args.place (is ∙ c.if-is.false) listed
