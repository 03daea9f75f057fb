use Rattle.rate_table.proofs.Names.{star_known}
use Rattle.wave_dump.proofs.named.has_star.Goals as goal

pub returns-in-Some : goal.returns-in-Some
returns-in-Some c = star_known c.args.text.now c.in-Some.byte.now c.in-Some.ensures.value
