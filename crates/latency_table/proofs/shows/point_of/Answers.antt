use Rattle.std.proofs.Common.{find, ap, sym, ◌∙◌, option_and_then}
use Rattle.readings.specs.Laws.{is_at}
use Rattle.latency_table.proofs.shows.point_of.Goals as goal

pub returns-in-Some : goal.returns-in-Some
returns-in-Some c = λ first same.
    c.first_point.ensures first same ∙ sym (ap (option_and_then (λ cycle. find (λ net. is_at (first net) cycle) c.args.nets.now)) c.in-Some.is)
