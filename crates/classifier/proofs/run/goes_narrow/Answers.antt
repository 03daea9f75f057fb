use Rattle.std.proofs.Common.{sym, subst, get_or-set_same}
use Rattle.classifier.specs.InRun.{in_run}
use Rattle.classifier.specs.Narrowed.{GoOnIn, narrow_in_run}
use Rattle.classifier.specs.declared.narrow.Narrow.{Narrow}
use Rattle.classifier.proofs.run.goes_narrow.Goals as goal

pub returns-then-words-eq4-clause-goes_on : goal.returns-then-words-eq4-clause-goes_on
returns-then-words-eq4-clause-goes_on g c = λ none is.
    subst (λ (s : Narrow). GoOnIn (in_run g.W.Word.lanes g.W.Word.lane_bit c.args.lanes.now) (narrow_in_run s))
    (sym (get_or-set_same c.args.narrow.now 0 c.take.new.self none c.if-narrow-gt0.true)) (c.take.ensures.goes_on is)
