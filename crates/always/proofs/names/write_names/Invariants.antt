use Rattle.std.proofs.Common.{Ok}
use Rattle.std.specs.List.{flat_map}
use Rattle.fm_base.specs.Lists.{below}
use Rattle.fm_shelf.specs.Sink.{Sends}
use Rattle.always.specs.Text.{named_line}
use Rattle.always.specs.Verdict.{verdict_at}
use Rattle.always.proofs.names.write_names.Given as goal

-- the lines of the faults so far went out
abbrev pub invariant-loop-i : goal.invariant-loop-i
invariant-loop-i g l =
    Sends (g.O.Sink.seen l.initial.out) (g.O.Sink.seen l.out) (flat_map (named_line l.plan (verdict_at l.plan l.from l.answers) l.kind l.word) (below l.i)) (Ok tt)
