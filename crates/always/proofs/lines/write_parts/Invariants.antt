use Rattle.std.proofs.Common.{Ok}
use Rattle.std.specs.List.{flat_map}
use Rattle.fm_base.specs.Lists.{below}
use Rattle.fm_shelf.specs.Sink.{Sends}
use Rattle.always.specs.Text.{part_answer, part_line}
use Rattle.always.specs.Verdict.{verdict_at}
use Rattle.always.proofs.lines.write_parts.Given as goal

-- the lines of the parts so far went out
abbrev pub invariant-loop-number : goal.invariant-loop-number
invariant-loop-number g l =
    Sends (g.O.Sink.seen l.initial.out) (g.O.Sink.seen l.out) (flat_map (λ k. part_line l.plan (verdict_at l.plan l.from l.answers) (part_answer l.parts k) k) (below l.number)) (Ok tt)
