use Rattle.std.proofs.Common.{arith}
use Rattle.blif_hierarchy.proofs.SearchSteps.{next_reached, reversed}
use Rattle.blif_hierarchy.proofs.search.Search.step.Goals as goal

pub close-requires-clause-place : goal.close-requires-clause-place
close-requires-clause-place c = let inside = c.look_ahead-frame.ensures.search.parts.0.inside in omega arith

pub returns-in_ok-open-clause-search : goal.returns-in_ok-open-clause-search
returns-in_ok-open-clause-search c =
    let s = c.look_ahead-frame.ensures.search in
    let more = rw c.targets_of-targets.ensures at c.if-frame-targets.true in
    c.in_ok-open.ensures.search c.args.edges.now (rw (c.in_ok-push.ensures.items, reversed) s)
    (rw c.targets_of-targets.ensures (next_reached s more))

pub returns-in_ok-join-clause-search : goal.returns-in_ok-join-clause-search
returns-in_ok-join-clause-search c =
    let finished = rw c.targets_of-targets.ensures at c.if-frame-targets.false in
    c.in_ok-join.ensures.search c.args.edges.now c.look_ahead-frame.ensures.search finished

pub returns-in_ok-close-clause-search : goal.returns-in_ok-close-clause-search
returns-in_ok-close-clause-search c =
    let finished = rw c.targets_of-targets.ensures at c.if-frame-targets.false in
    c.in_ok-close.ensures.search c.args.edges.now c.look_ahead-frame.ensures.search finished
