use Rattle.std.proofs.Common.{List, ◌∙◌, subst}
use Rattle.std.specs.Prelude.{Option}
use Rattle.circuit.specs.declared.parts.Fault.{Fault}
use Rattle.lane_words.specs.Loads.{loaded_faults}
use Rattle.counterexamples.specs.Runs.{HasFollowed}
use Rattle.counterexamples.proofs.Loading.{kept_on, still_made}
use Rattle.counterexamples.proofs.Seeing.{followed_lanes}
use Rattle.counterexamples.proofs.faults.found_lanes.Goals as goal

pub loop-run-preserved : goal.loop-run-preserved
loop-run-preserved c =
    let own = c.args.netlist.now in
    let p = c.args.posed.now in
    let was = c.loop-run.invariant in
    let run = subst (λ (loads : List (List (Option Fault))). HasFollowed own p (loaded_faults loads) c.follow-cycles.result c.follow-cycles.new.seen) was.keeps.loads c.follow-cycles.ensures.run in
    record {
      made = still_made own c.args.order.now c.loop-run.lanes c.follow-cycles.new.lanes c.follow-cycles.ensures.keeps was.made;
      keeps = kept_on c.args.lanes.now c.loop-run.lanes c.follow-cycles.new.lanes was.keeps c.follow-cycles.ensures.keeps;
      size = c.follow-cycles.ensures.size ∙ was.size;
      same = c.choose.ensures ∙ was.same;
      found = followed_lanes own p (loaded_faults c.args.lanes.now.loads) c.follow-cycles.result c.follow-cycles.new.seen c.loop-run.found c.unalarmed_lanes-own.result c.either_lanes-found.result
          c.requires.golden run was.found c.unalarmed_lanes-own.ensures c.either_lanes-found.ensures;
    }

pub returns-then-found-many-clause-found : goal.returns-then-found-many-clause-found
returns-then-found-many-clause-found c =
    let own = c.args.netlist.now in
    let p = c.args.posed.now in
    let was = c.loop-run.invariant in
    let run = subst (λ (loads : List (List (Option Fault))). HasFollowed own p (loaded_faults loads) c.follow-cycles.result c.follow-cycles.new.seen) was.keeps.loads c.follow-cycles.ensures.run in
    followed_lanes own p (loaded_faults c.args.lanes.now.loads) c.follow-cycles.result c.follow-cycles.new.seen c.loop-run.found c.unalarmed_lanes-own.result c.either_lanes-found.result
    c.requires.golden run was.found c.unalarmed_lanes-own.ensures c.either_lanes-found.ensures
