use Rattle.std.proofs.Common.{◌≡◌, List, length, ap, sym, ◌∙◌, subst}
use Rattle.alarm_points.specs.FourWatches.{AreAllMadeFor, windows_at}
use Rattle.alarm_points.specs.Watch.{Watches}
use Rattle.testbench.specs.Load.{lane_faults, load_of}
use Rattle.classifier.specs.Planes.{planes_of}
use Rattle.classifier.proofs.outcome.loaded_quad.Goals as goal

pub returns-clause-outcomes : goal.returns-clause-outcomes
returns-clause-outcomes g c = λ word lt.
    let same : (windows_at c.words.result.now word).ftti ≡ c.args.windows.now.ftti =
    ap (λ (ws : List Watches). (windows_at ws word).ftti) c.words.ensures.value ∙ c.requires.windows.same word lt in
    c.loaded_outcomes.ensures.outcomes word lt
    ∙ ap (λ ftti. planes_of c.args.bench.now.circuit c.args.bench.now.points ftti c.args.bench.now.runs (lane_faults (load_of c.args.lanes.now) word)) same

pub loaded_outcomes-requires-clause-made : goal.loaded_outcomes-requires-clause-made
loaded_outcomes-requires-clause-made g c =
    let value = c.words.ensures.value in
    record {
      lanes_made = c.requires.lanes;
      narrow_made = c.requires.narrow;
      count = ap (λ (ws : List Watches). length ws) value ∙ c.requires.windows.count;
      windows_made = subst (λ (ws : List Watches). AreAllMadeFor c.args.bench.now.points ws) (sym value) c.requires.windows.made;
    }
