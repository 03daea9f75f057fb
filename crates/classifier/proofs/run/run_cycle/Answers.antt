use Rattle.std.proofs.Common.{◌≡◌, ◌+◌, ◌++◌, ◌∷◌, List, [], Bool, length, take, ap, ap₂, sym, ◌∙◌, subst, arith}
use Rattle.std.proofs.lemmas.List.{length-take-le, take_more}
use Rattle.circuit.specs.Circuit.{Circuit}
use Rattle.circuit.specs.Trace.{trace, vector_at}
use Rattle.circuit.proofs.Cycles.{trace_taken}
use Rattle.workload.specs.Runs.{run_at}
use Rattle.alarm_points.specs.declared.Points.{Points}
use Rattle.alarm_points.specs.PointsKept.{ArePointsFor}
use Rattle.golden_difference.specs.Beside.{IsGoldenRow}
use Rattle.testbench.specs.Load.{Load}
use Rattle.classifier.specs.Stretch.{AreAllWatched, AreForWords, under_way}
use Rattle.classifier.proofs.Finishing.{few_cycles}
use Rattle.classifier.proofs.Stretches.{watched_alike, words_still}
use Rattle.classifier.proofs.run.run_cycle.Goals as goal

pub row-row-requires-clause-run : goal.row-row-requires-clause-run
row-row-requires-clause-run g c = c.requires.from.has_run

pub advance-requires-clause-few : goal.advance-requires-clause-few
advance-requires-clause-few g c =
    let from = c.requires.from in
    omega (arith, from.cycle, c.requires.more, few_cycles c.args.bench.now.runs c.args.run from.runs from.has_run)

pub see_words-requires-clause-points : goal.see_words-requires-clause-points
see_words-requires-clause-points g c =
    subst (λ (ps : Points). ArePointsFor (g.F.Followed.in_run c.advance.new.self).load.circuit ps) (sym c.points.ensures.points)
    (subst (λ (m : Circuit). ArePointsFor m c.args.bench.now.points) (sym (ap (λ (l : Load). l.circuit) c.advance.ensures.load ∙ c.requires.from.made.circuit)) c.points.ensures.fit)

pub see_words-requires-clause-words : goal.see_words-requires-clause-words
see_words-requires-clause-words g c =
    subst (λ (ps : Points). AreForWords g.F.Followed.words ps c.args.decided.now c.args.windows.now c.args.left.now) (sym c.points.ensures.points) c.requires.from.for_words

pub returns-clause-stretch : goal.returns-clause-stretch
returns-clause-stretch g c =
    let bench = c.args.bench.now in
    let run = run_at bench.runs c.args.run in
    let t = c.args.t in
    let words = g.F.Followed.words in
    let from = c.requires.from in
    let lt = c.requires.more in
    let row = c.row-row.result.now in
    let decided = c.args.decided.now in
    let windows = c.args.windows.now in
    let left = c.args.left.now in
    let saw = c.see_words.ensures in
    let new = c.see_words.new in
    let old = g.F.Followed.in_run c.args.lanes.now in
    let held = g.F.Followed.in_run c.advance.new.self in
    let next = g.F.Followed.in_run new.lanes in
    let loads : next.load ≡ old.load = saw.place.load ∙ c.advance.ensures.load in
    let golden : IsGoldenRow bench.circuit run.vectors t row = c.row-row.ensures in
    let same : c.points.result.now ≡ bench.points = c.points.ensures.points in
    let size : length (take t run.vectors) ≡ t = length-take-le t run.vectors (omega (arith, lt)) in
    let joined : take t run.vectors ++ vector_at run.vectors t ∷ [] ≡ take (t + 1) run.vectors = sym (take_more run.vectors t [] lt) in
    let here : IsGoldenRow bench.circuit (take t run.vectors ++ vector_at run.vectors t ∷ []) (length (take t run.vectors)) row =
    λ n within. golden n within ∙ sym (trace_taken bench.circuit [] run.vectors t n lt) ∙ ap₂ (λ (vs : List (List Bool)) m. trace bench.circuit [] vs m n) (sym joined) (sym size) in
    let after : held.IsAfter (take (t + 1) run.vectors) =
    subst (λ (vs : List (List Bool)). held.IsAfter vs) joined (c.advance.ensures.step (take t run.vectors) (vector_at run.vectors t) from.after here) in
    record {
      to = record {
        has_run = from.has_run;
        runs = from.runs;
        made = record {
          circuit = ap (λ (l : Load). l.circuit) loads ∙ from.made.circuit;
          order = ap (λ (l : Load). l.order) loads ∙ from.made.order;
        };
        cycle = saw.place.cycle ∙ c.advance.ensures.cycle ∙ ap (λ n. n + 1) from.cycle;
        after = saw.place.after (take (t + 1) run.vectors) after;
        for_words = words_still words bench.points decided windows new.windows left new.left saw.intervals
            (omega (arith, c.see_words.auto.windows)) (omega (arith, c.see_words.auto.left)) from.for_words;
      };
      load = loads;
      intervals = saw.intervals;
      watched = λ faults watched.
          subst (λ (ps : Points). AreAllWatched ps run words faults decided (t + 1) (under_way next new.windows new.left)) same
          (saw.seen run faults t
          (record {
            of_kind = sym c.kind.ensures;
            within = lt;
            after = after;
            golden = subst (λ (m : Circuit). IsGoldenRow m run.vectors t row) (sym (ap (λ (l : Load). l.circuit) c.advance.ensures.load ∙ from.made.circuit)) golden;
          })
          (subst (λ (ps : Points). AreAllWatched ps run words faults decided t (under_way held windows left)) (sym same)
          (watched_alike bench.points run words faults decided t old held windows left (ap (λ (l : Load). l.circuit) c.advance.ensures.load)
          (λ word k less lane. c.advance.ensures.faults word k) watched)));
    }
