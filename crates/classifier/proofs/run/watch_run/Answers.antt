use Rattle.std.proofs.Common.{◌≡◌, ◌<◌, List, [], length, ap, refl, sym, ◌∙◌, subst, arith}
use Rattle.std.specs.Prelude.{slice_index_or}
use Rattle.workload.specs.Runs.{run_at}
use Rattle.alarm_points.specs.FourWatches.{AreAllMadeFor}
use Rattle.alarm_points.specs.declared.Points.{Points}
use Rattle.classifier.specs.InRun.{in_run}
use Rattle.testbench.specs.Load.{Load, load_of}
use Rattle.classifier.specs.Narrowed.{AreNarrowFor, narrow_in_run}
use Rattle.classifier.specs.Seen.{HaveAllSeen}
use Rattle.classifier.specs.Stretch.{AreForWords, IsUnderWay, under_way}
use Rattle.classifier.specs.declared.narrow.Narrow.{Narrow}
use Rattle.classifier.proofs.Finishing.{begun, cost_more, seen_to_end}
use Rattle.testbench.proofs.LoadIsKept.{load_kept}
use Rattle.classifier.proofs.Narrowing.{narrow_for}
use Rattle.classifier.proofs.Stretches.{intervals_more, narrow_under_way, stretch_more, stretch_none, watched_alike, words_still}
use Rattle.classifier.proofs.run.watch_run.Goals as goal
use Rattle.classifier.proofs.run.watch_run.Goals.{else-t-cycles-via-then-t-cycles+else-goes_narrow, else-t-cycles-via-else-t-cycles}

pub start_windows-requires-clause-made : goal.start_windows-requires-clause-made
start_windows-requires-clause-made g c =
    subst (λ (ps : Points). AreAllMadeFor ps c.args.windows.now) (sym c.points.ensures.points) c.requires.made.windows_made

pub stretches-init : goal.stretches-init
stretches-init g c =
    let bench = c.args.bench.now in
    let run = run_at bench.runs c.args.run in
    let words = g.W.Word.words in
    let decided = c.args.decided.now in
    let lanes = c.drop_decided.new.lanes in
    let faults = lanes.in_force in
    let windows = c.start_windows.new.windows in
    let left = c.start_windows.new.left in
    let s = under_way (in_run g.W.Word.lanes g.W.Word.lane_bit lanes) windows left in
    let place = c.drop_decided.ensures.place in
    let made = c.requires.made in
    let loads : load_of lanes ≡ load_of c.args.lanes.now = place.load ∙ load_kept c.args.lanes.now c.start.new.self c.start.ensures.keeps in
    let before : AreForWords words bench.points decided c.args.windows.now c.args.left.now =
    record { decided_count = c.requires.counts.0; windows_count = made.count; left_count = c.requires.counts.1; made = made.windows_made } in
    let for_words : AreForWords words bench.points decided windows left =
    words_still words bench.points decided c.args.windows.now windows c.args.left.now left c.start_windows.ensures.intervals (omega (arith, c.start_windows.auto.windows))
    (omega (arith, c.start_windows.auto.left)) before in
    let from : IsUnderWay bench c.args.run words decided 0 s = record {
      has_run = c.requires.run;
      runs = c.cycles-cycles.ensures.sound;
      made = record {
        circuit = ap (λ (l : Load). l.circuit) loads ∙ made.lanes_made.circuit;
        order = ap (λ (l : Load). l.order) loads ∙ made.lanes_made.order;
      };
      cycle = place.cycle ∙ c.start.ensures.cycle;
      after = place.after [] c.start.ensures.start;
      for_words = for_words;
    } in
    let none =
    subst (λ (ps : Points). HaveAllSeen lanes.circuit ps run faults decided 0 windows left) c.points.ensures.points (c.start_windows.ensures.seen lanes.circuit run faults decided) in
    record {
      within = omega arith;
      narrow = made.narrow_made;
      stretch = stretch_none bench c.args.run words decided 0 s from;
      watched = λ word lt. record {
        seen = none word (subst (λ n. word < n) (sym for_words.windows_count) lt);
        followed = record { follow = λ k lane stays. refl };
      };
      cost = omega arith;
    }

pub follow-t-requires-clause-from : goal.follow-t-requires-clause-from
follow-t-requires-clause-from g c = c.stretches.invariant.stretch.to

pub follow-t-requires-clause-bound : goal.follow-t-requires-clause-bound
follow-t-requires-clause-bound g c = (
  omega (arith, c.stretch_end-bound.ensures.more),
  omega (arith, c.stretch_end-bound.ensures.within, c.cycles-cycles.ensures.count),
)

pub goes_narrow-requires : goal.goes_narrow-requires
goes_narrow-requires g c =
    let bench = c.args.bench.now in
    let made = c.follow-t.ensures.stretch.to.made in
    narrow_for bench.circuit c.follow-t.new.lanes.circuit bench.order c.follow-t.new.lanes.order c.stretches.narrow (sym made.circuit) (sym made.order) c.stretches.invariant.narrow

pub stretches-preserved : goal.stretches-preserved
stretches-preserved g c =
    let inv = c.stretches.invariant in
    let bench = c.args.bench.now in
    let ran = c.follow-t.ensures in
    let lanes = in_run g.W.Word.lanes g.W.Word.lane_bit in
    let began = c.drop_decided.new.lanes in
    let made = ran.stretch.to.made in
    record {
      within = omega (arith, ran.within.1, c.stretch_end-bound.ensures.within, c.cycles-cycles.ensures.count);
      narrow =
          elim c.else-t-cycles.branch [
            | else-t-cycles-via-then-t-cycles+else-goes_narrow w ↦
                subst (λ (ns : List Narrow). AreNarrowFor bench.circuit bench.order ns) (sym w.narrow-is)
                (narrow_for c.follow-t.new.lanes.circuit bench.circuit c.follow-t.new.lanes.order bench.order w.goes_narrow.new.narrow made.circuit made.order
                w.goes_narrow.ensures.made)
            | else-t-cycles-via-else-t-cycles w ↦ subst (λ (ns : List Narrow). AreNarrowFor bench.circuit bench.order ns) (sym w.narrow-is) inv.narrow
          ];
      stretch =
          stretch_more bench c.args.run g.W.Word.words c.args.decided.now 0 c.stretches.t c.follow-t.result (under_way (lanes began) c.start_windows.new.windows c.start_windows.new.left)
          (under_way (lanes c.stretches.lanes) c.stretches.windows c.stretches.left) (under_way (lanes c.follow-t.new.lanes) c.follow-t.new.windows c.follow-t.new.left)
          inv.stretch ran.stretch;
      watched = ran.stretch.watched began.in_force inv.watched;
      cost = cost_more c.args.steps.now c.stretches.steps c.follow-t.new.steps c.stretches.t c.follow-t.result (length bench.circuit.tables) inv.cost ran.cost;
    }

pub returns-then-t-bound-clause-load : goal.returns-then-t-bound-clause-load
returns-then-t-bound-clause-load g c =
    c.follow-t.ensures.stretch.load ∙ c.stretches.invariant.stretch.load ∙ c.drop_decided.ensures.place.load
    ∙ load_kept c.args.lanes.now c.start.new.self c.start.ensures.keeps

pub returns-then-t-bound-clause-intervals : goal.returns-then-t-bound-clause-intervals
returns-then-t-bound-clause-intervals g c =
    intervals_more c.args.windows.now c.start_windows.new.windows c.follow-t.new.windows c.start_windows.ensures.intervals
    (intervals_more c.start_windows.new.windows c.stretches.windows c.follow-t.new.windows c.stretches.invariant.stretch.intervals c.follow-t.ensures.stretch.intervals)

pub returns-then-t-bound-clause-seen : goal.returns-then-t-bound-clause-seen
returns-then-t-bound-clause-seen g c =
    let inv = c.stretches.invariant in
    let bench = c.args.bench.now in
    let decided = c.args.decided.now in
    let faults = c.drop_decided.new.lanes.in_force in
    let ran = c.follow-t.ensures in
    let new = c.follow-t.new in
    let words = g.W.Word.words in
    record {
      faults = faults;
      begin =
          begun (run_at bench.runs c.args.run).kind c.kind.result words (load_of c.args.lanes.now) decided c.start.new.self.in_force faults c.kind.ensures
          (c.start.ensures.in_force ∙ c.start.ensures.keeps.loads) c.drop_decided.ensures.begin;
      seen =
          seen_to_end bench c.args.run words decided c.follow-t.result (under_way (in_run g.W.Word.lanes g.W.Word.lane_bit new.lanes) new.windows new.left) faults c.points.ensures.fit
          ran.stretch.to (omega (arith, ran.within.1, c.stretch_end-bound.ensures.within, c.cycles-cycles.ensures.count)) (ran.stretch.watched faults inv.watched)
          (λ late. ran.over c.if-t-bound.true);
    }

pub follow-end-requires-clause-from : goal.follow-end-requires-clause-from
follow-end-requires-clause-from g c =
    let none = c.index-narrow-0.result in
    let own = c.goes_narrow.ensures.made 0 none (c.goes_narrow.ensures.some c.if-goes_narrow.true) in
    let to = c.follow-t.ensures.stretch.to in
    narrow_under_way c.args.bench.now c.args.run g.W.Word.words c.args.decided.now c.follow-t.result (in_run g.W.Word.lanes g.W.Word.lane_bit c.follow-t.new.lanes)
    (narrow_in_run (slice_index_or c.goes_narrow.new.narrow 0 none)) c.follow-t.new.windows c.follow-t.new.left (c.goes_narrow.ensures.four c.if-goes_narrow.true) to
    (c.goes_narrow.ensures.goes_on none c.if-goes_narrow.true) (record { circuit = own.circuit ∙ to.made.circuit; order = own.order ∙ to.made.order })

pub follow-end-requires-clause-bound : goal.follow-end-requires-clause-bound
follow-end-requires-clause-bound g c = (
  omega (arith, c.follow-t.ensures.within.1, c.stretch_end-bound.ensures.within),
  omega (arith, c.cycles-cycles.ensures.count),
)

pub returns-then-goes_narrow-clause-load : goal.returns-then-goes_narrow-clause-load
returns-then-goes_narrow-clause-load g c =
    c.follow-t.ensures.stretch.load ∙ c.stretches.invariant.stretch.load ∙ c.drop_decided.ensures.place.load
    ∙ load_kept c.args.lanes.now c.start.new.self c.start.ensures.keeps

pub returns-then-goes_narrow-clause-intervals : goal.returns-then-goes_narrow-clause-intervals
returns-then-goes_narrow-clause-intervals g c =
    intervals_more c.args.windows.now c.start_windows.new.windows c.follow-end.new.windows c.start_windows.ensures.intervals
    (intervals_more c.start_windows.new.windows c.stretches.windows c.follow-end.new.windows c.stretches.invariant.stretch.intervals
    (intervals_more c.stretches.windows c.follow-t.new.windows c.follow-end.new.windows c.follow-t.ensures.stretch.intervals c.follow-end.ensures.stretch.intervals))

pub returns-then-goes_narrow-clause-seen : goal.returns-then-goes_narrow-clause-seen
returns-then-goes_narrow-clause-seen g c =
    let inv = c.stretches.invariant in
    let bench = c.args.bench.now in
    let run = run_at bench.runs c.args.run in
    let decided = c.args.decided.now in
    let faults = c.drop_decided.new.lanes.in_force in
    let all = c.follow-t.ensures.stretch.watched faults inv.watched in
    let four : g.W.Word.words ≡ 4 = c.goes_narrow.ensures.four c.if-goes_narrow.true in
    let none = c.index-narrow-0.result in
    let one : Narrow = slice_index_or c.goes_narrow.new.narrow 0 none in
    let own = c.goes_narrow.ensures.made 0 none (c.goes_narrow.ensures.some c.if-goes_narrow.true) in
    let watched =
    watched_alike bench.points run 4 faults decided c.follow-t.result (in_run g.W.Word.lanes g.W.Word.lane_bit c.follow-t.new.lanes) (narrow_in_run one) c.follow-t.new.windows
    c.follow-t.new.left own.circuit (c.goes_narrow.ensures.goes_on none c.if-goes_narrow.true).faults (λ word lt. all word (omega (arith, lt, four))) in
    let ran = c.follow-end.ensures in
    let new = c.follow-end.new in
    record {
      faults = faults;
      begin =
          begun run.kind c.kind.result g.W.Word.words (load_of c.args.lanes.now) decided c.start.new.self.in_force faults c.kind.ensures
          (c.start.ensures.in_force ∙ c.start.ensures.keeps.loads) c.drop_decided.ensures.begin;
      seen =
          seen_to_end bench c.args.run 4 decided c.follow-end.result (under_way (narrow_in_run new.lanes) new.windows new.left) faults c.points.ensures.fit ran.stretch.to
          (omega (arith, ran.within.1, c.cycles-cycles.ensures.count)) (ran.stretch.watched faults watched)
          (λ late. ran.over (omega (arith, late, c.cycles-cycles.ensures.count)));
    }

pub returns-clause-load : goal.returns-clause-load
returns-clause-load g c =
    c.stretches.invariant.stretch.load ∙ c.drop_decided.ensures.place.load ∙ load_kept c.args.lanes.now c.start.new.self c.start.ensures.keeps

pub returns-clause-intervals : goal.returns-clause-intervals
returns-clause-intervals g c =
    intervals_more c.args.windows.now c.start_windows.new.windows c.stretches.windows c.start_windows.ensures.intervals c.stretches.invariant.stretch.intervals

pub returns-clause-seen : goal.returns-clause-seen
returns-clause-seen g c =
    let inv = c.stretches.invariant in
    let bench = c.args.bench.now in
    let decided = c.args.decided.now in
    let faults = c.drop_decided.new.lanes.in_force in
    let words = g.W.Word.words in
    record {
      faults = faults;
      begin =
          begun (run_at bench.runs c.args.run).kind c.kind.result words (load_of c.args.lanes.now) decided c.start.new.self.in_force faults c.kind.ensures
          (c.start.ensures.in_force ∙ c.start.ensures.keeps.loads) c.drop_decided.ensures.begin;
      seen =
          seen_to_end bench c.args.run words decided c.stretches.t (under_way (in_run g.W.Word.lanes g.W.Word.lane_bit c.stretches.lanes) c.stretches.windows c.stretches.left) faults
          c.points.ensures.fit inv.stretch.to inv.within inv.watched (λ late. absurd (omega (arith, late, c.stretches-test.false, c.cycles-cycles.ensures.count)));
    }
