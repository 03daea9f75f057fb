use Rattle.std.proofs.Common.{◌≡◌, ◌+◌, ◌<◌, ℕ, Bool, List, [], ◌∷◌, ◌++◌, length, take, ap, sym, ◌∙◌, subst, arith}
use Rattle.std.proofs.lemmas.List.{take_more}
use Rattle.circuit.specs.Circuit.{Circuit}
use Rattle.workload.specs.declared.run.Run.{Run}
use Rattle.workload.specs.Runs.{run_at}
use Rattle.alarm_points.specs.declared.Points.{Points}
use Rattle.row_audit.specs.declared.watcher.Watcher.{Watcher}
use Rattle.row_audit.specs.Loaded.{Loaded}
use Rattle.row_audit.specs.Watched.{HaveAllWatched, KeepsFound}
use Rattle.row_audit.proofs.run.watch_run.Goals as goal

-- what was kept twice
keeps_both : (a b c : Watcher) → KeepsFound a b → KeepsFound b c → KeepsFound a c
keeps_both a b c first second = record {
  batch = second.batch ∙ first.batch;
  windows = record { ftti = second.windows.ftti ∙ first.windows.ftti; intervals = second.windows.intervals ∙ first.windows.intervals };
  planes = second.planes ∙ first.planes;
}

-- circuits that are loaded as before have seen what these have
seen_there : (net : Circuit) (points : Points) (run : Run) (old now : Loaded) (n : ℕ) (ws : List Watcher) → now ≡ old → old.circuit ≡ net
    → HaveAllWatched net points run old.faults n ws → HaveAllWatched now.circuit points run now.faults n ws
seen_there net points run old now n ws same of seen =
    subst (λ (l : Loaded). HaveAllWatched l.circuit points run l.faults n ws) (sym same)
    (subst (λ (x : Circuit). HaveAllWatched x points run old.faults n ws) (sym of) seen)

seen_here : (net : Circuit) (points : Points) (run : Run) (old now : Loaded) (n : ℕ) (ws : List Watcher) → now ≡ old → old.circuit ≡ net
    → HaveAllWatched now.circuit points run now.faults n ws → HaveAllWatched net points run old.faults n ws
seen_here net points run old now n ws same of seen =
    subst (λ (x : Circuit). HaveAllWatched x points run old.faults n ws) of
    (subst (λ (l : Loaded). HaveAllWatched l.circuit points run l.faults n ws) same seen)

pub loop-t-init : goal.loop-t-init
loop-t-init g c =
    let bench = c.args.bench.now in
    record {
      loaded = c.restart.ensures.keeps;
      sound = c.restart.ensures.sound;
      after = c.restart.ensures.start;
      keeps = c.start_all.ensures.keeps;
      seen = c.start_all.ensures.seen bench.net.now (run_at bench.work.now c.args.run) (g.B.Circuits.loaded c.args.circuits.now).faults;
    }

pub see_all-requires-clause-seen : goal.see_all-requires-clause-seen
see_all-requires-clause-seen g c =
    let bench = c.args.bench.now in
    let inv = c.loop-t.invariant in (
      run_at bench.work.now c.args.run,
      c.loop-t.t,
      seen_there bench.net.now bench.points.now (run_at bench.work.now c.args.run) (g.B.Circuits.loaded c.args.circuits.now) (g.B.Circuits.loaded c.advance.new.self) c.loop-t.t c.loop-t.watchers
          (c.advance.ensures.keeps ∙ inv.loaded) c.requires.made.circuit inv.seen,
    )

pub loop-t-preserved : goal.loop-t-preserved
loop-t-preserved g c =
    let bench = c.args.bench.now in
    let inv = c.loop-t.invariant in
    let t = c.loop-t.t in
    let run = run_at bench.work.now c.args.run in
    let old = g.B.Circuits.loaded c.args.circuits.now in
    let now = g.B.Circuits.loaded c.advance.new.self in
    let same : now ≡ old = c.advance.ensures.keeps ∙ inv.loaded in
    let of = c.requires.made.circuit in
    let within : t < length run.vectors = omega (arith, c.loop-t-test.true, c.cycles-t-end.ensures.count) in
    let vectors : take t run.vectors ++ c.vector.result.now ∷ [] ≡ take (t + 1) run.vectors =
    ap (λ (v : List Bool). take t run.vectors ++ v ∷ []) c.vector.ensures ∙ sym (take_more run.vectors t [] within) in
    let after : g.B.Circuits.IsAfter c.advance.new.self (take (t + 1) run.vectors) =
    subst (λ (vs : List (List Bool)). g.B.Circuits.IsAfter c.advance.new.self vs) vectors (c.advance.ensures.step (take t run.vectors) inv.after) in
    record {
      loaded = same;
      sound = c.advance.ensures.sound;
      after = after;
      keeps = λ word lt. keeps_both _ _ _ (inv.keeps word lt) (c.see_all.ensures.keeps word (omega (arith, lt, c.loop-t.auto.watchers)));
      seen =
          seen_here bench.net.now bench.points.now run old now (t + 1) c.see_all.new.watchers same of
          (c.see_all.ensures.seen run t within after (seen_there bench.net.now bench.points.now run old now t c.loop-t.watchers same of inv.seen));
    }
