use Rattle.std.proofs.Common.{◌≡◌, ◌+◌, ◌<◌, List, [], ◌∷◌, ◌++◌, length, take, refl, ap, sym, ◌∙◌, subst, arith}
use Rattle.std.proofs.lemmas.List.{take_more}
use Rattle.workload.specs.declared.run.Kind.TheVariants.{Mission}
use Rattle.workload.specs.declared.run.Run.{Run}
use Rattle.workload.specs.Runs.{cycles_of, run_at}
use Rattle.alarm_points.specs.Watch.{AreMadeFor, Watches}
use Rattle.campaign_plan.specs.declared.Outcome.{Outcome}
use Rattle.classifier.specs.Planes.{HasPlanes}
use Rattle.classifier.proofs.RunByRun.{planes_none}
use Rattle.row_audit.specs.Loaded.{Loaded}
use Rattle.row_audit.specs.Watched.{HaveAllWatched, watcher_at}
use Rattle.row_audit.proofs.run.judge_runs.Goals as goal

pub loop-run-init : goal.loop-run-init
loop-run-init g c =
    let bench = c.args.bench.now in
    record {
      loaded = refl;
      sound = c.requires.sound;
      ready = c.requires.ready;
      batch = λ word lt. refl;
      planes = λ word lt.
          let faults = (g.B.Circuits.loaded c.args.circuits.now).faults word in
          subst (λ (o : Outcome). HasPlanes bench.net.now bench.points.now bench.ftti [] faults o) (sym (c.requires.nothing word lt)) (planes_none bench.net.now bench.points.now bench.ftti faults);
    }

pub loop-run-preserved : goal.loop-run-preserved
loop-run-preserved g c =
    let bench = c.args.bench.now in
    let net = bench.net.now in
    let points = bench.points.now in
    let runs = bench.work.now in
    let n = c.loop-run.run in
    let run = run_at runs n in
    let inv = c.loop-run.invariant in
    let watched = c.watch_run.ensures in
    let before = g.B.Circuits.loaded c.loop-run.circuits in
    let loaded = g.B.Circuits.loaded c.args.circuits.now in
    let seeing = c.watch_run.new.watchers in
    let added = c.add_all.new.watchers in
    let within : n < length runs = omega (arith, c.runs-run-end.ensures.count) in
    let none : Run = record { kind = Mission; vectors = [] } in
    record {
      loaded = watched.loaded ∙ inv.loaded;
      sound = watched.sound;
      ready = λ word lt.
          let here : word < length seeing = omega (arith, lt, c.add_all.auto.watchers) in
          let inside : word < length c.loop-run.watchers = omega (arith, here, c.watch_run.auto.watchers) in
          let windows : (watcher_at added word).windows ≡ (watcher_at seeing word).windows = c.add_all.ensures.windows word here in
          record {
            made = subst (λ (w : Watches). AreMadeFor points w) (sym windows) (watched.seen word here).made;
            interval = ap (λ (w : Watches). w.ftti) windows ∙ (watched.keeps word inside).windows.ftti ∙ (inv.ready word inside).interval;
          };
      batch = λ word lt.
          let inside : word < length c.loop-run.watchers = omega (arith, lt, c.loop-run.auto.watchers) in
          let here : word < length seeing = omega (arith, inside, c.watch_run.auto.watchers) in
          c.add_all.ensures.batch word here ∙ (watched.keeps word inside).batch ∙ inv.batch word lt;
      planes = λ word lt.
          let inside : word < length c.loop-run.watchers = omega (arith, lt, c.loop-run.auto.watchers) in
          let here : word < length seeing = omega (arith, inside, c.watch_run.auto.watchers) in
          let keeps = watched.keeps word inside in
          let planes = (watcher_at added word).planes in
          let ftti : (watcher_at seeing word).windows.ftti ≡ bench.ftti = keeps.windows.ftti ∙ (inv.ready word inside).interval in
          let had : HasPlanes net points bench.ftti (take n runs) (before.faults word) (watcher_at c.loop-run.watchers word).planes =
          subst (λ (l : Loaded). HasPlanes net points bench.ftti (take n runs) (l.faults word) (watcher_at c.loop-run.watchers word).planes) (sym inv.loaded) (inv.planes word lt) in
          let old : HasPlanes net points (watcher_at seeing word).windows.ftti (take n runs) (before.faults word) (watcher_at seeing word).planes =
          subst (λ f. HasPlanes net points f (take n runs) (before.faults word) (watcher_at seeing word).planes) (sym ftti)
          (subst (λ (o : Outcome). HasPlanes net points bench.ftti (take n runs) (before.faults word) o) (sym keeps.planes) had) in
          let seen : HaveAllWatched net points run before.faults (cycles_of run) seeing = watched.seen in
          subst (λ f. HasPlanes net points f (take (n + 1) runs) (loaded.faults word) planes) ftti
          (subst (λ (rs : List Run). HasPlanes net points (watcher_at seeing word).windows.ftti rs (loaded.faults word) planes) (sym (take_more runs n none within))
          (subst (λ (l : Loaded). HasPlanes net points (watcher_at seeing word).windows.ftti (take n runs ++ run ∷ []) (l.faults word) planes) inv.loaded
          (c.add_all.ensures.planes net points (take n runs) run before.faults word (sym c.kind.ensures) seen here old)));
    }
