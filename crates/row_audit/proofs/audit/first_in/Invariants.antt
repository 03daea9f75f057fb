use Rattle.std.proofs.Common.{◌≡◌, drop}
use Rattle.std.specs.Prelude.{find}
use Rattle.campaign_plan.specs.Analysis.{Analysis}
use Rattle.row_audit.specs.Audited.{IsOfPlan, each_nth, each_nth_from, is_false}
use Rattle.row_audit.specs.Loaded.{IsLoadedFor}
use Rattle.row_audit.specs.Watched.{AreAllAtHand}
use Rattle.row_audit.proofs.audit.first_in.Given as goal

-- none of the rows so far is false
abbrev pub invariant-loop-place : goal.invariant-loop-place
invariant-loop-place g l = record {
  made : IsLoadedFor l.bench.net.now l.bench.order.now (g.B.Circuits.loaded l.circuits);
  sound : g.B.Circuits.IsSound l.circuits;
  at_hand : AreAllAtHand l.bench.net.now l.bench.points.now l.bench.ftti l.bench.work.now l.bench.faults.now l.watchers;
  none : (p : Analysis) → IsOfPlan p l.bench.net.now l.bench.work.now l.bench.points.now l.bench.ftti l.bench.faults.now
      → find (is_false p) (each_nth l.every l.rows) ≡ find (is_false p) (each_nth_from l.every l.place (drop l.place l.rows));
}
