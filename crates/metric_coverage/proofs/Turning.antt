-- What workers have kept of a batch.
use Rattle.std.proofs.Common.{◌≡◌, ℕ, ◌*◌, ◌/◌, ◌%◌, ◌<◌, List, length, sym, subst, arith}
use Rattle.std.specs.Prelude.{slice_index_or}
use Rattle.std.proofs.lemmas.Nat.{div-add-mod', div_below, mod_below}
use Rattle.batch_crew.specs.Crew.{share_of}
use Rattle.campaign_plan.specs.Analysis.{Analysis, batch_count, fault_count}
use Rattle.reading_planes.specs.declared.reading.Reading.{Reading}
use Rattle.metric_coverage.specs.declared.worker.Worker.{Worker}
use Rattle.metric_coverage.specs.Turns.{HasBatch, batch_of_turn, rounds_for, turn_at, turns_for}
use Rattle.metric_coverage.specs.Work.{HasKept, HaveKept}
use Rattle.metric_coverage.proofs.Ordering.{turns_enough}

-- the worker that has taken a batch has its planes
pub kept_of : (p : Analysis) (readings : List Reading) (crew : List Worker) (has : HaveKept p readings crew) (batch : ℕ) → batch < batch_count p → (worker : Worker)
    → worker ≡ slice_index_or crew (batch % length crew) worker
    → (batch / length crew < length worker.turns.items) × HasBatch p readings batch (turn_at worker.turns.items (batch / length crew))
kept_of p readings crew has batch lt worker is =
    let workers : ℕ = length crew in
    let w : ℕ = batch % workers in
    let turn : ℕ = batch / workers in
    let there : w < workers = mod_below batch workers has.some in
    let worked : HasKept p has.bench readings (share_of w workers) (rounds_for p workers) worker =
    subst (λ (v : Worker). HasKept p has.bench readings (share_of w workers) (rounds_for p workers) v) (sym is) (has.each w worker there) in
    let before : batch < turns_for p workers * workers = omega (arith, lt, turns_enough (fault_count p) workers has.some) in
    let within : turn < turns_for p workers = div_below batch workers (turns_for p workers) has.some before in
    let number : batch_of_turn (share_of w workers) turn ≡ batch = omega (arith, div-add-mod' batch workers) in
    (omega (arith, within, worked.turns.room), subst (λ n. HasBatch p readings n (turn_at worker.turns.items turn)) number (worked.turns.kept turn within))
