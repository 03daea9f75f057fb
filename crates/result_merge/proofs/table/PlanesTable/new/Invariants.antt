use Rattle.std.proofs.Common.{◌≡◌, ◌<◌, ℕ, take, vec_len}
use Rattle.campaign_plan.specs.Analysis.{batch_count}
use Rattle.result_merge.specs.Tables.{at_batch}
use Rattle.result_merge.proofs.Tabling.{had}
use Rattle.result_merge.proofs.table.PlanesTable.new.Given as goal

abbrev pub invariant-loop-row : goal.invariant-loop-row
invariant-loop-row l = record {
  len : vec_len l.planes ≡ batch_count l.plan;
  has : (batch : ℕ) → batch < batch_count l.plan → at_batch l.planes.items batch ≡ had (take l.row-index l.rows) batch;
}
