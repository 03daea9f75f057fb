-- Files of parts, merged.
use Rattle.std.proofs.Common.{◌≡◌, List, length, take, refl, sym}
use Rattle.std.proofs.Math.Seq.{take-length}
use Rattle.fm_base.specs.Names.{Bytes}
use Rattle.campaign_plan.specs.Analysis.{Analysis}
use Rattle.campaign_plan.specs.Batches.{Entry, AreTrue, true_planes}
use Rattle.campaign_plan.specs.Kept.{IsPlan}
use Rattle.result_file.specs.declared.KeptRows.{KeptRows}
use Rattle.result_file.specs.ResultText.{result_text}
use Rattle.result_file.specs.KeptRows.{kept_entries}
use Rattle.campaign_run.specs.Found.{IsPart}
use Rattle.campaign_run.specs.Stopped.{IsTakenUp, StoppedAreTakenUp}
use Rattle.result_merge.specs.Merged.{merged_entries}
use Rattle.result_merge.specs.PlanLaws.{MergesAreLawful}
use Rattle.campaign_shard.specs.MergedParts.{IsKeptTruly, StoppedPartsMerge}

are_true : StoppedAreTakenUp → (p : Analysis) → IsPlan p → (own : Bytes) (k : KeptRows) → length own ≡ 89 → IsKeptTruly own p k → AreTrue p (kept_entries k)
are_true law p plan own k many it =
    let taken : IsTakenUp own p (take it.bytes (result_text own p it.entries)) =
    law p plan own (take it.bytes (result_text own p it.entries)) it.entries it.bytes many it.part refl in
    (taken.truly k it.kept_rows).entries

pub parts_merge : StoppedAreTakenUp → MergesAreLawful → StoppedPartsMerge
parts_merge law merges p plan own k l many first second =
    let a : List Entry = kept_entries k in
    let b : List Entry = kept_entries l in
    let all : List Entry = merged_entries p a b in
    let laws = (merges p).0 in
    let part : IsPart p (true_planes p) all = record {
      distinct = laws.distinct a b;
      have = laws.have (true_planes p) a b (are_true law p plan own k many first) (are_true law p plan own l many second);
    } in
    let text : Bytes = result_text own p all in
    record { part = part; taken = law p plan own text all (length text) many part (sym (take-length text)) }
