-- How a part has ended.
use Rattle.std.proofs.Common.{◌≡◌, ℕ, ◌<◌, ◌≤◌, ◌⊎◌, inl, inr, true, false, List, [], map, length, refl, ap, sym, subst, ◌∙◌, arith}
use Rattle.std.specs.Prelude.{All, Contains}
use Rattle.std.proofs.lemmas.Bool.{false≢true}
use Rattle.std.proofs.lemmas.List.{length-map}
use Rattle.metric_sums.specs.declared.Sums.{Sums}
use Rattle.fm_shelf.specs.Content.{HasIfKnown}
use Rattle.fm_shelf.specs.Past.{WritesOn}
use Rattle.fm_shelf.specs.Shelf.{ShelfState}
use Rattle.fm_shelf.specs.Sink.{SinkState, with_more, Wrote}
use Rattle.fm_shelf.specs.Outside.{Outside}
use Rattle.fm_shelf.proofs.Written.{writes_unread}
use Rattle.fm_base.specs.Names.{Bytes}
use Rattle.campaign_core.specs.Machines.{times}
use Rattle.campaign_plan.specs.Analysis.{Analysis, batch_count}
use Rattle.campaign_plan.specs.Batches.{batches, true_planes}
use Rattle.campaign_plan.specs.Kept.{IsPlan}
use Rattle.result_file.specs.declared.Row.{Row}
use Rattle.result_file.specs.ResultText.{result_text}
use Rattle.result_file.specs.KeptRows.{entry_of as planed}
use Rattle.campaign_board.specs.Boards.{Start, batches_of}
use Rattle.campaign_board.specs.Kept.{BoardState as Board, AreRows, IsBoard, IsStart, IsHeaderTorn}
use Rattle.campaign_board.specs.Missing.{IsMissing}
use Rattle.campaign_workers.specs.Truth.{HasTrueEntries}
use Rattle.campaign_run.specs.declared.run.End.{End}
use Rattle.campaign_run.specs.declared.run.End.TheVariants.{Done, NoMemory, ResultFault, OutFault}
use Rattle.campaign_run.specs.Outside.{had_written}
use Rattle.campaign_run.specs.Starting.{no_kept_rows}
use Rattle.campaign_run.specs.Steps.{TellsEnd}
use Rattle.campaign_run.proofs.Entries.{length_entries}
use Rattle.campaign_run.proofs.Keeping.{same_batches}
use Rattle.campaign_run.proofs.Finding.{have_true}
use Rattle.campaign_run.proofs.Reporting.{are_part, text_result}
use Rattle.campaign_run.proofs.Leaving.{LeavesTaken, StopsTaken, left_torn, left_header, stopped_row, stopped_header}
use Rattle.campaign_run.proofs.Ending.{starts as campaign_starts}
use Rattle.refusals.specs.Texts.{shard_line}
use Rattle.result_merge.specs.Parts.{is_of_part, HasPart}
use Rattle.campaign_shard.specs.LeftPart.{LeftPart, StoppedPart}
use Rattle.campaign_shard.specs.PartSeats.{IsPartDone}
use Rattle.campaign_shard.specs.RanPart.{PartCampaign, IsPartTold, EndsPartAs, HasRunPart}
use Rattle.campaign_shard.specs.PartSteps.{whole_campaign, part_origin, HasPartWorked}
use Rattle.campaign_workers.proofs.Ends.{counted}

-- ---- what a part begins with

-- no row is there yet
none : (o : Start) → AreRows o []
none o = record {
  due = λ k lt. absurd (omega (arith, lt));
  once = tt;
  within = λ i d lt. absurd (omega (arith, lt));
  own = λ i d lt. absurd (omega (arith, lt));
}

module _ (name own : Bytes) (p : Analysis) (part parts : ℕ) (shelf : ShelfState) where
  abbrev origin : Start
  origin = part_origin name own p part parts shelf

  pub starts : (batches : ℕ) → IsPlan p → length own ≡ 89 → batches ≡ batch_count p → IsStart origin name [] batches shelf
  starts batches plan many count =
      let whole = campaign_starts (whole_campaign name own p) shelf batches plan many (inl refl) count in
      record { named = refl; rows_same = refl; shelf_same = refl; many = whole.many; entries = whole.entries; rows_are = none origin }

  pub all_true : HasTrueEntries p origin
  all_true = have_true p no_kept_rows origin refl refl

  pub many_entries : length origin.entries ≡ batch_count p
  many_entries = length_entries p (true_planes p)

-- ---- the rows of a part

module _ (c : PartCampaign) (before : ShelfState) where
  abbrev start : Start
  start = part_origin c.name c.own c.p c.part c.parts before

  -- each batch of the plan is to do
  due_below : (batch : ℕ) → batch < batch_count c.p → IsMissing start batch
  due_below batch lt = let many = many_entries c.name c.own c.p c.part c.parts before in (omega (arith, lt, many), tt)

  each_batch : (rows : List Row) → IsPartDone start c.part c.parts rows false → (batch : ℕ) → batch < batch_count c.p → is_of_part c.part c.parts batch ≡ true
      → Contains (batches_of rows) batch
  each_batch rows done batch lt own =
      let one : times batch (batches_of rows) ≡ 1 = done.own refl batch (due_below batch lt) ∙ rw own refl in
      counted batch (batches_of rows) (omega (arith, one))

  has_part : (rows : List Row) → AreRows start rows → IsPartDone start c.part c.parts rows false → HasPart c.p (true_planes c.p) c.part c.parts (map planed rows)
  has_part rows kept done =
      let part = are_part c.p (true_planes c.p) start rows refl kept in
      record {
        distinct = part.distinct;
        own = subst (All (λ batch. is_of_part c.part c.parts batch ≡ true)) (sym (same_batches rows)) kept.own;
        each = λ batch lt own. subst (λ bs. Contains bs batch) (sym (same_batches rows)) (each_batch rows done batch lt own);
        have = part.have;
      }

  -- ---- by how it ended

  module _ {F : Type 0} (board : Board F) (sums : Sums) (now : ShelfState) where
    -- the work of a board that hasn't failed is done
    has_done : HasPartWorked start c.part c.parts before now board → board.failed ≡ false → (board.written ≡ true) × IsPartDone start c.part c.parts board.rows false
    has_done worked fine = elim worked as (λ _. (board.written ≡ true) × IsPartDone start c.part c.parts board.rows false) [
      | inl done ↦ (done.0, subst (IsPartDone start c.part c.parts board.rows) fine done.1)
      | inr torn ↦ absurd (false≢true (sym fine ∙ torn.0))
    ]

    tells : HasPartWorked start c.part c.parts before now board → IsBoard start board.rows sums board.failed board.written now → board.failed ≡ false
        → (old new : SinkState) → Wrote old new (shard_line c.part c.parts (length board.rows))
        → IsPartTold c (record { shelf = before; out = old }) (record { shelf = now; out = new })
    tells worked kept fine old new out =
        let done = has_done worked fine in
        record {
          entries = map planed board.rows;
          has = has_part board.rows kept.rows_are done.1;
          result = subst (HasIfKnown (now.content c.name)) (text_result c.p (true_planes c.p) start board.rows refl kept.entries kept.rows_are) (kept.file done.0 fine);
          written = writes_unread 0 (result_text c.own c.p (map planed board.rows)) before.given now.given c.name (before.changed c.name) (now.changed c.name) kept.given
              (subst (λ text. WritesOn 0 text (before.given c.name) (before.changed c.name) (now.changed c.name))
              (text_result c.p (true_planes c.p) start board.rows refl kept.entries kept.rows_are) (kept.wrote done.0 fine));
          wrote = out ∙ ap (λ n. with_more old.written (shard_line c.part c.parts n)) (sym (length-map board.rows planed));
        }

    -- the board takes rows of the part alone
    left_part : LeavesTaken start c.p (true_planes c.p) (now.content c.name) → LeftPart c.part c.parts c.own c.p (now.content c.name)
    left_part left = record { left = left.0; own_rows = left.1 }

    stopped_part : StopsTaken start c.p (true_planes c.p) [] (now.given c.name) (now.changed c.name)
        → StoppedPart c.part c.parts c.own c.p (now.given c.name) (before.changed c.name) (now.changed c.name)
    stopped_part stopped = record { stopped = stopped.0; own_rows = stopped.1 }

    -- what was told of the file, up to the call that failed
    stops : HasPartWorked start c.part c.parts before now board → IsBoard start board.rows sums board.failed board.written now → board.failed ≡ true
        → StoppedPart c.part c.parts c.own c.p (now.given c.name) (before.changed c.name) (now.changed c.name)
    stops worked kept bad = elim worked as (λ _. StoppedPart c.part c.parts c.own c.p (now.given c.name) (before.changed c.name) (now.changed c.name)) [
      | inl done ↦
          stopped_part
          (stopped_row c.p (true_planes c.p) start [] board.rows now refl kept.entries kept.rows_are (board.rows, refl) kept.given (kept.stopped done.0 bad))
      | inr torn ↦ stopped_part (stopped_header c.p (true_planes c.p) start now refl kept.entries (none start) kept.given torn.2)
    ]

    leaves : HasPartWorked start c.part c.parts before now board → IsBoard start board.rows sums board.failed board.written now → board.failed ≡ true
        → (now.content c.name ≡ before.content c.name) ⊎ LeftPart c.part c.parts c.own c.p (now.content c.name)
    leaves worked kept bad = elim worked as (λ _. (now.content c.name ≡ before.content c.name) ⊎ LeftPart c.part c.parts c.own c.p (now.content c.name)) [
      | inl done ↦ inr (left_part (left_torn c.p (true_planes c.p) start board.rows (now.content c.name) refl kept.entries kept.rows_are (kept.torn done.0 bad)))
      | inr torn ↦ header torn.1
    ]
      where
        header : IsHeaderTorn start.header 0 (before.content c.name) (now.content c.name)
            → (now.content c.name ≡ before.content c.name) ⊎ LeftPart c.part c.parts c.own c.p (now.content c.name)
        header torn =
            elim (left_header c.p (true_planes c.p) start [] 0 (before.content c.name) (now.content c.name) refl kept.entries (none start) (inl refl) torn)
            as (λ _. (now.content c.name ≡ before.content c.name) ⊎ LeftPart c.part c.parts c.own c.p (now.content c.name)) [ inl same ↦ inl same | inr left ↦ inr (left_part left.0) ]

ends : {F : Type 0} (end : End) (c : PartCampaign) (before after : Outside) (sums : Sums) (board : Board F)
    → HasPartWorked (part_origin c.name c.own c.p c.part c.parts before.shelf) c.part c.parts before.shelf after.shelf board
    → IsBoard (part_origin c.name c.own c.p c.part c.parts before.shelf) board.rows sums board.failed board.written after.shelf
    → TellsEnd end board.failed (shard_line c.part c.parts (length board.rows)) before.out after.out → EndsPartAs end c before after
ends Done c before after sums board worked kept told = tells c before.shelf board sums after.shelf worked kept told.0 before.out after.out told.1
ends (NoMemory no_room) c before after sums board worked kept told = absurd told
ends ResultFault c before after sums board worked kept told = (
  kept.rose told.0,
  leaves c before.shelf board sums after.shelf worked kept told.0,
  told.1,
  stops c before.shelf board sums after.shelf worked kept told.0,
)
ends OutFault c before after sums board worked kept told =
    let line : Bytes = shard_line c.part c.parts (length board.rows) in
    (line, tells c before.shelf board sums after.shelf worked kept told.0 before.out (had_written before after line).out refl, told.1)

pub has_run : {F : Type 0} (end : End) (c : PartCampaign) (before after : Outside) (sums : Sums) (board : Board F)
    → HasPartWorked (part_origin c.name c.own c.p c.part c.parts before.shelf) c.part c.parts before.shelf after.shelf board
    → IsBoard (part_origin c.name c.own c.p c.part c.parts before.shelf) board.rows sums board.failed board.written after.shelf
    → TellsEnd end board.failed (shard_line c.part c.parts (length board.rows)) before.out after.out → before.out.faults ≤ after.out.faults
    → HasRunPart end c before after
has_run end c before after sums board worked kept told grows = record {
  ends = ends end c before after sums board worked kept told;
  others = kept.others;
  given = kept.given;
  faults = kept.grows;
  out_faults = grows;
}
