-- How a campaign has ended.
use Rattle.std.proofs.Common.{◌≡◌, ℕ, ◌<◌, ◌≤◌, inl, inr, true, false, map, length, take, refl, sym, subst, ◌∙◌}
use Rattle.std.specs.Prelude.{All}
use Rattle.std.proofs.lemmas.Bool.{false≢true}
use Rattle.fm_shelf.specs.Content.{HasIfKnown, bytes_of}
use Rattle.fm_shelf.specs.Past.{WritesOn}
use Rattle.fm_shelf.specs.Shelf.{ShelfState}
use Rattle.fm_shelf.specs.Sink.{Wrote, WrotePrefix}
use Rattle.fm_shelf.specs.Outside.{Outside}
use Rattle.fm_shelf.proofs.Written.{writes_unread}
use Rattle.metric_sums.specs.declared.Sums.{Sums}
use Rattle.campaign_plan.specs.Analysis.{batch_count}
use Rattle.campaign_plan.specs.Kept.{IsPlan}
use Rattle.result_file.specs.ResultText.{result_text}
use Rattle.result_file.specs.KeptRows.{entry_of as planed}
use Rattle.result_file.specs.RowPlanes.{HoldEachOnce, planes_in}
use Rattle.campaign_board.specs.Boards.{Start, batches_of}
use Rattle.campaign_board.specs.Kept.{BoardState as Board, IsBoard, IsStart}
use Rattle.campaign_workers.specs.Finish.{IsFinished}
use Rattle.campaign_run.specs.declared.run.End.{End}
use Rattle.campaign_run.specs.declared.run.End.TheVariants.{Done, NoMemory, ResultFault, OutFault}
use Rattle.campaign_run.specs.Outside.{had_written}
use Rattle.campaign_run.specs.Starting.{StartsFrom}
use Rattle.campaign_run.specs.Origins.{origin_of}
use Rattle.campaign_run.specs.Steps.{HasWorked, HaveAll, TellsEnd}
use Rattle.campaign_run.specs.Ran.{Campaign, HasRun, HasStopped, IsReported, IsTruncatedResult, EndsAs, campaign_planes, text_for, campaign_text as written_by}
use Rattle.campaign_run.proofs.Entries.{are_entries, length_entries}
use Rattle.campaign_run.proofs.Keeping.{starts_kept, starts_text, kept_rows_due, same_batches}
use Rattle.campaign_run.proofs.Reporting.{are_part, hold_each, text_same, text_result, begin_kept}
use Rattle.campaign_run.proofs.Leaving.{left_torn, begins_torn, left_header, stopped_row, stopped_header}

-- what a campaign begins with is a start of its board
pub starts : (c : Campaign) (shelf : ShelfState) (batches : ℕ) → IsPlan c.p → length c.own ≡ 89
    → StartsFrom c.own c.p (shelf.content c.name) c.k → batches ≡ batch_count c.p → IsStart (origin_of c shelf) c.name c.k.rows batches shelf
starts c shelf batches plan many start count = record {
  named = refl;
  rows_same = refl;
  shelf_same = refl;
  many = count ∙ sym (length_entries c.p (campaign_planes c));
  entries = are_entries c.p (campaign_planes c) plan;
  rows_are = kept_rows_due c.p c.k (origin_of c shelf) refl (λ batch. refl) (starts_kept c.own c.p (shelf.content c.name) c.k many start);
}

-- the workers of a board that hasn't failed have ended
has_finished : {F : Type 0} (o : Start) (whole : ℕ) (before after : ShelfState) (board : Board F) → HasWorked o whole before after board → board.failed ≡ false
    → (board.written ≡ true) × IsFinished o board.rows board.failed
has_finished o whole before after board worked fine = elim worked as (λ _. (board.written ≡ true) × IsFinished o board.rows board.failed) [
  | inl finished ↦ finished
  | inr torn ↦ absurd (false≢true (sym fine ∙ torn.0))
]

-- such a board has a row for each batch
pub have_all : {F : Type 0} (o : Start) (whole : ℕ) (before after : ShelfState) (board : Board F) → HasWorked o whole before after board → board.failed ≡ false → HaveAll o board.rows
have_all o whole before after board worked fine = (has_finished o whole before after board worked fine).1.whole fine

-- the workers have ended on the shelf now, and the board keeps what it keeps of it
abbrev IsWorked : {F : Type 0} → Campaign → (before now : ShelfState) → Sums → Board F → Type 0
IsWorked c before now sums board =
    HasWorked (origin_of c before) c.k.whole before now board × IsBoard (origin_of c before) board.rows sums board.failed board.written now

-- the text by the rows of the board is the campaign's
text_is : {F : Type 0} (c : Campaign) (before now : ShelfState) (sums : Sums) (board : Board F) → length c.own ≡ 89 → StartsFrom c.own c.p (before.content c.name) c.k
    → IsWorked c before now sums board → board.failed ≡ false → text_for c.text c.p (planes_in board.rows) ≡ written_by c
text_is c before now sums board many start (worked, kept) fine =
    let o : Start = origin_of c before in
    let hold : HoldEachOnce c.p board.rows =
    hold_each c.p o board.rows (length_entries c.p (campaign_planes c)) kept.rows_are (have_all o c.k.whole before now board worked fine) in
    let within : All (λ b. b < batch_count c.p) (batches_of c.k.rows) =
    subst (All (λ b. b < batch_count c.p)) (same_batches c.k.rows) (starts_kept c.own c.p (before.content c.name) c.k many start).distinct.within in
    text_same c.text c.p c.k o board.rows refl within kept.rows_are hold

-- the campaign is reported, where its text went out
reports : {F : Type 0} (c : Campaign) (before after : Outside) (sums : Sums) (board : Board F) → IsWorked c before.shelf after.shelf sums board → board.failed ≡ false
    → Wrote before.out after.out (written_by c) → IsReported c before after
reports c before after sums board (worked, kept) fine wrote =
    let o : Start = origin_of c before.shelf in
    let finished = has_finished o c.k.whole before.shelf after.shelf board worked fine in
    let hold : HoldEachOnce c.p board.rows =
    hold_each c.p o board.rows (length_entries c.p (campaign_planes c)) kept.rows_are (have_all o c.k.whole before.shelf after.shelf board worked fine) in
    record {
      reported = record {
        wrote = wrote;
        entries = map planed board.rows;
        whole = (are_part c.p (campaign_planes c) o board.rows refl kept.rows_are, hold.each);
        result = subst (HasIfKnown (after.shelf.content c.name)) (text_result c.p (campaign_planes c) o board.rows refl kept.entries kept.rows_are) (kept.file finished.0 fine);
        written = writes_unread c.k.whole (result_text c.own c.p (map planed board.rows)) before.shelf.given after.shelf.given c.name (before.shelf.changed c.name)
            (after.shelf.changed c.name) kept.given
            (subst (λ text. WritesOn c.k.whole text (before.shelf.given c.name) (before.shelf.changed c.name) (after.shelf.changed c.name))
            (text_result c.p (campaign_planes c) o board.rows refl kept.entries kept.rows_are) (kept.wrote finished.0 fine));
      };
      first = begin_kept c.k.rows board.rows finished.1.starts;
    }

-- what is left where a write of the file has failed
leaves : {F : Type 0} (c : Campaign) (before now : ShelfState) (sums : Sums) (board : Board F) → length c.own ≡ 89 → StartsFrom c.own c.p (before.content c.name) c.k
    → IsWorked c before now sums board → board.failed ≡ true → IsTruncatedResult c before now
leaves c before now sums board many start (worked, kept) bad =
    let o : Start = origin_of c before in
    let from = starts_text c.own c.p (before.content c.name) c.k many start in
    elim worked as (λ _. IsTruncatedResult c before now) [
      | inl finished ↦
          (let torn = kept.torn finished.0 bad in
          inr (
            (left_torn c.p (campaign_planes c) o board.rows (now.content c.name) refl kept.entries kept.rows_are torn).0,
            begins_torn o c.k.rows board.rows (now.content c.name) (take c.k.whole (bytes_of (before.content c.name))) from finished.1.starts torn,
          ))
      | inr torn ↦
          elim (left_header c.p (campaign_planes c) o c.k.rows c.k.whole (before.content c.name) (now.content c.name) refl kept.entries
          (kept_rows_due c.p c.k o refl (λ batch. refl) (starts_kept c.own c.p (before.content c.name) c.k many start)) from torn.1)
          as (λ _. IsTruncatedResult c before now) [ inl same ↦ inl same | inr left ↦ inr (left.0.0, left.1) ]
    ]

-- what was told of it then
stops : {F : Type 0} (c : Campaign) (before now : ShelfState) (sums : Sums) (board : Board F) → length c.own ≡ 89 → StartsFrom c.own c.p (before.content c.name) c.k
    → IsWorked c before now sums board → board.failed ≡ true → HasStopped c before now
stops c before now sums board many start (worked, kept) bad =
    let o : Start = origin_of c before in
    elim worked as (λ _. HasStopped c before now) [
      | inl finished ↦
          (stopped_row c.p (campaign_planes c) o c.k.rows board.rows now refl kept.entries kept.rows_are finished.1.starts kept.given
          (kept.stopped finished.0 bad)).0
      | inr torn ↦
          (stopped_header c.p (campaign_planes c) o now refl kept.entries
          (kept_rows_due c.p c.k o refl (λ batch. refl) (starts_kept c.own c.p (before.content c.name) c.k many start)) kept.given torn.2).0
    ]

-- by how it ended
ends : {F : Type 0} (end : End) (c : Campaign) (before after : Outside) (sums : Sums) (board : Board F) → length c.own ≡ 89 → StartsFrom c.own c.p (before.shelf.content c.name) c.k
    → IsWorked c before.shelf after.shelf sums board
    → TellsEnd end board.failed (text_for c.text c.p (planes_in board.rows)) before.out after.out → EndsAs end c before after
ends Done c before after sums board many start worked told =
    let text = text_is c before.shelf after.shelf sums board many start worked told.0 in
    reports c before after sums board worked told.0 (subst (Wrote before.out after.out) text told.1)
ends (NoMemory no_room) c before after sums board many start worked told = absurd told
ends ResultFault c before after sums board many start worked told = (
  worked.1.rose told.0,
  leaves c before.shelf after.shelf sums board many start worked told.0,
  told.1,
  stops c before.shelf after.shelf sums board many start worked told.0,
)
ends OutFault c before after sums board many start worked told =
    let text = text_is c before.shelf after.shelf sums board many start worked told.0 in (
      reports c before (had_written before after (written_by c)) sums board worked told.0 refl,
      subst (WrotePrefix before.out after.out) text told.1,
    )

pub has_run : {F : Type 0} (end : End) (c : Campaign) (before after : Outside) (sums : Sums) (board : Board F) → length c.own ≡ 89
    → StartsFrom c.own c.p (before.shelf.content c.name) c.k → HasWorked (origin_of c before.shelf) c.k.whole before.shelf after.shelf board
    → IsBoard (origin_of c before.shelf) board.rows sums board.failed board.written after.shelf
    → TellsEnd end board.failed (text_for c.text c.p (planes_in board.rows)) before.out after.out → before.out.faults ≤ after.out.faults → HasRun end c before after
has_run end c before after sums board many start worked kept told grows = record {
  ends = ends end c before after sums board many start (worked, kept) told;
  others = kept.others;
  given = kept.given;
  faults = kept.grows;
  out_faults = grows;
}
