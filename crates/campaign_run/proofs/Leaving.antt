-- What a campaign leaves of its file when a write has failed.
use Rattle.std.proofs.Common.{◌≡◌, ◌≢◌, true, ℕ, ◌+◌, ◌⊎◌, inl, inr, min, List, [], ◌∷◌, ◌++◌, map, length, take, refl, ap, sym, subst, ◌∙◌, arith, append_assoc, append-nil}
use Rattle.std.specs.Prelude.{All, flat_map}
use Rattle.std.proofs.lemmas.Bool.{cases_eq}
use Rattle.std.proofs.lemmas.List.{take-append-le, take_min}
use Rattle.std.proofs.lemmas.List.Concat.{flat_map-append}
use Rattle.std.proofs.Math.Seq.{take-append_seam, take-append-add, take-length}
use mathlib.Core.List.{IsPrefix}
use Rattle.fm_shelf.specs.Content.{Content, Unknown, Absent, Held, IsIfKnown, bytes_of}
use Rattle.fm_shelf.specs.Past.{Change, Given, StopsOn}
use Rattle.fm_shelf.specs.Shelf.{ShelfState}
use Rattle.fm_shelf.proofs.Written.{stops_unread}
use Rattle.campaign_plan.specs.declared.Outcome.{Outcome}
use Rattle.campaign_plan.specs.Analysis.{Analysis}
use Rattle.campaign_plan.specs.Batches.{Entry, batches}
use Rattle.result_file.specs.declared.Row.{Row}
use Rattle.result_file.specs.ResultText.{result_text, row_text}
use Rattle.result_file.specs.KeptRows.{entry_of as planed}
use Rattle.campaign_board.specs.Boards.{Start, AreEntries, next_row, file_text}
use Rattle.campaign_board.specs.Kept.{AreRows, IsTorn, IsHeaderTorn, StopsAtRow}
use Rattle.campaign_board.proofs.Adding.{rows_push, text_push}
use Rattle.campaign_run.specs.Reported.{BeginsWith}
use Rattle.campaign_run.specs.Left.{LeftPrefix, BeginsAs, StoppedRows}
use Rattle.campaign_run.specs.Origins.{entries_for}
use Rattle.campaign_run.proofs.Keeping.{same_batches}
use Rattle.campaign_run.proofs.Reporting.{are_part, begin_kept, text_result}

-- ---- rows that the board takes

-- the batches of these entries are such that the board takes rows of them
abbrev pub AreTaken : Start → List Entry → Type 0
AreTaken o entries = All (λ batch. o.takes batch ≡ true) (batches entries)

taken_planed : (o : Start) (rows : List Row) → AreRows o rows → AreTaken o (map planed rows)
taken_planed o rows h = subst (All (λ batch. o.takes batch ≡ true)) (sym (same_batches rows)) h.own

-- a byte prefix of a result file of such entries
abbrev pub LeavesTaken : Start → Analysis → (ℕ → Outcome) → Content → Type 0
LeavesTaken o p planes held = (left : LeftPrefix o.header p planes held) × AreTaken o left.entries

-- what was told of the file, up to the call that failed, of such entries
abbrev pub StopsTaken : Start → Analysis → (ℕ → Outcome) → List Entry → List Given → List Change → Type 0
StopsTaken o p planes kept_rows given now =
    (stopped : StoppedRows o.header p planes o.whole kept_rows given (o.shelf.changed o.name) now) × AreTaken o stopped.entries

-- ---- prefixes

-- the first n of a list are a prefix of it and more
front : (n : ℕ) (xs ys : List ℕ) → (m : ℕ) × (take n xs ≡ take m (xs ++ ys))
front n xs ys = (min n (length xs), sym (take-append-le (min n (length xs)) xs ys (omega arith) ∙ take_min n xs))

begins_with : (start text bytes more : List ℕ) → (start ≡ []) ⊎ (start ≡ text) → bytes ≡ text ++ more → BeginsWith bytes start
begins_with start text bytes more from e = elim from as (λ _. BeginsWith bytes start) [
  | inl none ↦ subst (BeginsWith bytes) (sym none) refl
  | inr some ↦ subst (BeginsWith bytes) (sym some) (ap (take (length text)) e ∙ take-append_seam text more)
]

-- the text of rows begins with that of the first ones
text_more : (own : List ℕ) (k rows : List Row) (pre : IsPrefix k rows) → file_text own rows ≡ file_text own k ++ flat_map row_text pre.0
text_more own k rows pre =
    ap (λ rs. own ++ flat_map row_text rs) (sym pre.1) ∙ ap (λ t. own ++ t) (flat_map-append row_text k pre.0)
    ∙ sym (append_assoc own (flat_map row_text k) (flat_map row_text pre.0))

-- ---- a row that was torn

-- a part of one more row is a part of the result file with it
torn_prefix : (p : Analysis) (planes : ℕ → Outcome) (o : Start) (rows : List Row) (bytes : List ℕ) → o.entries ≡ entries_for p planes → AreEntries o.entries → AreRows o rows
    → IsTorn o rows bytes → LeavesTaken o p planes (Held bytes)
torn_prefix p planes o rows bytes e are h torn =
    let row : Row = next_row o.entries rows torn.batch in
    let more : AreRows o (rows ++ row ∷ []) = rows_push o rows torn.batch are h torn.within torn.lacks torn.own in
    let text : List ℕ = file_text o.header rows in (
      record {
        entries = map planed (rows ++ row ∷ []);
        part = are_part p planes o (rows ++ row ∷ []) e more;
        prefix = (
          length text + torn.taken,
          torn.is ∙ sym (take-append-add text (row_text row) torn.taken)
              ∙ ap (take (length text + torn.taken)) (sym (text_push o.header rows row) ∙ text_result p planes o (rows ++ row ∷ []) e are more),
        );
      },
      taken_planed o (rows ++ row ∷ []) more,
    )

pub left_torn : (p : Analysis) (planes : ℕ → Outcome) (o : Start) (rows : List Row) (now : Content) → o.entries ≡ entries_for p planes → AreEntries o.entries → AreRows o rows
    → IsIfKnown now (IsTorn o rows) → LeavesTaken o p planes now
left_torn p planes o rows Unknown e are h torn = (record { entries = map planed rows; part = are_part p planes o rows e h; prefix = tt }, taken_planed o rows h)
left_torn p planes o rows Absent e are h torn = absurd torn
left_torn p planes o rows (Held bytes) e are h torn = torn_prefix p planes o rows bytes e are h torn

pub begins_torn : (o : Start) (k rows : List Row) (now : Content) (start : List ℕ) → (start ≡ []) ⊎ (start ≡ file_text o.header k) → IsPrefix k rows
    → IsIfKnown now (IsTorn o rows) → BeginsAs now start
begins_torn o k rows Unknown start from pre torn = tt
begins_torn o k rows Absent start from pre torn = absurd torn
begins_torn o k rows (Held bytes) start from pre torn =
    let part : List ℕ = take torn.taken (row_text (next_row o.entries rows torn.batch)) in
    begins_with start (file_text o.header k) bytes (flat_map row_text pre.0 ++ part) from
    (torn.is ∙ ap (λ t. t ++ part) (text_more o.header k rows pre) ∙ append_assoc (file_text o.header k) (flat_map row_text pre.0) part)

-- ---- a header that was torn

-- the bytes that were kept, and a part of the header where there were none, are a part of the header and the rows that were kept
header_prefix : (header start more bytes : List ℕ) (n whole : ℕ) → (start ≡ []) ⊎ (start ≡ header ++ more) → (whole ≡ 0 → start ≡ []) → bytes ≡ start ++ take n header
    → (whole ≢ 0 → n ≡ 0) → (m : ℕ) × (bytes ≡ take m (header ++ more))
header_prefix header start more bytes n whole from none is cut = elim (cases_eq whole 0) as (λ _. (m : ℕ) × (bytes ≡ take m (header ++ more))) [
  | inl zeroed ↦ (let part = front n header more in (part.0, is ∙ ap (λ s. s ++ take n header) (none zeroed) ∙ part.1))
  | inr some ↦ (
      let all : bytes ≡ start = is ∙ ap (λ k. start ++ take k header) (cut some) ∙ append-nil start in
      elim from as (λ _. (m : ℕ) × (bytes ≡ take m (header ++ more))) [
        | inl empty ↦ (0, all ∙ empty)
        | inr text ↦ (length (header ++ more), all ∙ text ∙ sym (take-length (header ++ more)))
      ])
]

pub left_header : (p : Analysis) (planes : ℕ → Outcome) (o : Start) (rows : List Row) (whole : ℕ) (before now : Content) → o.entries ≡ entries_for p planes → AreEntries o.entries
    → AreRows o rows → (take whole (bytes_of before) ≡ []) ⊎ (take whole (bytes_of before) ≡ file_text o.header rows) → IsHeaderTorn o.header whole before now
    → (now ≡ before) ⊎ (LeavesTaken o p planes now × BeginsAs now (take whole (bytes_of before)))
left_header p planes o rows whole before now e are h from torn = elim torn as (λ _. (now ≡ before) ⊎ (LeavesTaken o p planes now × BeginsAs now (take whole (bytes_of before)))) [
  | inl same ↦ inl same
  | inr is ↦ inr (go now is)
]
  where
    go : (held : Content) → IsIfKnown held (λ bytes. (n : ℕ) × (bytes ≡ take whole (bytes_of before) ++ take n o.header) × (whole ≢ 0 → n ≡ 0))
        → LeavesTaken o p planes held × BeginsAs held (take whole (bytes_of before))
    go Unknown is = ((record { entries = map planed rows; part = are_part p planes o rows e h; prefix = tt }, taken_planed o rows h), tt)
    go Absent is = absurd is
    go (Held bytes) is =
        let start : List ℕ = take whole (bytes_of before) in
        let part = header_prefix o.header start (flat_map row_text rows) bytes is.0 whole from (λ none. ap (λ n. take n (bytes_of before)) none) is.1 is.2 in (
          (
            record {
              entries = map planed rows;
              part = are_part p planes o rows e h;
              prefix = (part.0, part.1 ∙ ap (take part.0) (text_result p planes o rows e are h));
            },
            taken_planed o rows h,
          ),
          ap (take (length start)) is.1 ∙ take-append_seam start (take is.0 o.header),
        )

-- ---- what was told of the file

-- a row was torn, behind others
pub stopped_row : (p : Analysis) (planes : ℕ → Outcome) (o : Start) (k rows : List Row) (now : ShelfState) → o.entries ≡ entries_for p planes → AreEntries o.entries
    → AreRows o rows → IsPrefix k rows → now.given ≡ o.shelf.given → StopsAtRow o rows (now.changed o.name)
    → StopsTaken o p planes (map planed k) (now.given o.name) (now.changed o.name)
stopped_row p planes o k rows now e are h pre unread torn =
    let row : Row = next_row o.entries rows torn.batch in
    let more : AreRows o (rows ++ row ∷ []) = rows_push o rows torn.batch are h torn.within torn.lacks torn.own in
    let entries : List Entry = map planed (rows ++ row ∷ []) in (
      record {
        entries = entries;
        part = are_part p planes o (rows ++ row ∷ []) e more;
        first = begin_kept k (rows ++ row ∷ []) (pre.0 ++ row ∷ [], sym (append_assoc k pre.0 (row ∷ [])) ∙ ap (λ front. front ++ row ∷ []) pre.1);
        stops = stops_unread o.whole (result_text o.header p entries) o.shelf.given now.given o.name (o.shelf.changed o.name) (now.changed o.name) unread
            (subst (λ text. StopsOn o.whole text (o.shelf.given o.name) (o.shelf.changed o.name) (now.changed o.name))
            (text_result p planes o (rows ++ row ∷ []) e are more) torn.stops);
      },
      taken_planed o (rows ++ row ∷ []) more,
    )

-- the header was torn, or the file couldn't be cut
pub stopped_header : (p : Analysis) (planes : ℕ → Outcome) (o : Start) (now : ShelfState) → o.entries ≡ entries_for p planes → AreEntries o.entries → AreRows o o.rows
    → now.given ≡ o.shelf.given → StopsOn o.whole (file_text o.header o.rows) (o.shelf.given o.name) (o.shelf.changed o.name) (now.changed o.name)
    → StopsTaken o p planes (map planed o.rows) (now.given o.name) (now.changed o.name)
stopped_header p planes o now e are h unread stops = (
  record {
    entries = map planed o.rows;
    part = are_part p planes o o.rows e h;
    first = take-length (map planed o.rows);
    stops = stops_unread o.whole (result_text o.header p (map planed o.rows)) o.shelf.given now.given o.name (o.shelf.changed o.name) (now.changed o.name) unread
        (subst (λ text. StopsOn o.whole text (o.shelf.given o.name) (o.shelf.changed o.name) (now.changed o.name)) (text_result p planes o o.rows e are h) stops);
  },
  taken_planed o o.rows h,
)
