-- What a board keeps, from call to call.
use Rattle.std.proofs.Common.{◌≡◌, ◌⊎◌, inl, inr, ℕ, ◌+◌, ◌-◌, ◌<◌, ◌≤◌, Bool, true, false, Ok, Err, Result, List, [], ◌∷◌, ◌++◌, length, map, take, drop, refl, ap, sym, subst, ◌∙◌, arith, append-nil, length-append}
use Rattle.std.proofs.lemmas.List.{take_all, length-map}
use Rattle.std.proofs.Math.Seq.{drop-length}
use Rattle.std.specs.Result.{is_err}
use Rattle.std.proofs.lemmas.Bool.{false≢true}
use Rattle.metric_sums.specs.declared.Sums.{Sums}
use Rattle.result_file.specs.declared.Row.{Row}
use Rattle.result_file.specs.ResultText.{row_text}
use Rattle.fm_shelf.specs.Content.{Content, Unknown, Absent, Held, IsIfKnown, HasIfKnown, bytes_of}
use Rattle.fm_shelf.specs.Past.{Given, Took, Cut, MayCut, cut_by, WritesOn, StopsOn, AtCut}
use Rattle.fm_shelf.specs.Shelf.{ShelfState, CountRose, KeepsOthers, OnlyWrites, MayHaveMore, Becomes, Appends, MayAppend, Takes, Tears}
use Rattle.fm_shelf.proofs.Appends.{has_on, keeps_none, keeps_on, writes_on}
use Rattle.fm_shelf.proofs.Written.{writes_begin, writes_more, stops_begin, stops_more}
use Rattle.fm_base.specs.Once.{Lacks}
use Rattle.campaign_board.specs.Boards.{Start, batches_of, sums_over, next_row, file_text}
use Rattle.campaign_board.specs.Kept.{AreRows, IsTorn, IsBoard, IsStart, AreKeptBytes, IsHeaderTorn}
use Rattle.campaign_board.specs.Posts.{sums_at_end}
use Rattle.fm_base.proofs.SumsBelow.{once_few}
use Rattle.campaign_board.proofs.Adding.{rows_push, batches_push, text_push}
use Rattle.fm_shelf.proofs.Counts.{rose_from}

-- a text and a part of a piece
is_more : (before now : Content) (text piece : List ℕ) (P : List ℕ → Type 0) → HasIfKnown before text → (before ≡ Unknown → now ≡ Unknown) → MayHaveMore before now piece
    → ((bytes : List ℕ) (n : ℕ) → bytes ≡ text ++ take n piece → P bytes) → IsIfKnown now P
is_more Unknown now text piece P h unknown m f = subst (λ t. IsIfKnown t P) (sym (unknown refl)) tt
is_more Absent now text piece P h unknown m f = absurd h
is_more (Held bytes) Unknown text piece P h unknown m f = tt
is_more (Held bytes) Absent text piece P h unknown m f = absurd (cc)
is_more (Held bytes) (Held now) text piece P h unknown m f = f now m.0 (m.2 ∙ ap (λ b. b ++ take m.0 piece) h)

-- the row was appended
pub added_row : (o : Start) (rows : List Row) (sums now_sums : Sums) (before now : ShelfState) (batch : ℕ) → IsBoard o rows sums false true before
    → batch < length o.entries → Lacks (batches_of rows) batch → o.takes batch ≡ true → OnlyWrites before now o.name
    → Appends before now o.name (row_text (next_row o.entries rows batch)) → Takes before now o.name (row_text (next_row o.entries rows batch))
    → now_sums ≡ sums_over o.entries (batches_of rows ++ batch ∷ [])
    → IsBoard o (rows ++ next_row o.entries rows batch ∷ []) now_sums false true now
added_row o rows sums now_sums before now batch h lt lacks own writes has takes e =
    let g = h.grows in
    let grown = writes.counts.grows o.name in
    let row : Row = next_row o.entries rows batch in
    let text : List ℕ = file_text o.header rows in
    let pushed : file_text o.header (rows ++ row ∷ []) ≡ text ++ row_text row = text_push o.header rows row in
    record {
      entries = h.entries;
      rows_are = rows_push o rows batch h.entries h.rows_are lt lacks own;
      added = e ∙ ap (sums_over o.entries) (sym (batches_push o rows batch h.entries lt));
      file = λ _ _.
          subst (HasIfKnown (now.content o.name)) (sym (text_push o.header rows (next_row o.entries rows batch)))
          (has_on (before.content o.name) (now.content o.name) (file_text o.header rows) (row_text (next_row o.entries rows batch)) writes.unknown (h.file refl refl) has);
      torn = λ _ f. absurd (false≢true f);
      kept = λ _. omega (arith, h.kept refl, ap length pushed, length-append text (row_text row));
      unwritten = λ w _. absurd (false≢true (sym w));
      wrote = λ _ _.
          subst (λ t. WritesOn o.whole t (o.shelf.given o.name) (o.shelf.changed o.name) (now.changed o.name)) (sym pushed)
          (writes_more o.whole text (row_text row) (o.shelf.given o.name) (o.shelf.changed o.name) (before.changed o.name) (now.changed o.name) (h.kept refl) (h.wrote refl refl) takes);
      stopped = λ _ f. absurd (false≢true f);
      others = keeps_on o.shelf before now o.name h.others writes;
      given = writes.given ∙ h.given;
      grows = omega arith;
      rose = λ f. absurd (false≢true f);
    }

-- the append failed
pub failed_row : (o : Start) (rows : List Row) (sums : Sums) (before now : ShelfState) (batch : ℕ) → IsBoard o rows sums false true before
    → batch < length o.entries → Lacks (batches_of rows) batch → o.takes batch ≡ true → OnlyWrites before now o.name
    → MayAppend before now o.name (row_text (next_row o.entries rows batch)) → Tears before now o.name (row_text (next_row o.entries rows batch))
    → IsBoard o rows sums true true now
failed_row o rows sums before now batch h lt lacks own writes more tears =
    let g = h.grows in
    let grown = writes.counts.grows o.name in
    let row : Row = next_row o.entries rows batch in
    record {
      entries = h.entries;
      rows_are = h.rows_are;
      added = h.added;
      file = λ _ f. absurd (false≢true (sym f));
      torn = λ _ _.
          is_more (before.content o.name) (now.content o.name) (file_text o.header rows) (row_text (next_row o.entries rows batch)) (IsTorn o rows) (h.file refl refl) writes.unknown more.1
          (λ bytes n e. record { batch = batch; within = lt; lacks = lacks; own = own; taken = n; is = e });
      kept = h.kept;
      unwritten = λ w _. absurd (false≢true (sym w));
      wrote = λ _ f. absurd (false≢true (sym f));
      stopped = λ _ _. record {
        batch = batch;
        within = lt;
        lacks = lacks;
        own = own;
        stops = subst (λ t. StopsOn o.whole t (o.shelf.given o.name) (o.shelf.changed o.name) (now.changed o.name)) (sym (text_push o.header rows row))
            (stops_more o.whole (file_text o.header rows) (row_text row) (o.shelf.given o.name) (o.shelf.changed o.name) (before.changed o.name) (now.changed o.name) (h.kept refl) (h.wrote refl refl) tears);
      };
      others = keeps_on o.shelf before now o.name h.others writes;
      given = writes.given ∙ h.given;
      grows = omega arith;
      rose = λ _. rose_from (o.shelf.write_faults o.name) (before.write_faults o.name) (now.write_faults o.name) h.grows more.0;
    }

-- the sums of the last row are those of all rows
end_sums : (o : Start) (rows : List Row) → AreRows o rows → sums_at_end rows ≡ sums_over o.entries (batches_of rows)
end_sums o [] h = refl
end_sums o (row ∷ rows) h =
    let all : take (length (row ∷ rows) - 1 + 1) (batches_of (row ∷ rows)) ≡ batches_of (row ∷ rows) =
    take_all _ (batches_of (row ∷ rows)) (omega (arith, length-map (row ∷ rows) (λ (r : Row). r.batch))) in
    ap (λ (r : Row). r.sums) (h.due (length (row ∷ rows) - 1) (omega arith)) ∙ ap (sums_over o.entries) all

-- a new board
pub begins : (o : Start) (rows : List Row) (sums : Sums) (batches : ℕ) (shelf : ShelfState) (name : List ℕ)
    → IsStart o name rows batches shelf → sums ≡ sums_at_end rows → IsBoard o rows sums false false shelf
begins o rows sums batches shelf name h e =
    let same = ap (λ (s : ShelfState). s.write_faults o.name) h.shelf_same in
    record {
      entries = h.entries;
      rows_are = h.rows_are;
      added = e ∙ end_sums o rows h.rows_are;
      file = λ w _. absurd (false≢true w);
      torn = λ w _. absurd (false≢true w);
      kept = λ w. absurd (false≢true w);
      unwritten = λ _ _. ap (λ (s : ShelfState). s.changed o.name) (sym h.shelf_same);
      wrote = λ w _. absurd (false≢true w);
      stopped = λ w _. absurd (false≢true w);
      others = subst (λ s. KeepsOthers s shelf o.name) (sym h.shelf_same) (keeps_none shelf o.name);
      given = ap (λ (s : ShelfState). s.given) (sym h.shelf_same);
      grows = omega (arith, same);
      rose = λ f. absurd (false≢true f);
    }

pub begins_room : (o : Start) (rows : List Row) (batches : ℕ) (shelf : ShelfState) (name : List ℕ) → IsStart o name rows batches shelf → length rows ≤ batches
begins_room o rows batches shelf name h =
    let few = once_few (batches_of rows) (length o.entries) h.rows_are.within h.rows_are.once in
    omega (arith, few, h.many, length-map rows (λ (r : Row). r.batch))

-- the header stands: the file has the header and the rows
pub headed : (o : Start) (rows : List Row) (sums : Sums) (before now : ShelfState) → IsBoard o rows sums false false before
    → OnlyWrites before now o.name → HasIfKnown (now.content o.name) (file_text o.header rows) → o.whole ≤ length (file_text o.header rows)
    → WritesOn o.whole (file_text o.header rows) (o.shelf.given o.name) (before.changed o.name) (now.changed o.name) → IsBoard o rows sums false true now
headed o rows sums before now h writes has fits wrote =
    let g = h.grows in
    let grown = writes.counts.grows o.name in
    record {
      entries = h.entries;
      rows_are = h.rows_are;
      added = h.added;
      file = λ _ _. has;
      torn = λ _ f. absurd (false≢true f);
      kept = λ _. fits;
      unwritten = λ w _. absurd (false≢true (sym w));
      wrote = λ _ _. subst (λ start. WritesOn o.whole (file_text o.header rows) (o.shelf.given o.name) start (now.changed o.name)) (h.unwritten refl refl) wrote;
      stopped = λ _ f. absurd (false≢true f);
      others = keeps_on o.shelf before now o.name h.others writes;
      given = writes.given ∙ h.given;
      grows = omega arith;
      rose = λ f. absurd (false≢true f);
    }

pub header_failed : (o : Start) (rows : List Row) (sums : Sums) (before now : ShelfState) → IsBoard o rows sums false false before
    → OnlyWrites before now o.name → CountRose (before.write_faults o.name) (now.write_faults o.name) → IsBoard o rows sums true false now
header_failed o rows sums before now h writes rose =
    let g = h.grows in
    let grown = writes.counts.grows o.name in
    record {
      entries = h.entries;
      rows_are = h.rows_are;
      added = h.added;
      file = λ w _. absurd (false≢true w);
      torn = λ w _. absurd (false≢true w);
      kept = λ w. absurd (false≢true w);
      unwritten = λ _ f. absurd (false≢true (sym f));
      wrote = λ w _. absurd (false≢true w);
      stopped = λ w _. absurd (false≢true w);
      others = keeps_on o.shelf before now o.name h.others writes;
      given = writes.given ∙ h.given;
      grows = omega arith;
      rose = λ _. rose_from (o.shelf.write_faults o.name) (before.write_faults o.name) (now.write_faults o.name) h.grows rose;
    }

-- the cut left the header and the rows
kept_cut : (before now : Content) (whole : ℕ) (text : List ℕ) → IsIfKnown before (λ bytes. take whole bytes ≡ text) → (before ≡ Unknown → now ≡ Unknown)
    → HasIfKnown now (take whole (bytes_of before)) → HasIfKnown now text
kept_cut Unknown now whole text is unknown has = subst (λ t. HasIfKnown t text) (sym (unknown refl)) tt
kept_cut Absent now whole text is unknown has = absurd is
kept_cut (Held bytes) now whole text is unknown has = subst (HasIfKnown now) is has

pub cut_has : (o : Start) (rows : List Row) (whole : ℕ) (before now : Content) → AreKeptBytes o rows whole before → 0 < whole → (before ≡ Unknown → now ≡ Unknown)
    → HasIfKnown now (take whole (bytes_of before)) → HasIfKnown now (file_text o.header rows)
cut_has o rows whole before now is some unknown has = elim is as (λ _. HasIfKnown now (file_text o.header rows)) [
  | inl none ↦ (let e = none.0 in absurd (omega arith))
  | inr kept ↦ kept_cut before now whole (file_text o.header rows) kept.1 unknown has
]

no_rows : (o : Start) (rows : List Row) (whole : ℕ) (before : Content) → AreKeptBytes o rows whole before → whole ≡ 0 → rows ≡ []
no_rows o rows whole before is e = elim is as (λ _. rows ≡ []) [ inl none ↦ none.1 | inr kept ↦ (let f = kept.0 in absurd (omega arith)) ]

-- the header was appended to the empty file
pub header_has : (o : Start) (rows : List Row) (whole : ℕ) (before mid now : Content) → AreKeptBytes o rows whole before → whole ≡ 0
    → HasIfKnown mid (take whole (bytes_of before)) → (mid ≡ Unknown → now ≡ Unknown) → HasIfKnown now (bytes_of mid ++ o.header) → HasIfKnown now (file_text o.header rows)
header_has o rows whole before mid now is e cut unknown has =
    let none : rows ≡ [] = no_rows o rows whole before is e in
    let empty : HasIfKnown mid [] = subst (λ n. HasIfKnown mid (take n (bytes_of before))) e cut in
    subst (λ rs. HasIfKnown now (file_text o.header rs)) (sym none)
    (subst (HasIfKnown now) (sym (append-nil o.header)) (has_on mid now [] o.header unknown empty has))

pub torn_header : (header : List ℕ) (whole : ℕ) (before mid now : Content) → whole ≡ 0 → HasIfKnown mid (take whole (bytes_of before)) → (mid ≡ Unknown → now ≡ Unknown)
    → MayHaveMore mid now header → IsHeaderTorn header whole before now
torn_header header whole before mid now e cut unknown more =
    inr (is_more mid now (take whole (bytes_of before)) header _ cut unknown more (λ bytes n is. (n, is, λ ne. absurd (ne e))))

is_of_has : (now : Content) (text : List ℕ) (P : List ℕ → Type 0) → HasIfKnown now text → ((bytes : List ℕ) → bytes ≡ text → P bytes) → IsIfKnown now P
is_of_has Unknown text P h f = tt
is_of_has Absent text P h f = absurd h
is_of_has (Held bytes) text P h f = f bytes h

pub torn_cut : (header : List ℕ) (whole : ℕ) (before now : Content) → (now ≡ before) ⊎ HasIfKnown now (take whole (bytes_of before)) → IsHeaderTorn header whole before now
torn_cut header whole before now h = elim h as (λ _. IsHeaderTorn header whole before now) [
  | inl same ↦ inl same
  | inr has ↦ inr (is_of_has now (take whole (bytes_of before)) _ has (λ bytes e. (0, e ∙ sym (append-nil (take whole (bytes_of before))), λ _. refl)))
]

-- ---- what the calls told of the file

-- the cut to the kept bytes failed
pub stops_cut : (o : Start) (rows : List Row) (sums : Sums) (before now : ShelfState) → IsBoard o rows sums false false before
    → now.changed o.name ≡ before.changed o.name ++ MayCut (before.given o.name) o.whole ∷ []
    → StopsOn o.whole (file_text o.header rows) (o.shelf.given o.name) (o.shelf.changed o.name) (now.changed o.name)
stops_cut o rows sums before now h is =
    AtCut (is ∙ ap (λ start. start ++ MayCut (before.given o.name) o.whole ∷ []) (h.unwritten refl refl)
    ∙ ap (λ (given : List ℕ → List Given). o.shelf.changed o.name ++ MayCut (given o.name) o.whole ∷ []) h.given)

-- the header was to be appended, and this failed
pub stops_header : (o : Start) (rows : List Row) (sums : Sums) (before mid now : ShelfState) → IsBoard o rows sums false false before → rows ≡ [] → o.whole ≡ 0
    → mid.changed o.name ≡ before.changed o.name ++ Cut (o.shelf.given o.name) o.whole ∷ [] → Tears mid now o.name o.header
    → StopsOn o.whole (file_text o.header rows) (o.shelf.given o.name) (o.shelf.changed o.name) (now.changed o.name)
stops_header o rows sums before mid now h none empty cut tears =
    let text : file_text o.header rows ≡ o.header = ap (λ rs. file_text o.header rs) none ∙ append-nil o.header in
    subst (λ t. StopsOn o.whole t (o.shelf.given o.name) (o.shelf.changed o.name) (now.changed o.name)) (sym text)
    (subst (λ start. StopsOn o.whole o.header (o.shelf.given o.name) start (now.changed o.name)) (h.unwritten refl refl)
    (stops_begin o.whole o.header (o.shelf.given o.name) (before.changed o.name) (mid.changed o.name) (now.changed o.name) empty cut tears))

-- the header was appended
pub wrote_header : (o : Start) (rows : List Row) (before mid now : ShelfState) → rows ≡ [] → o.whole ≡ 0
    → mid.changed o.name ≡ before.changed o.name ++ Cut (o.shelf.given o.name) o.whole ∷ [] → Takes mid now o.name o.header
    → WritesOn o.whole (file_text o.header rows) (o.shelf.given o.name) (before.changed o.name) (now.changed o.name)
wrote_header o rows before mid now none empty cut takes =
    let text : file_text o.header rows ≡ o.header = ap (λ rs. file_text o.header rs) none ∙ append-nil o.header in
    subst (λ t. WritesOn o.whole t (o.shelf.given o.name) (before.changed o.name) (now.changed o.name)) (sym text)
    (writes_begin o.whole o.header (o.shelf.given o.name) (before.changed o.name) (mid.changed o.name) (now.changed o.name) empty cut takes)

-- all of the header and the rows was kept
pub wrote_kept : (o : Start) (rows : List Row) (before now : ShelfState) → o.whole ≡ length (file_text o.header rows)
    → now.changed o.name ≡ before.changed o.name ++ Cut (o.shelf.given o.name) o.whole ∷ [] → WritesOn o.whole (file_text o.header rows) (o.shelf.given o.name) (before.changed o.name) (now.changed o.name)
wrote_kept o rows before now all cut =
    cut ∙ ap (λ rest. before.changed o.name ++ Cut (o.shelf.given o.name) o.whole ∷ map Took rest)
    (sym (ap (λ n. drop n (file_text o.header rows)) all ∙ drop-length (file_text o.header rows)))

-- ---- the header, as its code writes it

pub cut_done : {E : Type 0} (given : List Given) (len : ℕ) (r : Result (Unit {0}) E) → is_err r ≡ false → cut_by given len r ≡ Cut given len ∷ []
cut_done given len (Ok done) e = refl
cut_done given len (Err x) e = absurd (cc)

-- a new board, whose file was cut to the kept bytes
module _ (o : Start) (rows : List Row) (sums : Sums) (failed written : Bool) (before mid : ShelfState) (name : List ℕ) (whole : ℕ)
    (board : IsBoard o rows sums failed written before) (fresh : (written ≡ false) × (failed ≡ false)) (named : name ≡ o.name)
    (kept : (whole ≡ o.whole) × AreKeptBytes o rows whole (before.content o.name)) (writes : OnlyWrites before mid name)
    (becomes : Becomes before mid name (take whole)) (cut : mid.changed name ≡ before.changed name ++ Cut (before.given name) whole ∷ []) where
  new_board : IsBoard o rows sums false false before
  new_board = subst (λ f. IsBoard o rows sums f false before) fresh.1 (subst (λ w. IsBoard o rows sums failed w before) fresh.0 board)

  own_writes : OnlyWrites before mid o.name
  own_writes = subst (OnlyWrites before mid) named writes

  own_becomes : HasIfKnown (mid.content o.name) (take whole (bytes_of (before.content o.name)))
  own_becomes = subst (λ n. HasIfKnown (mid.content n) (take whole (bytes_of (before.content n)))) named becomes

  own_cut : mid.changed o.name ≡ before.changed o.name ++ Cut (o.shelf.given o.name) o.whole ∷ []
  own_cut =
      subst (λ (given : List ℕ → List Given). mid.changed o.name ≡ before.changed o.name ++ Cut (given o.name) o.whole ∷ []) new_board.given
      (subst (λ len. mid.changed o.name ≡ before.changed o.name ++ Cut (before.given o.name) len ∷ []) kept.0
      (subst (λ n. mid.changed n ≡ before.changed n ++ Cut (before.given n) whole ∷ []) named cut))

  -- nothing was kept, and the header was appended
  pub headed_anew : (now : ShelfState) (again text : List ℕ) → again ≡ o.name → text ≡ o.header → whole ≡ 0 → OnlyWrites mid now again → Appends mid now again text → Takes mid now again text
      → IsBoard o rows sums failed true now
  headed_anew now again text called own none rest has takes =
      let own_rest : OnlyWrites mid now o.name = subst (OnlyWrites mid now) called rest in
      let own_has : Appends mid now o.name o.header = subst (Appends mid now o.name) own (subst (λ n. Appends mid now n text) called has) in
      let own_takes : Takes mid now o.name o.header = subst (Takes mid now o.name) own (subst (λ n. Takes mid now n text) called takes) in
      let empty : o.whole ≡ 0 = sym kept.0 ∙ none in
      subst (λ f. IsBoard o rows sums f true now) (sym fresh.1)
      (headed o rows sums before now new_board (writes_on before mid now o.name own_writes own_rest)
      (header_has o rows whole (before.content o.name) (mid.content o.name) (now.content o.name) kept.1 none own_becomes own_rest.unknown own_has)
      (omega (arith, empty)) (wrote_header o rows before mid now (no_rows o rows whole (before.content o.name) kept.1 none) empty own_cut own_takes))

  -- all of the header and the rows was kept
  pub headed_on : 0 < whole → IsBoard o rows sums failed true mid
  headed_on some =
      subst (λ f. IsBoard o rows sums f true mid) (sym fresh.1)
      (headed o rows sums before mid new_board own_writes
      (cut_has o rows whole (before.content o.name) (mid.content o.name) kept.1 some own_writes.unknown own_becomes)
      (omega (arith, all)) (wrote_kept o rows before mid all own_cut))
    where
      all : o.whole ≡ length (file_text o.header rows)
      all = elim kept.1 as (λ _. o.whole ≡ length (file_text o.header rows)) [ inl none ↦ absurd (omega (arith, none.0, some)) | inr own ↦ sym kept.0 ∙ own.2 ]

  -- the header couldn't be appended
  pub stops_anew : (now : ShelfState) (again text : List ℕ) → again ≡ o.name → text ≡ o.header → whole ≡ 0 → Tears mid now again text
      → StopsOn o.whole (file_text o.header rows) (o.shelf.given o.name) (o.shelf.changed o.name) (now.changed o.name)
  stops_anew now again text called own none tears =
      stops_header o rows sums before mid now new_board (no_rows o rows whole (before.content o.name) kept.1 none) (sym kept.0 ∙ none) own_cut
      (subst (Tears mid now o.name) own (subst (λ n. Tears mid now n text) called tears))
