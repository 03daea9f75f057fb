-- A post, as its code says it.
use Rattle.std.proofs.Common.{◌≡◌, ℕ, ◌<◌, Bool, true, false, List, [], ◌∷◌, ◌++◌, length, ap, sym, subst, ◌∙◌}
use Rattle.std.specs.Prelude.{Result, Ok, Err, OnErr, OnOk, is_err}
use Rattle.metric_sums.specs.declared.Sums.{Sums}
use Rattle.metric_sums.specs.Totals.{plus, AreSmall}
use Rattle.result_file.specs.declared.Row.{Row}
use Rattle.result_file.specs.ResultText.{row_text}
use Rattle.fm_shelf.specs.Shelf.{ShelfState, OnlyWrites, Appends, MayAppend, Takes, Tears}
use Rattle.campaign_board.specs.declared.entry.Entry.{Entry}
use Rattle.fm_base.specs.Once.{Lacks}
use Rattle.campaign_board.specs.Boards.{Start, board_entry, batches_of, sums_over, next_row}
use Rattle.campaign_board.specs.Kept.{IsBoard}
use Rattle.fm_base.proofs.OnceLists.{once_push}
use Rattle.campaign_board.proofs.Adding.{small_over, sums_push}
use Rattle.campaign_board.proofs.Boards.{added_row, failed_row}
use Rattle.std.proofs.lemmas.List.Elements.{All-push}

pub on_err : {X E : Type 0} {P : Type 0} (r : Result X E) → is_err r ≡ true → OnErr r P → P
on_err (Ok x) e h = absurd (cc)
on_err (Err x) e h = h

pub on_ok : {X E : Type 0} {P : Type 0} (r : Result X E) → is_err r ≡ false → OnOk r P → P
on_ok (Ok x) e h = h
on_ok (Err x) e h = absurd (cc)

-- what a post adds, as it is asked
pub record IsAsked (o : Start) (rows : List Row) (entry : Entry) : Type 0 where
  pub within : entry.batch < length o.entries
  pub lacks : Lacks (batches_of rows) entry.batch
  pub taken : o.takes entry.batch ≡ true
  pub own : entry ≡ board_entry o.entries entry.batch

pub now_small : (o : Start) (rows : List Row) (sums : Sums) (failed written : Bool) (shelf : ShelfState) (entry : Entry)
    → IsBoard o rows sums failed written shelf → IsAsked o rows entry → AreSmall (plus sums entry.own)
now_small o rows sums failed written shelf entry h asked =
    let batches : List ℕ = batches_of rows in
    let small = small_over o.entries (batches ++ entry.batch ∷ []) h.entries
    (All-push (λ b. b < length o.entries) batches entry.batch h.rows_are.within asked.within) (once_push batches entry.batch h.rows_are.once asked.lacks) in
    subst AreSmall (sums_push o.entries batches entry.batch ∙ ap (λ s. plus s (board_entry o.entries entry.batch).own) (sym h.added) ∙ ap (λ (e : Entry). plus sums e.own) (sym asked.own)) small

sums_now : (o : Start) (rows : List Row) (sums : Sums) (failed written : Bool) (shelf : ShelfState) (entry : Entry)
    → IsBoard o rows sums failed written shelf → IsAsked o rows entry → plus sums entry.own ≡ sums_over o.entries (batches_of rows ++ entry.batch ∷ [])
sums_now o rows sums failed written shelf entry h asked =
    ap (λ s. plus s entry.own) h.added ∙ ap (λ (e : Entry). plus (sums_over o.entries (batches_of rows)) e.own) asked.own ∙ sym (sums_push o.entries (batches_of rows) entry.batch)

abbrev pub row_of_entry : Entry → Sums → Row
row_of_entry entry sums = record { batch = entry.batch; danger = entry.danger; noticed = entry.noticed; sums = sums }

pub is_next : (o : Start) (rows : List Row) (sums now_sums : Sums) (failed written : Bool) (shelf : ShelfState) (entry : Entry)
    → IsBoard o rows sums failed written shelf → IsAsked o rows entry → now_sums ≡ plus sums entry.own
    → row_of_entry entry now_sums ≡ next_row o.entries rows entry.batch
is_next o rows sums now_sums failed written shelf entry h asked e =
    ap (row_of_entry entry) (e ∙ sums_now o rows sums failed written shelf entry h asked)
    ∙ ap (λ (x : Entry). row_of_entry x (sums_over o.entries (batches_of rows ++ entry.batch ∷ []))) asked.own

pub post_kept : (o : Start) (rows : List Row) (sums now_sums : Sums) (failed written : Bool) (before now : ShelfState) (entry : Entry) (name : List ℕ)
    → IsBoard o rows sums failed written before → failed ≡ false → written ≡ true → IsAsked o rows entry → now_sums ≡ plus sums entry.own → name ≡ o.name
    → OnlyWrites before now name → Appends before now name (row_text (row_of_entry entry now_sums)) → Takes before now name (row_text (row_of_entry entry now_sums))
    → IsBoard o (rows ++ row_of_entry entry now_sums ∷ []) now_sums failed written now
post_kept o rows sums now_sums failed written before now entry name h f w asked e named writes has takes =
    let row = is_next o rows sums now_sums failed written before entry h asked e in
    let P : Bool → Bool → Type 0 = λ a b. IsBoard o rows sums a b before in
    let start : IsBoard o rows sums false true before = subst (λ b. P false b) w (subst (λ a. P a written) f h) in
    let has_o : Appends before now o.name (row_text (row_of_entry entry now_sums)) = subst (λ n. Appends before now n (row_text (row_of_entry entry now_sums))) named has in
    let takes_o : Takes before now o.name (row_text (row_of_entry entry now_sums)) = subst (λ n. Takes before now n (row_text (row_of_entry entry now_sums))) named takes in
    let board : IsBoard o (rows ++ next_row o.entries rows entry.batch ∷ []) now_sums false true now =
    added_row o rows sums now_sums before now entry.batch start asked.within asked.lacks asked.taken (subst (OnlyWrites before now) named writes)
    (subst (λ r. Appends before now o.name (row_text r)) row has_o) (subst (λ r. Takes before now o.name (row_text r)) row takes_o) (e ∙ sums_now o rows sums failed written before entry h asked) in
    subst (λ r. IsBoard o (rows ++ r ∷ []) now_sums failed written now) (sym row)
    (subst (λ a. IsBoard o (rows ++ next_row o.entries rows entry.batch ∷ []) now_sums a written now) (sym f)
    (subst (λ b. IsBoard o (rows ++ next_row o.entries rows entry.batch ∷ []) now_sums false b now) (sym w) board))

pub post_stopped : (o : Start) (rows : List Row) (sums now_sums : Sums) (failed written : Bool) (before now : ShelfState) (entry : Entry) (name : List ℕ)
    → IsBoard o rows sums failed written before → failed ≡ false → written ≡ true → IsAsked o rows entry → now_sums ≡ plus sums entry.own → name ≡ o.name
    → OnlyWrites before now name → MayAppend before now name (row_text (row_of_entry entry now_sums)) → Tears before now name (row_text (row_of_entry entry now_sums))
    → IsBoard o rows sums true written now
post_stopped o rows sums now_sums failed written before now entry name h f w asked e named writes more tears =
    let row = is_next o rows sums now_sums failed written before entry h asked e in
    let P : Bool → Bool → Type 0 = λ a b. IsBoard o rows sums a b before in
    let start : IsBoard o rows sums false true before = subst (λ b. P false b) w (subst (λ a. P a written) f h) in
    let more_o : MayAppend before now o.name (row_text (row_of_entry entry now_sums)) = subst (λ n. MayAppend before now n (row_text (row_of_entry entry now_sums))) named more in
    let tears_o : Tears before now o.name (row_text (row_of_entry entry now_sums)) = subst (λ n. Tears before now n (row_text (row_of_entry entry now_sums))) named tears in
    subst (λ b. IsBoard o rows sums true b now) (sym w)
    (failed_row o rows sums before now entry.batch start asked.within asked.lacks asked.taken (subst (OnlyWrites before now) named writes)
    (subst (λ r. MayAppend before now o.name (row_text r)) row more_o) (subst (λ r. Tears before now o.name (row_text r)) row tears_o))
