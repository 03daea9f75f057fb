-- What is kept of a file, case by case.
use Rattle.std.proofs.Common.{◌≡◌, ℕ, ◌+◌, ◌*◌, ◌^◌, ◌≤◌, true, false, List, [], length, take, refl, ap, sym, ◌∙◌, arith}
use Rattle.std.specs.Prelude.{Ok, Err, min}
use Rattle.std.specs.Str.{bytes_eq}
use Rattle.std.proofs.lemmas.Slice.Eq.{bytes_eq-Decides}
use Rattle.std.proofs.lemmas.List.{length-take, length-map, take_min}
use Rattle.fm_base.specs.Firsts.{first_fault}
use Rattle.campaign_plan.specs.Analysis.{Analysis}
use Rattle.result_file.specs.declared.Row.{Row}
use Rattle.result_file.specs.declared.ResultRefusal.{ResultRefusal}
use Rattle.result_file.specs.declared.ResultRefusal.TheVariants.{Foreign, BadRow}
use Rattle.fm_base.specs.declared.refusal.Refusal.{Refusal}
use Rattle.fm_base.specs.declared.refusal.Refusal.TheVariants.{Fault, Memory}
use Rattle.result_file.specs.KeptRows.{kept, kept_unless, whole_pieces, is_torn_header, row_fault, row_read}
use Rattle.result_file.proofs.Pieces.{length-pieces}
use Rattle.fm_base.specs.Answers.{Gives}
use Rattle.result_file.specs.Answers.{RowsGive}

pub kept_torn : (own : List ℕ) (p : Analysis) (bytes : List ℕ) → is_torn_header own bytes ≡ true → kept own p bytes ≡ Ok (record { rows = []; whole = 0 })
unfolding kept
kept_torn own p bytes h = rw h refl

pub kept_foreign : (own : List ℕ) (p : Analysis) (bytes : List ℕ) → is_torn_header own bytes ≡ false → bytes_eq (take 89 bytes) own ≡ false
    → kept own p bytes ≡ Err (Foreign (take 89 bytes) own)
unfolding kept
kept_foreign own p bytes h f = rw (h, f) refl

pub kept_own : (own : List ℕ) (p : Analysis) (bytes : List ℕ) → is_torn_header own bytes ≡ false → bytes_eq (take 89 bytes) own ≡ true
    → kept own p bytes ≡ kept_unless (first_fault (row_fault p) (whole_pieces bytes)) (whole_pieces bytes)
unfolding kept
kept_own own p bytes h f = rw (h, f) refl

pub is_long : (own bytes : List ℕ) → length own ≡ 89 → bytes_eq (take 89 bytes) own ≡ true → 89 ≤ length bytes
is_long own bytes many e =
    let same : take 89 bytes ≡ own = (bytes_eq-Decides (take 89 bytes) own).0 e in
    let len : length (take 89 bytes) ≡ 89 = ap length same ∙ many in
    omega (arith, len, length-take 89 bytes)

pub gives_rows : (own : List ℕ) (p : Analysis) (bytes : List ℕ) (rows : List Row) (whole : ℕ) → is_torn_header own bytes ≡ false → bytes_eq (take 89 bytes) own ≡ true
    → RowsGive p (whole_pieces bytes) (Ok rows) → whole ≡ 89 + 130 * length rows → kept own p bytes ≡ Ok (record { rows = rows; whole = whole })
gives_rows own p bytes rows whole h f give e =
    let many : length rows ≡ length (whole_pieces bytes) = ap length give.1 ∙ length-map (whole_pieces bytes) row_read in
    kept_own own p bytes h f ∙ ap (λ found. kept_unless found (whole_pieces bytes)) give.0
    ∙ ap (λ (rs : List Row). Ok (record { rows = rs; whole = 89 + 130 * length (whole_pieces bytes) })) (sym give.1)
    ∙ ap (λ n. Ok (record { rows = rows; whole = 89 + 130 * n })) (sym many) ∙ ap (λ n. Ok (record { rows = rows; whole = n })) (sym e)

pub gives_refusal : (own : List ℕ) (p : Analysis) (bytes : List ℕ) (refusal : Refusal ResultRefusal) → is_torn_header own bytes ≡ false → bytes_eq (take 89 bytes) own ≡ true
    → RowsGive p (whole_pieces bytes) (Err refusal) → Gives (kept own p bytes) (Err refusal)
gives_refusal own p bytes (Fault (Foreign found mine)) h f give = absurd give
gives_refusal own p bytes (Fault (BadRow number fault)) h f give = kept_own own p bytes h f ∙ ap (λ found. kept_unless found (whole_pieces bytes)) give
gives_refusal own p bytes (Memory no_room) h f give = tt

pub take_short : (xs : List ℕ) (n m : ℕ) → n ≡ min (length xs) m → take n xs ≡ take m xs
take_short xs n m e =
    let swap : n ≡ min m (length xs) = e ∙ omega arith in
    ap (λ k. take k xs) swap ∙ take_min m xs

pub rows_few : (p : Analysis) (bytes : List ℕ) (rows : List Row) → length bytes ≤ 2 ^ 26 → RowsGive p (whole_pieces bytes) (Ok rows) → length rows ≤ 2 ^ 26
rows_few p bytes rows few give =
    let many : length rows ≡ length (whole_pieces bytes) = ap length give.1 ∙ length-map (whole_pieces bytes) row_read in
    omega (arith, many, few, length-pieces bytes)
