-- The batches that no row has, found by a mark for each batch.
use Rattle.std.proofs.Common.{◌≡◌, ℕ, suc, ◌+◌, ◌<◌, ◌==◌, Bool, true, false, cond, not, List, [], ◌∷◌, ◌++◌, length, refl, sym, ap, subst, ◌∙◌, arith, filter}
use Rattle.std.specs.List.{All, list_any}
use Rattle.std.proofs.lemmas.List.{append-nil, get_or-map, length-map}
use Rattle.std.proofs.lemmas.List.Elements.{filter-append}
use Rattle.fm_base.specs.Lists.{below}
use Rattle.fm_base.proofs.Below.{below_push}
use Rattle.result_file.specs.declared.Row.{Row}
use Rattle.campaign_board.specs.Boards.{batches_of, row_at_place}
use Rattle.campaign_board.specs.Missing.{missing_below}

-- the batch of a row is below their number
pub row_within : (n : ℕ) (rows : List Row) (i : ℕ) → All (λ b. b < n) (batches_of rows) → i < length rows → (row_at_place rows i).batch < n
row_within n rows i all lt =
    subst (λ b. b < n) (get_or-map (λ (r : Row). r.batch) rows i (row_at_place [] 0) 0 lt) (all i 0 (omega (arith, length-map rows (λ (r : Row). r.batch))))

pub missing_none : (kept : List ℕ) → missing_below 0 kept ≡ []
unfolding missing_below below
missing_none kept = refl

missing_more : (n : ℕ) (kept : List ℕ) (mark : Bool) → list_any (λ other. other == n) kept ≡ mark → missing_below (n + 1) kept ≡ missing_below n kept ++ cond (not mark) (n ∷ []) []
unfolding missing_below
missing_more n kept mark is =
    let more : n + 1 ≡ suc n = omega arith in
    let p : ℕ → Bool = λ batch. not (list_any (λ other. other == batch) kept) in
    ap (λ k. filter p (below k)) more ∙ ap (filter p) (below_push n) ∙ filter-append p (below n) (n ∷ [])
    ∙ ap (λ (b : Bool). filter p (below n) ++ cond (not b) (n ∷ []) []) is

-- a batch without a mark is one more
pub missing_push : (n : ℕ) (kept todo now : List ℕ) (mark : Bool) → todo ≡ missing_below n kept → mark ≡ list_any (λ other. other == n) kept → mark ≡ false → now ≡ todo ++ n ∷ []
    → now ≡ missing_below (n + 1) kept
missing_push n kept todo now mark e is off pushed = pushed ∙ ap (λ l. l ++ n ∷ []) e ∙ sym (missing_more n kept false (sym is ∙ off))

-- a batch with a mark isn't
pub missing_skip : (n : ℕ) (kept todo now : List ℕ) (mark : Bool) → todo ≡ missing_below n kept → mark ≡ list_any (λ other. other == n) kept → mark ≡ true → now ≡ todo
    → now ≡ missing_below (n + 1) kept
missing_skip n kept todo now mark e is on same = same ∙ e ∙ sym (append-nil (missing_below n kept)) ∙ sym (missing_more n kept true (sym is ∙ on))
