-- The steps of the loops that cut.
use Rattle.std.proofs.Common.{◌≡◌, ℕ, suc, ◌+◌, ◌<◌, Bool, true, false, not, cond, List, [], ◌∷◌, ◌++◌, refl, ap, sym, ◌∙◌, append_assoc, length, take, drop, arith}
use Rattle.std.specs.Prelude.{filter}
use Rattle.std.specs.List.{slice_split, onto_first, position_or_len, enumerate_from}
use Rattle.std.proofs.lemmas.Bool.{cond-true, cond-false}
use Rattle.std.proofs.lemmas.List.{length-take}
use Rattle.std.proofs.Math.Seq.{take-length}
use Rattle.std.proofs.lemmas.List.Splits.{slice_split_first, slice_split-cons_no}
use Rattle.blif_text.specs.Placed.{is_joined, Piece, PlacedLine, pieces, placed, join, placed_joined, placed_tokens, has_tokens}
use Rattle.blif_text.specs.Left.{lines_left}

pub split_whole : (p : ℕ → Bool) (xs : List ℕ) → position_or_len p xs ≡ length xs → slice_split p xs ≡ xs ∷ []
split_whole p [] e = refl
split_whole p (x ∷ xs) e = by_cases (p x) refl e (split_whole p xs)
  where
    by_cases : (b : Bool) → p x ≡ b → cond (not b) (1 + position_or_len p xs) 0 ≡ suc (length xs)
        → (position_or_len p xs ≡ length xs → slice_split p xs ≡ xs ∷ []) → slice_split p (x ∷ xs) ≡ (x ∷ xs) ∷ []
    by_cases true f e more = absurd (omega arith)
    by_cases false f e more = slice_split-cons_no p x xs f ∙ ap (onto_first x) (more (omega arith))

-- the last piece
pub pieces_last : (p : ℕ → Bool) (place : ℕ) (xs : List ℕ) (n : ℕ) → n ≡ position_or_len p xs → n ≡ length xs
    → pieces p place xs ≡ record { start = place; text = take n xs } ∷ []
unfolding placed
pieces_last p place xs n e h = ap (placed place) (split_whole p xs (sym e ∙ h)) ∙ rw (h, take-length xs) refl

-- the first piece of several
pub pieces_first : (p : ℕ → Bool) (place next : ℕ) (xs rest : List ℕ) (n : ℕ) → n ≡ position_or_len p xs → n < length xs
    → next ≡ place + (n + 1) → rest ≡ drop (n + 1) xs → pieces p place xs ≡ record { start = place; text = take n xs } ∷ pieces p next rest
unfolding placed
pieces_first p place next xs rest n e h at is =
    let cut : slice_split p xs ≡ take n xs ∷ slice_split p (drop (n + 1) xs) = rw e (slice_split_first p xs 0 (omega arith)) in
    let size : place + length (take n xs) + 1 ≡ next = omega (arith, length-take n xs) in
    ap (placed place) cut ∙ rw (size, is) refl

join_twice : (n m : ℕ) (ts us : List Piece) (lines : List PlacedLine) → join n ts (join m us lines) ≡ join n (ts ++ us) lines
join_twice n m ts us [] = refl
join_twice n m ts us (line ∷ lines) =
    ap (λ (all : List Piece). record { number = n; tokens = all } ∷ lines) (sym (append_assoc ts us line.tokens))

-- a physical line that the next one is joined to
pub left_joined : (done : List PlacedLine) (line : PlacedLine) (number : ℕ) (p : Piece) (ps : List (ℕ × Piece)) (grown : PlacedLine) → is_joined p.text ≡ true
    → grown ≡ record { number = line.number; tokens = line.tokens ++ placed_tokens p }
    → lines_left done line ((number, p) ∷ ps) ≡ lines_left done grown ps
unfolding placed_joined
left_joined done line number p ps grown e is =
    ap (λ (lines : List PlacedLine). done ++ filter has_tokens (join line.number line.tokens lines)) (cond-true (is_joined p.text) _ _ e)
    ∙ ap (λ (lines : List PlacedLine). done ++ filter has_tokens lines) (join_twice line.number number line.tokens (placed_tokens p) (placed_joined ps))
    ∙ ap (λ (l : PlacedLine). lines_left done l ps) (sym is)

-- one that ends the logical line
pub left_ended : (done : List PlacedLine) (line : PlacedLine) (number : ℕ) (p : Piece) (ps : List (ℕ × Piece)) (grown : PlacedLine) → is_joined p.text ≡ false
    → grown ≡ record { number = line.number; tokens = line.tokens ++ placed_tokens p }
    → lines_left done line ((number, p) ∷ ps) ≡ done ++ filter has_tokens (grown ∷ placed_joined ps)
unfolding placed_joined
left_ended done line number p ps grown e is =
    ap (λ (lines : List PlacedLine). done ++ filter has_tokens (join line.number line.tokens lines)) (cond-false (is_joined p.text) _ _ e)
    ∙ ap (λ (l : PlacedLine). done ++ filter has_tokens (l ∷ placed_joined ps)) (sym is)

-- a logical line begins with the next physical line
pub left_new : (done : List PlacedLine) (line : PlacedLine) (number : ℕ) (ps : List Piece) → line ≡ record { number = number; tokens = [] }
    → lines_left done line (enumerate_from number ps) ≡ done ++ filter has_tokens (placed_joined (enumerate_from number ps))
unfolding placed_joined
left_new done line number ps e =
    ap (λ (l : PlacedLine). lines_left done l (enumerate_from number ps)) e ∙ ap (λ (lines : List PlacedLine). done ++ lines) (begun ps)
  where
    by_cases : (b : Bool) (us : List Piece) (more : List PlacedLine)
        → join number [] (cond b (join number us more) (record { number = number; tokens = us } ∷ more))
        ≡ cond b (join number us more) (record { number = number; tokens = us } ∷ more)
    by_cases true us more = join_twice number number [] us more
    by_cases false us more = refl

    begun : (ps : List Piece)
        → filter has_tokens (join number [] (placed_joined (enumerate_from number ps))) ≡ filter has_tokens (placed_joined (enumerate_from number ps))
    begun [] = refl
    begun (p ∷ ps) = ap (filter has_tokens) (by_cases (is_joined p.text) (placed_tokens p) (placed_joined (enumerate_from (number + 1) ps)))

-- the end of the text
pub left_last : (done : List PlacedLine) (line : PlacedLine) → lines_left done line [] ≡ done ++ filter has_tokens (line ∷ [])
unfolding placed_joined
left_last done line = refl
