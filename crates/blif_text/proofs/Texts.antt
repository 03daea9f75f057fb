-- Without the places of their tokens the lines that are read are those of the definition.
use Rattle.std.proofs.Common.{◌≡◌, ℕ, ◌+◌, Bool, true, false, cond, List, [], ◌∷◌, ◌++◌, refl, ap, sym, ◌∙◌, length, map, take, drop}
use Rattle.std.specs.Prelude.{filter, flat_map, nat_lt}
use Rattle.std.specs.List.{slice_split, enumerate_from}
use Rattle.std.proofs.lemmas.List.{append-nil, length-map, map-append}
use Rattle.blif_text.specs.Lines.{Line, bare, is_feed, is_white, joined, lines_of}
use Rattle.blif_text.specs.Placed.{tokens_of, is_joined, Piece, PlacedLine, has_bytes, has_tokens, inked, join, pieces, placed, placed_joined, placed_lines, placed_tokens, text_line}

abbrev text_of : Piece → List ℕ
text_of piece = piece.text

placed_texts : (place : ℕ) (texts : List (List ℕ)) → map text_of (placed place texts) ≡ texts
unfolding placed
placed_texts place [] = refl
placed_texts place (text ∷ texts) = ap (λ (more : List (List ℕ)). text ∷ more) (placed_texts (place + length text + 1) texts)

-- what is kept of images are the images of what is kept, where the two tests agree
kept_images : {X Y : Type 0} (f : X → Y) (p : X → Bool) (q : Y → Bool) → ((x : X) → p x ≡ q (f x)) → (xs : List X)
    → map f (filter p xs) ≡ filter q (map f xs)
kept_images f p q same [] = refl
kept_images {X} {Y} f p q same (x ∷ xs) = by_cases (p x) (q (f x)) (same x) (kept_images f p q same xs)
  where
    by_cases : (b c : Bool) → b ≡ c → map f (filter p xs) ≡ filter q (map f xs)
        → map f (cond b (x ∷ filter p xs) (filter p xs)) ≡ cond c (f x ∷ filter q (map f xs)) (filter q (map f xs))
    by_cases true true e more = ap (λ (ys : List Y). f x ∷ ys) more
    by_cases false false e more = more
    by_cases true false e more = cc
    by_cases false true e more = cc

tokens_texts : (line : Piece) → map text_of (placed_tokens line) ≡ tokens_of line.text
tokens_texts line =
    kept_images text_of has_bytes (λ (token : List ℕ). nat_lt 0 (length token)) (λ p. refl) (pieces is_white line.start (inked line.text))
    ∙ ap (filter (λ (token : List ℕ). nat_lt 0 (length token))) (placed_texts line.start (slice_split is_white (inked line.text)))

-- the line, and the lines behind it, where tokens go in front of the next line
join_texts : (n : ℕ) (own : List Piece) (more : List PlacedLine)
    → map text_line (join n own more)
    ≡ record { number = n; tokens = map text_of own ++ flat_map (λ (next : Line). next.tokens) (take 1 (map text_line more)) }
    ∷ drop 1 (map text_line more)
join_texts n own [] =
    ap (λ (tokens : List (List ℕ)). record { number = n; tokens = tokens } ∷ []) (sym (append-nil (map text_of own)))
join_texts n own (line ∷ more) =
    ap (λ (tokens : List (List ℕ)). record { number = n; tokens = tokens } ∷ map text_line more)
    (map-append text_of own line.tokens
    ∙ ap (λ (last : List (List ℕ)). map text_of own ++ last) (sym (append-nil (map text_of line.tokens))))

joined_texts : (n place : ℕ) (texts : List (List ℕ))
    → map text_line (placed_joined (enumerate_from n (placed place texts))) ≡ joined (enumerate_from n texts)
unfolding placed joined placed_joined bare
joined_texts n place [] = refl
joined_texts n place (text ∷ texts) =
    by_cases (is_joined text) (placed_tokens (record { start = place; text = text })) _ _ _
    (tokens_texts (record { start = place; text = text })) (joined_texts (n + 1) (place + length text + 1) texts)
  where
    by_cases : (b : Bool) (own : List Piece) (more : List PlacedLine) (tokens : List (List ℕ)) (lines : List Line)
        → map text_of own ≡ tokens → map text_line more ≡ lines
        → map text_line (cond b (join n own more) (record { number = n; tokens = own } ∷ more))
        ≡ cond b (record { number = n; tokens = tokens ++ flat_map (λ (next : Line). next.tokens) (take 1 lines) } ∷ drop 1 lines)
        (record { number = n; tokens = tokens } ∷ lines)
    by_cases true own more tokens lines e f = join_texts n own more ∙ rw (e, f) refl
    by_cases false own more tokens lines e f = rw (e, f) refl

pub lines_texts : (bytes : List ℕ) → map text_line (placed_lines bytes) ≡ lines_of bytes
unfolding lines_of placed_lines
lines_texts bytes =
    kept_images text_line has_tokens (λ (line : Line). nat_lt 0 (length line.tokens))
    (λ line. ap (nat_lt 0) (sym (length-map line.tokens text_of))) (placed_joined (enumerate_from 1 (pieces is_feed 0 bytes)))
    ∙ ap (filter (λ (line : Line). nat_lt 0 (length line.tokens))) (joined_texts 1 0 (slice_split is_feed bytes))
