-- Each token stands in the file at its place.
use Rattle.std.proofs.Common.{◌≡◌, ℕ, suc, ◌+◌, ◌-◌, append_assoc, Bool, true, false, cond, List, [], ◌∷◌, ◌++◌, ap, sym, subst, ◌∙◌, length, take, drop, arith}
use Rattle.std.specs.Prelude.{filter}
use Rattle.std.specs.List.{slice_split, onto_first, AllByRecursion, before_first, suffix_len, position_or_len, enumerate_from}
use Rattle.std.proofs.lemmas.List.{append-nil, drop-drop, take-append-drop}
use Rattle.blif_text.specs.Lines.{is_feed, is_white, is_hash, bare}
use Rattle.blif_text.specs.Placed.{is_joined, Piece, PlacedLine, pieces, placed, inked, has_bytes, placed_tokens, join, placed_joined, has_tokens, physical_lines, placed_lines}

-- a text stands in the file from this place on
abbrev pub Stands : List ℕ → Piece → Type 0
Stands source piece = (rest : List ℕ) × (drop piece.start source ≡ piece.text ++ rest)

-- all pieces of a list stand in the file
abbrev pub AllStand : List ℕ → List Piece → Type 0
AllStand source ps = AllByRecursion (Stands source) ps

-- the first piece grows by a byte in front
grown : (source : List ℕ) (place x : ℕ) (rest : List ℕ) (parts : List (List ℕ)) (text : List ℕ)
    → drop place source ≡ x ∷ (text ++ rest) → AllStand source (placed (place + 1) parts)
    → AllStand source (placed place (onto_first x parts))
unfolding placed
grown source place x rest [] text e all = ((text ++ rest, e), tt)
grown source place x rest (part ∷ parts) text e all =
    let same : place + 1 + length part + 1 ≡ place + suc (length part) + 1 = omega arith in
    let here : text ++ rest ≡ part ++ all.0.0 = sym (ap (drop 1) e) ∙ drop-drop 1 place source ∙ all.0.1 in
    ((all.0.0, e ∙ ap (λ (more : List ℕ). x ∷ more) here), subst (λ n. AllStand source (placed n parts)) same all.1)

pub pieces-stand : (is_cut : ℕ → Bool) (source text rest : List ℕ) (place : ℕ) → drop place source ≡ text ++ rest
    → AllStand source (pieces is_cut place text)
unfolding placed
pieces-stand is_cut source [] rest place e = ((rest, e), tt)
pieces-stand is_cut source (x ∷ text) rest place e =
    cut_here (is_cut x) (pieces-stand is_cut source text rest (place + 1) (sym (drop-drop 1 place source) ∙ ap (drop 1) e))
  where
    cut_here : (cut : Bool) → AllStand source (placed (place + 1) (slice_split is_cut text))
        → AllStand source (placed place (cond cut ([] ∷ slice_split is_cut text) (onto_first x (slice_split is_cut text))))
    cut_here true all =
        let same : place + 1 ≡ place + 0 + 1 = omega arith in
        ((x ∷ (text ++ rest), e), subst (λ n. AllStand source (placed n (slice_split is_cut text))) same all)
    cut_here false all = grown source place x rest (slice_split is_cut text) text e all

-- with a text its front stands
front_stands : (source : List ℕ) (place n : ℕ) (text : List ℕ) → Stands source (record { start = place; text = text })
    → Stands source (record { start = place; text = take n text })
front_stands source place n text (rest, e) = (
  drop n text ++ rest,
  e ∙ ap (λ (t : List ℕ). t ++ rest) (sym (take-append-drop n text))
      ∙ append_assoc (take n text) (drop n text) rest,
)

ink_stands : (source : List ℕ) (line : Piece) → Stands source line → Stands source (record { start = line.start; text = inked line.text })
unfolding bare
ink_stands source line stands =
    let uncommented : List ℕ = before_first is_hash line.text in
    by_cases (is_joined line.text) (front_stands source line.start (length uncommented - suffix_len is_white uncommented) uncommented
    (front_stands source line.start (position_or_len is_hash line.text) line.text stands))
  where
    by_cases : (b : Bool) → Stands source (record { start = line.start; text = bare line.text })
        → Stands source (record {
          start = line.start;
          text = cond b (take (length (bare line.text) - 1) (bare line.text)) (bare line.text);
        })
    by_cases true whole = front_stands source line.start (length (bare line.text) - 1) (bare line.text) whole
    by_cases false whole = whole

pub all-filter : {X : Type 0} (P : X → Type 0) (test : X → Bool) (xs : List X) → AllByRecursion P xs → AllByRecursion P (filter test xs)
all-filter P test [] all = tt
all-filter {X} P test (x ∷ xs) all = by_cases (test x) (all-filter P test xs all.1)
  where
    by_cases : (b : Bool) → AllByRecursion P (filter test xs) → AllByRecursion P (cond b (x ∷ filter test xs) (filter test xs))
    by_cases true more = (all.0, more)
    by_cases false more = more

pub all-append : {X : Type 0} (P : X → Type 0) (xs ys : List X) → AllByRecursion P xs → AllByRecursion P ys → AllByRecursion P (xs ++ ys)
all-append P [] ys all more = more
all-append P (x ∷ xs) ys all more = (all.0, all-append P xs ys all.1 more)

-- the tokens of a physical line stand where it stands
tokens-stand : (source : List ℕ) (line : Piece) → Stands source line → AllStand source (placed_tokens line)
tokens-stand source line stands =
    let ink = ink_stands source line stands in
    all-filter (Stands source) has_bytes (pieces is_white line.start (inked line.text))
    (pieces-stand is_white source (inked line.text) ink.0 line.start ink.1)

-- all tokens of all lines stand in the file
abbrev pub AllLinesStand : List ℕ → List PlacedLine → Type 0
AllLinesStand source lines = AllByRecursion (λ line. AllStand source line.tokens) lines

join-stand : (source : List ℕ) (number : ℕ) (tokens : List Piece) (lines : List PlacedLine) → AllStand source tokens → AllLinesStand source lines
    → AllLinesStand source (join number tokens lines)
join-stand source number tokens [] all more = (all, tt)
join-stand source number tokens (line ∷ lines) all more = (all-append (Stands source) tokens line.tokens all more.0, more.1)

joined-stand : (source : List ℕ) (n : ℕ) (ps : List Piece) → AllStand source ps → AllLinesStand source (placed_joined (enumerate_from n ps))
unfolding placed_joined
joined-stand source n [] all = tt
joined-stand source n (p ∷ ps) all = by_cases (is_joined p.text) (joined-stand source (n + 1) ps all.1)
  where
    by_cases : (b : Bool) → AllLinesStand source (placed_joined (enumerate_from (n + 1) ps))
        → AllLinesStand source
        (cond b (join n (placed_tokens p) (placed_joined (enumerate_from (n + 1) ps)))
        (record { number = n; tokens = placed_tokens p } ∷ placed_joined (enumerate_from (n + 1) ps)))
    by_cases true more = join-stand source n (placed_tokens p) (placed_joined (enumerate_from (n + 1) ps)) (tokens-stand source p all.0) more
    by_cases false more = (tokens-stand source p all.0, more)

pub lines-stand : (bytes : List ℕ) → AllLinesStand bytes (placed_lines bytes)
unfolding placed_lines
lines-stand bytes =
    all-filter (λ (line : PlacedLine). AllStand bytes line.tokens) has_tokens (placed_joined (enumerate_from 1 (physical_lines bytes)))
    (joined-stand bytes 1 (physical_lines bytes) (pieces-stand is_feed bytes bytes [] 0 (sym (append-nil bytes))))
