-- A written file, cut into its rows.
use Rattle.std.proofs.Common.{◌≡◌, ℕ, ◌+◌, ◌*◌, ◌<◌, List, [], ◌∷◌, ◌++◌, map, length, take, drop, get_or, refl, ap, sym, ◌∙◌, arith, append_assoc, length-append}
use Rattle.std.specs.Prelude.{slice_range, flat_map}
use Rattle.std.proofs.lemmas.List.{take-append-drop, drop_more, length-take-le, length-map, get_or-map, ext_get_or}
use Rattle.std.proofs.lemmas.List.Concat.{flat_map-append}
use Rattle.fm_base.specs.Text.{hex}
use Rattle.metric_sums.specs.Totals.{no_sums}
use Rattle.result_file.specs.declared.Row.{Row}
use Rattle.result_file.specs.ResultText.{row_text}
use Rattle.result_file.specs.KeptRows.{whole_pieces}
use Rattle.result_file.proofs.Numbers.{slice_at}
use Rattle.result_file.proofs.RowBack.{words, AreWords, row_words}
use Rattle.result_file.proofs.Pieces.{length-pieces, piece_cut}

length-words : (b d n p q l t u : List ℕ) → AreWords b d n p q l t u → length (words b d n p q l t u) ≡ 130
length-words b d n p q l t u w =
    let ab = w.bb in let ad = w.dd in let an = w.nn in let ap_ = w.pp in let aq = w.qq in let al = w.ll in let at = w.tt in let au = w.uu in
    simp length-append (omega arith)

pub length-row_text : (r : Row) → length (row_text r) ≡ 130
unfolding row_text
length-row_text r =
    length-words (hex 8 r.batch) (hex 16 r.danger) (hex 16 r.noticed) (hex 16 r.sums.permanent_all) (hex 16 r.sums.permanent_danger) (hex 16 r.sums.latent)
    (hex 16 r.sums.transient_all) (hex 16 r.sums.transient_danger) (row_words r)

pub length-rows : (rows : List Row) → length (flat_map row_text rows) ≡ 130 * length rows
length-rows [] = refl
length-rows (row ∷ rows) =
    let rest = length-rows rows in
    let first = length-row_text row in
    length-append (row_text row) (flat_map row_text rows) ∙ omega (arith, rest, first)

abbrev pub no_row : Row
no_row = record { batch = 0; danger = 0; noticed = 0; sums = no_sums }

split_at : (rows : List Row) (k : ℕ) → k < length rows
    → flat_map row_text rows ≡ flat_map row_text (take k rows) ++ (row_text (get_or rows k no_row) ++ flat_map row_text (drop (k + 1) rows))
split_at rows k lt =
    ap (flat_map row_text) (sym (take-append-drop k rows) ∙ ap (λ rest. take k rows ++ rest) (drop_more rows k no_row lt))
    ∙ flat_map-append row_text (take k rows) (get_or rows k no_row ∷ drop (k + 1) rows)

-- the piece at k is the text of row k
pub piece_of : (own : List ℕ) (rows : List Row) (k : ℕ) → length own ≡ 89 → k < length rows
    → get_or (whole_pieces (own ++ flat_map row_text rows)) k [] ≡ row_text (get_or rows k no_row)
piece_of own rows k many lt =
    let front : List ℕ = own ++ flat_map row_text (take k rows) in
    let x : List ℕ = row_text (get_or rows k no_row) in
    let post : List ℕ = flat_map row_text (drop (k + 1) rows) in
    let all = length-rows rows in
    let some = length-rows (take k rows) in
    let taken : length (take k rows) ≡ k = length-take-le k rows (omega arith) in
    let long = length-append own (flat_map row_text rows) in
    let at : length front ≡ 89 + 130 * k = length-append own (flat_map row_text (take k rows)) ∙ omega (arith, many, some, taken) in
    let text : own ++ flat_map row_text rows ≡ front ++ (x ++ post) = ap (λ t. own ++ t) (split_at rows k lt) ∙ sym (append_assoc own (flat_map row_text (take k rows)) (x ++ post)) in
    piece_cut (own ++ flat_map row_text rows) k (omega (arith, many, all, long)) ∙ ap (λ t. slice_range t (89 + 130 * k) (89 + 130 * k + 130)) text
    ∙ slice_at front x post (89 + 130 * k) 130 at (length-row_text (get_or rows k no_row))

-- the whole_pieces of a written file are its rows' texts
pub pieces_of : (own : List ℕ) (rows : List Row) → length own ≡ 89 → whole_pieces (own ++ flat_map row_text rows) ≡ map row_text rows
pieces_of own rows many =
    let all = length-rows rows in
    let long = length-append own (flat_map row_text rows) in
    let same : length (whole_pieces (own ++ flat_map row_text rows)) ≡ length rows = length-pieces (own ++ flat_map row_text rows) ∙ omega (arith, many, all, long) in
    ext_get_or [] (whole_pieces (own ++ flat_map row_text rows)) (map row_text rows) (same ∙ sym (length-map rows row_text))
    (λ k lt. piece_of own rows k many (omega (arith, same, lt)) ∙ sym (get_or-map row_text rows k no_row [] (omega (arith, same, lt))))
