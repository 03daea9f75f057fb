-- What is kept of any first bytes of a result file with true planes has true planes, whatever the plan's rates.
use Rattle.std.proofs.Common.{◌≡◌, ℕ, ◌+◌, ◌-◌, ◌*◌, ◌/◌, ◌^◌, ◌<◌, ◌≤◌, Bool, true, false, List, [], ◌∷◌, ◌++◌, map, length, take, drop, get_or, refl, ap, sym, subst, ◌∙◌, ◌⊎◌, inl, inr, arith, length-append}
use Rattle.std.specs.Prelude.{All, Option, Some, None, Ok, Err, find, unwrap_or, option_map, ◌==◌, codes, flat_map, nat_lt, slice_range, if◌then◌else◌}
use Rattle.std.specs.Str.{bytes_eq}
use Rattle.std.specs.Option.{option_or}
use Rattle.std.proofs.lemmas.Bool.Decides.{nat_tests}
use Rattle.std.proofs.lemmas.List.{drop-take, take-take, length-take, length-map, get_or-map}
use Rattle.std.proofs.lemmas.List.Elements.{All-head, All-tail}
use Rattle.sha2.specs.Sha256.{sha256}
use Rattle.sha2.proofs.Facts256.{length-sha256}
use Rattle.fm_base.specs.Names.{Bytes}
use Rattle.fm_base.specs.Firsts.{first_fault}
use Rattle.fm_base.specs.Text.{hex}
use Rattle.fm_base.proofs.Digits.{length-hex}
use Rattle.fm_shelf.specs.Content.{Held}
use Rattle.campaign_plan.specs.declared.Outcome.{Outcome}
use Rattle.campaign_plan.specs.declared.PlanRefusal.TheVariants.{TooManyFaults}
use Rattle.campaign_plan.specs.Analysis.{Analysis, batch_count, fault_count}
use Rattle.campaign_plan.specs.Batches.{AreTrue, Entry, batches, true_planes}
use Rattle.campaign_plan.specs.PlanFaults.{idle_rate, missing_rate, plan_refusal}
use Rattle.result_file.specs.declared.KeptRows.{KeptRows}
use Rattle.result_file.specs.declared.Row.{Row}
use Rattle.result_file.specs.declared.RowFault.{RowFault}
use Rattle.result_file.specs.ResultText.{digest_text, entry_at, header_text, result_rows, result_text, row_at, row_text}
use Rattle.result_file.specs.KeptRows.{FitsLanes, entry_of, hex_value, is_torn_header, kept, kept_entries, kept_unless, row_fault, row_read, whole_pieces}
use Rattle.result_file.proofs.Keeping.{kept_foreign, kept_own, kept_torn}
use Rattle.result_file.proofs.Numbers.{hex_back}
use Rattle.result_file.proofs.Pieces.{length-pieces, piece_at}
use Rattle.result_file.proofs.RowBack.{row_words, word_b, word_d, word_n}
use Rattle.result_file.proofs.Whole.{length-rows, no_row, piece_of}
use Rattle.result_file.proofs.Words.{header_text_put}
use Rattle.result_file.proofs.WrittenBack.{length-result_rows, row_is}
use Rattle.campaign_run.specs.Found.{checkpointed_or_true, IsPart}
use Rattle.campaign_run.specs.Left.{LeftPrefix}
use Rattle.campaign_run.proofs.GoingOn.{true_entries_fit}

-- ---- what is kept

-- no row, or each whole piece of the file
rows_kept : (own : Bytes) (p : Analysis) (bytes : Bytes) (k : KeptRows) → kept own p bytes ≡ Ok k → (k.rows ≡ []) ⊎ (k.rows ≡ map row_read (whole_pieces bytes))
rows_kept own p bytes k is = by_torn (is_torn_header own bytes) refl
  where
    by_fault : (o : Option (ℕ × RowFault)) → kept_unless o (whole_pieces bytes) ≡ Ok k → k.rows ≡ map row_read (whole_pieces bytes)
    by_fault None e =
        let all : KeptRows = record { rows = map row_read (whole_pieces bytes); whole = 89 + 130 * length (whole_pieces bytes) } in
        let same : all ≡ k = cc in sym (ap (λ (it : KeptRows). it.rows) same)
    by_fault (Some bad) e = absurd (cc)

    by_head : (b : Bool) → is_torn_header own bytes ≡ false → bytes_eq (take 89 bytes) own ≡ b → (k.rows ≡ []) ⊎ (k.rows ≡ map row_read (whole_pieces bytes))
    by_head true long e = inr (by_fault (first_fault (row_fault p) (whole_pieces bytes)) (sym (kept_own own p bytes long e) ∙ is))
    by_head false long e = let refused = sym (kept_foreign own p bytes long e) ∙ is in absurd (cc)

    by_torn : (b : Bool) → is_torn_header own bytes ≡ b → (k.rows ≡ []) ⊎ (k.rows ≡ map row_read (whole_pieces bytes))
    by_torn true e =
        let none : KeptRows = record { rows = []; whole = 0 } in
        let both : Ok none ≡ Ok k = sym (kept_torn own p bytes e) ∙ is in
        let same : none ≡ k = cc in inl (sym (ap (λ (it : KeptRows). it.rows) same))
    by_torn false e = by_head (bytes_eq (take 89 bytes) own) e refl

-- ---- a piece of the first bytes

slice_taken : (xs : List ℕ) (n a b : ℕ) → a ≤ b → b ≤ n → slice_range (take n xs) a b ≡ slice_range xs a b
slice_taken xs n a b le within =
    let split : n ≡ a + (n - a) = omega arith in
    ap (λ m. take (b - a) (drop a (take m xs))) split ∙ ap (take (b - a)) (drop-take a (n - a) xs) ∙ take-take (b - a) (n - a) (drop a xs) (omega arith)

module _ (own : Bytes) (p : Analysis) (entries : List Entry) (n k : ℕ) (many : length own ≡ 89) (lt : k < (length (take n (result_text own p entries)) - 89) / 130) where
  abbrev text : Bytes
  text = result_text own p entries

  long : length text ≡ 89 + 130 * length entries
  long = length-append own _ ∙ omega (arith, many, length-rows (result_rows p entries), length-result_rows p entries)

  piece_within : k < length entries
  piece_within = omega (arith, lt, long, length-take n text)

  -- a whole piece is the text of its row
  piece_is : get_or (whole_pieces (take n text)) k [] ≡ row_text (row_at p entries k)
  piece_is =
      piece_at (take n text) k lt
      ∙ slice_taken text n (89 + 130 * k) (89 + 130 * (k + 1)) (omega arith) (omega (arith, lt, length-take n text))
      ∙ sym (piece_at text k (omega (arith, piece_within, long)))
      ∙ piece_of own (result_rows p entries) k many (omega (arith, piece_within, length-result_rows p entries))
      ∙ ap row_text (row_is p entries k piece_within)

-- ---- a row's batch and planes are read off its text

batch_back : (r : Row) → r.batch < 16 ^ 8 → hex_value (slice_range (row_text r) 2 10) ≡ r.batch
unfolding row_text
batch_back r lt = ap hex_value (word_b (hex 8 r.batch) (hex 16 r.danger) (hex 16 r.noticed) (hex 16 r.sums.permanent_all) (hex 16 r.sums.permanent_danger) (hex 16 r.sums.latent) (hex 16 r.sums.transient_all) (hex 16 r.sums.transient_danger) (row_words r)) ∙ hex_back 8 r.batch lt

danger_back : (r : Row) → r.danger < 16 ^ 16 → hex_value (slice_range (row_text r) 11 27) ≡ r.danger
unfolding row_text
danger_back r lt = ap hex_value (word_d (hex 8 r.batch) (hex 16 r.danger) (hex 16 r.noticed) (hex 16 r.sums.permanent_all) (hex 16 r.sums.permanent_danger) (hex 16 r.sums.latent) (hex 16 r.sums.transient_all) (hex 16 r.sums.transient_danger) (row_words r)) ∙ hex_back 16 r.danger lt

noticed_back : (r : Row) → r.noticed < 16 ^ 16 → hex_value (slice_range (row_text r) 28 44) ≡ r.noticed
unfolding row_text
noticed_back r lt = ap hex_value (word_n (hex 8 r.batch) (hex 16 r.danger) (hex 16 r.noticed) (hex 16 r.sums.permanent_all) (hex 16 r.sums.permanent_danger) (hex 16 r.sums.latent) (hex 16 r.sums.transient_all) (hex 16 r.sums.transient_danger) (row_words r)) ∙ hex_back 16 r.noticed lt

entry_back : (r : Row) → r.batch < 2 ^ 32 → r.danger < 2 ^ 64 → r.noticed < 2 ^ 64 → entry_of (row_read (row_text r)) ≡ entry_of r
entry_back r batch danger noticed =
    let b : hex_value (slice_range (row_text r) 2 10) ≡ r.batch = batch_back r (omega arith) in
    let d : hex_value (slice_range (row_text r) 11 27) ≡ r.danger = danger_back r (omega arith) in
    let n : hex_value (slice_range (row_text r) 28 44) ≡ r.noticed = noticed_back r (omega arith) in
    λ i. (b i, record { danger = d i; noticed = n i })

-- a plan has few batches
few_batches : (p : Analysis) → plan_refusal p ≡ None → batch_count p ≤ 2 ^ 32
unfolding plan_refusal
few_batches p none = by_test (nat_lt (2 ^ 20) (fault_count p)) refl
  where
    by_test : (many : Bool) → nat_lt (2 ^ 20) (fault_count p) ≡ many → batch_count p ≤ 2 ^ 32
    by_test true e =
        let some : Some TooManyFaults ≡ None = ap (λ b. if b then Some TooManyFaults else option_or (missing_rate p) (idle_rate p)) (sym e) ∙ none in absurd (cc)
    by_test false e = let few : fault_count p ≤ 2 ^ 20 = grind (arith, nat_tests) in omega (arith, few)

-- ---- so what is kept is true

abbrev no_entry : Entry
no_entry = (0, record { danger = 0; noticed = 0 })

module _ (own : Bytes) (p : Analysis) (entries : List Entry) (n : ℕ) (many : length own ≡ 89) (rated : plan_refusal p ≡ None) (part : IsPart p (true_planes p) entries) where
  abbrev pieces : List Bytes
  pieces = whole_pieces (take n (result_text own p entries))

  entry_read : (k : ℕ) → k < length pieces → (entry_of (row_read (get_or pieces k [])) ≡ entry_at entries k) × (k < length entries)
  entry_read k lt =
      let under : k < (length (take n (result_text own p entries)) - 89) / 130 = omega (arith, lt, length-pieces (take n (result_text own p entries))) in
      let within = piece_within own p entries n k many under in
      let fits = true_entries_fit p entries part.have k no_entry within in
      let batch_is : get_or (batches entries) k 0 ≡ (entry_at entries k).0 = get_or-map (λ (e : Entry). e.0) entries k no_entry 0 within in
      let batch = part.distinct.within k 0 (omega (arith, within, length-map entries (λ (e : Entry). e.0))) in
      let few = few_batches p rated in
      let small : (entry_at entries k).0 < 2 ^ 32 = omega (arith, batch, batch_is, few) in (
        ap (λ piece. entry_of (row_read piece)) (piece_is own p entries n k many under) ∙ entry_back (row_at p entries k) small fits.danger fits.noticed,
        within,
      )

  rows_true : AreTrue p (map entry_of (map row_read pieces))
  rows_true = λ k d lt.
      let first : k < length pieces = omega (arith, lt, length-map (map row_read pieces) entry_of, length-map pieces row_read) in
      let second : k < length (map row_read pieces) = omega (arith, first, length-map pieces row_read) in
      let own_entry = entry_read k first in
      let is : get_or (map entry_of (map row_read pieces)) k d ≡ entry_at entries k =
      get_or-map entry_of (map row_read pieces) k no_row d second ∙ ap entry_of (get_or-map row_read pieces k [] no_row first) ∙ own_entry.0 in
      subst (λ (e : Entry). e.1 ≡ true_planes p e.0) (sym is) (part.have k no_entry own_entry.1)

-- A BYTE PREFIX OF TRUE ROWS KEEPS TRUE ROWS
pub prefix_true : (own : Bytes) (p : Analysis) (bytes : Bytes) (k : KeptRows) → length own ≡ 89 → plan_refusal p ≡ None
    → LeftPrefix own p (true_planes p) (Held bytes) → kept own p bytes ≡ Ok k → AreTrue p (kept_entries k)
prefix_true own p bytes k many rated left is = by_rows (rows_kept own p bytes k is)
  where
    by_rows : (k.rows ≡ []) ⊎ (k.rows ≡ map row_read (whole_pieces bytes)) → AreTrue p (kept_entries k)
    by_rows (inl none) = subst (λ (rows : List Row). AreTrue p (map entry_of rows)) (sym none) (λ i d lt. absurd (omega arith))
    by_rows (inr all) =
        subst (λ (rows : List Row). AreTrue p (map entry_of rows)) (sym (all ∙ ap (λ bs. map row_read (whole_pieces bs)) left.prefix.1))
        (rows_true own p left.entries left.prefix.0 many rated left.part)

-- ---- and a campaign that goes on from it finds the true planes

-- the planes of the first entry of a batch, or else its true ones
abbrev found : Analysis → List Entry → ℕ → Outcome
found p entries batch = unwrap_or (option_map (λ entry. entry.1) (find (λ entry. entry.0 == batch) entries)) (true_planes p batch)

true_found : (p : Analysis) (entries : List Entry) (batch : ℕ) → AreTrue p entries → found p entries batch ≡ true_planes p batch
true_found p [] batch are = refl
true_found p (entry ∷ entries) batch are =
    by_test (entry.0 == batch) refl (true_found p entries batch (All-tail (λ e. e.1 ≡ true_planes p e.0) entry entries are))
  where
    by_test : (here : Bool) → (entry.0 == batch) ≡ here → found p entries batch ≡ true_planes p batch → found p (entry ∷ entries) batch ≡ true_planes p batch
    by_test true e rest =
        let same : entry.0 ≡ batch = grind (arith, nat_tests) in
        rw e (All-head (λ e. e.1 ≡ true_planes p e.0) entry entries are ∙ ap (true_planes p) same)
    by_test false e rest = rw e rest

pub found_true : (p : Analysis) (k : KeptRows) → AreTrue p (kept_entries k) → checkpointed_or_true p k ≡ true_planes p
found_true p k are = λ j batch. true_found p (kept_entries k) batch are j

-- ---- a header is 89 bytes

length-digits : (bytes : List ℕ) → length (flat_map (hex 2) bytes) ≡ 2 * length bytes
length-digits [] = refl
length-digits (b ∷ bytes) =
    let rest = length-digits bytes in
    length-append (hex 2 b) (flat_map (hex 2) bytes) ∙ omega (arith, rest, length-hex 2 b)

pub length-header : (bytes : Bytes) (batches : ℕ) → length (header_text (sha256 bytes) batches) ≡ 89
length-header bytes batches =
    let digits : length (digest_text (sha256 bytes)) ≡ 64 = length-digits (sha256 bytes) ∙ omega (arith, length-sha256 bytes) in
    let last : length (hex 8 batches) ≡ 8 = length-hex 8 batches in
    let start : length (codes "fmeda-result 1 ") ≡ 15 = refl in
    ap length (header_text_put (sha256 bytes) batches) ∙ simp length-append (omega (arith, digits, last, start))
