-- What was written is read back.
use Rattle.std.proofs.Common.{◌≡◌, ◌≢◌, ℕ, zero, suc, ◌+◌, ◌*◌, ◌^◌, ◌<◌, ◌≤◌, true, false, ◌||◌, ◌&&◌, List, [], ◌∷◌, ◌++◌, map, length, take, get_or, refl, ap, sym, subst, ◌∙◌, arith, length-append}
use Rattle.std.specs.Prelude.{None, Ok, nat_lt, nat_eq, ◌==◌, flat_map}
use Rattle.std.specs.List.{list_any, starts_with}
use Rattle.std.specs.Str.{bytes_eq}
use Rattle.std.proofs.lemmas.List.{take_more, take-map, take_all, length-map, get_or-map, ext_get_or, take_at}
use Rattle.std.proofs.lemmas.List.FromFn.{length-map-range_with_len, get_or-map-range_with_len}
use Rattle.std.proofs.lemmas.Bool.Decides.{nat_tests}
use Rattle.std.proofs.lemmas.Slice.Eq.{bytes_eq-Decides}
use Rattle.metric_sums.specs.declared.Sums.{Sums}
use Rattle.metric_sums.specs.Totals.{same_sums}
use Rattle.fm_base.specs.Lists.{below}
use Rattle.fm_base.specs.Firsts.{first_fault}
use Rattle.fm_base.specs.Once.{Lacks, IsOnce}
use Rattle.std.specs.Prelude.{Some, Bool, if◌then◌else◌}
use Rattle.std.specs.Option.{option_or}
use Rattle.campaign_plan.specs.declared.PlanRefusal.TheVariants.{TooManyFaults}
use Rattle.campaign_plan.specs.PlanFaults.{plan_refusal, missing_rate, idle_rate}
use Rattle.campaign_plan.proofs.Small.{small_sums}
use Rattle.campaign_plan.specs.Analysis.{Analysis, fault_count, batch_count}
use Rattle.campaign_plan.specs.Batches.{Entry, total, batches}
use Rattle.result_file.specs.declared.Row.{Row}
use Rattle.result_file.specs.ResultText.{row_text, row_at, result_rows, entry_at, result_text}
use Rattle.result_file.specs.KeptRows.{ReadsBack, kept, kept_unless, whole_pieces, row_read, row_fault, entry_of, is_torn_header, FitsLanes}
use Rattle.metric_sums.specs.Totals.{AreSmall}
use Rattle.campaign_plan.specs.Batches.{AreDistinct}
use Rattle.result_file.specs.Reading.{HasSmallSums}
use Rattle.result_file.proofs.RowBack.{FitsRow, row_back, row_has_form}
use Rattle.result_file.proofs.Checks.{once_more}
use Rattle.result_file.proofs.CheckSteps.{says_none}
use Rattle.result_file.proofs.Pieces.{HasRead, read_none, read_more, read_all}
use Rattle.result_file.proofs.Keeping.{kept_own}
use Rattle.result_file.proofs.Whole.{no_row, length-rows, pieces_of}
use Rattle.std.proofs.lemmas.Bool.{eq-eqb}

pub length-result_rows : (p : Analysis) (entries : List Entry) → length (result_rows p entries) ≡ length entries
unfolding result_rows below
length-result_rows p entries = length-map-range_with_len (row_at p entries) 0 (length entries)

pub row_is : (p : Analysis) (entries : List Entry) (k : ℕ) → k < length entries → get_or (result_rows p entries) k no_row ≡ row_at p entries k
unfolding result_rows below
row_is p entries k lt = get_or-map-range_with_len (row_at p entries) 0 (length entries) k k no_row lt (omega arith)

no_entry : Entry
no_entry = (0, record { danger = 0; noticed = 0 })

-- the rows have the entries
pub entries_are : (p : Analysis) (entries : List Entry) → map entry_of (result_rows p entries) ≡ entries
unfolding no_entry
entries_are p entries =
    let many = length-result_rows p entries in
    ext_get_or no_entry (map entry_of (result_rows p entries)) entries (length-map (result_rows p entries) entry_of ∙ many)
    (λ k lt. (let below_ : k < length entries = omega (arith, lt, length-map (result_rows p entries) entry_of, many) in
    get_or-map entry_of (result_rows p entries) k no_row no_entry (omega (arith, below_, many)) ∙ ap entry_of (row_is p entries k below_)))

lacks_at : (xs : List ℕ) (x k : ℕ) → Lacks xs x → k < length xs → get_or xs k 0 ≢ x
lacks_at [] x k h lt = absurd (omega arith)
lacks_at (y ∷ xs) x zero h lt = h.0
lacks_at (y ∷ xs) x (suc k) h lt = lacks_at xs x k h.1 (omega arith)

fresh_at : (xs : List ℕ) (k : ℕ) → IsOnce xs → k < length xs → Lacks (take k xs) (get_or xs k 0)
fresh_at [] k h lt = absurd (omega arith)
fresh_at (x ∷ xs) zero h lt = tt
fresh_at (x ∷ xs) (suc k) h lt = (λ e. lacks_at xs x k h.0 (omega arith) (sym e), fresh_at xs k h.1 (omega arith))

not_any : (rows : List Row) (batch : ℕ) → Lacks (map (λ (r : Row). r.batch) rows) batch → list_any (λ earlier. earlier.batch == batch) rows ≡ false
not_any [] batch h = refl
not_any (row ∷ rows) batch h =
    let ne : row.batch ≢ batch = h.0 in
    let first : (row.batch == batch) ≡ false = grind (arith, nat_tests) in
    ap (λ b. b || list_any (λ earlier. earlier.batch == batch) rows) first ∙ not_any rows batch h.1

same_refl : (s : Sums) → same_sums s s ≡ true
same_refl s = rw ((eq-eqb s.permanent_all s.permanent_all refl), (eq-eqb s.permanent_danger s.permanent_danger refl), (eq-eqb s.latent s.latent refl), (eq-eqb s.transient_all s.transient_all refl), (eq-eqb s.transient_danger s.transient_danger refl)) refl

-- the batches of the first rows
front_batches : (p : Analysis) (entries : List Entry) (k : ℕ) → map (λ (r : Row). r.batch) (take k (result_rows p entries)) ≡ take k (batches entries)
front_batches p entries k =
    sym (take-map (λ (r : Row). r.batch) k (result_rows p entries))
    ∙ ap (take k) (sym (map-twice (result_rows p entries)) ∙ ap batches (entries_are p entries))
  where
    map-twice : (rows : List Row) → batches (map entry_of rows) ≡ map (λ (r : Row). r.batch) rows
    map-twice [] = refl
    map-twice (row ∷ rows) = ap (λ bs. row.batch ∷ bs) (map-twice rows)

pub walks : (p : Analysis) (entries : List Entry) (k : ℕ) → HasSmallSums p → batch_count p ≤ 2 ^ 32 → AreDistinct p entries
    → ((i : ℕ) → i < length entries → FitsLanes p (entry_at entries i)) → k ≤ length entries
    → HasRead p (map row_text (result_rows p entries)) k (take k (result_rows p entries)) (total p (map entry_of (take k (result_rows p entries))))
walks p entries zero small few once lanes le = read_none p (map row_text (result_rows p entries)) [] (total p []) refl refl
walks p entries (suc k) small few once lanes le =
    let rows : List Row = result_rows p entries in
    let row : Row = row_at p entries k in
    let lt : k < length entries = omega arith in
    let many = length-result_rows p entries in
    let below_ : k < length rows = omega (arith, lt, many) in
    let before = walks p entries k small few once lanes (omega arith) in
    let is : get_or rows k no_row ≡ row = row_is p entries k lt in
    let front : take (k + 1) rows ≡ take k rows ++ row ∷ [] = take_more rows k no_row below_ ∙ ap (λ r. take k rows ++ r ∷ []) is in
    let batch_is : get_or (batches entries) k 0 ≡ row.batch = get_or-map (λ (e : Entry). e.0) entries k (0, record { danger = 0; noticed = 0 }) 0 lt in
    let len : length (batches entries) ≡ length entries = length-map entries (λ (e : Entry). e.0) in
    let within : row.batch < batch_count p = subst (λ b. b < batch_count p) batch_is (once.within k 0 (omega (arith, lt, len))) in
    let lacks : Lacks (map (λ (r : Row). r.batch) (take k rows)) row.batch =
    subst (λ bs. Lacks bs row.batch) (sym (front_batches p entries k)) (subst (Lacks (take k (batches entries))) batch_is (fresh_at (batches entries) k once.once (omega (arith, lt, len)))) in
    let fresh = not_any (take k rows) row.batch lacks in
    let once_now = once_more p (take k rows) row before.once within fresh in
    let entries_now : map entry_of (take k rows ++ row ∷ []) ≡ take (k + 1) entries =
    ap (map entry_of) (sym front) ∙ sym (take-map entry_of (k + 1) rows) ∙ ap (take (k + 1)) (entries_are p entries) in
    let sums : row.sums ≡ total p (map entry_of (take k rows ++ row ∷ [])) = ap (total p) (sym entries_now) in
    let tiny : AreSmall row.sums = subst AreSmall (sym sums) (small (map entry_of (take k rows ++ row ∷ [])) once_now) in
    let lane = lanes k lt in
    let fits : FitsRow row = record {
      batch = omega (arith, within, few);
      danger = lane.danger;
      noticed = lane.noticed;
      permanent_all = omega (arith, tiny.permanent_all);
      permanent_danger = omega (arith, tiny.permanent_danger);
      latent = omega (arith, tiny.latent);
      transient_all = omega (arith, tiny.transient_all);
      transient_danger = omega (arith, tiny.transient_danger);
    } in
    let back : row ≡ row_read (row_text row) = sym (row_back row fits) in
    let fine = says_none p (take k rows) (row_text row) row row.sums back (row_has_form row fits) within fresh lane.unused sums (same_refl row.sums) in
    let at : get_or (map row_text rows) k [] ≡ row_text row = get_or-map row_text rows k no_row [] below_ ∙ ap row_text is in
    let long : k < length (map row_text rows) = omega (arith, below_, length-map rows row_text) in
    let next = read_more p (map row_text rows) k (take k rows) (total p (map entry_of (take k rows))) (row_text row) row before long at back fine sums once_now in
    let succ : k + 1 ≡ suc k = omega arith in
    let P : List Row → Sums → Type 0 = λ rs s. HasRead p (map row_text rows) (suc k) rs s in
    let next_suc : HasRead p (map row_text rows) (suc k) (take k rows ++ row ∷ []) row.sums = subst (λ n. HasRead p (map row_text rows) n (take k rows ++ row ∷ []) row.sums) succ next in
    let front_suc : take k rows ++ row ∷ [] ≡ take (suc k) rows = sym front ∙ ap (λ n. take n rows) succ in
    subst (λ s. P (take (suc k) rows) s) (sums ∙ ap (λ rs. total p (map entry_of rs)) front_suc) (subst (λ rs. P rs row.sums) front_suc next_suc)

not_less : (a b : ℕ) → b ≤ a → nat_lt a b ≡ false
not_less a b le = grind (arith, nat_tests)

-- WHAT WAS WRITTEN IS READ BACK, whole
pub reads_back : (own : List ℕ) (p : Analysis) (entries : List Entry) → length own ≡ 89 → HasSmallSums p → batch_count p ≤ 2 ^ 32 → AreDistinct p entries
    → ((i : ℕ) → i < length entries → FitsLanes p (entry_at entries i))
    → kept own p (result_text own p entries) ≡ Ok (record { rows = result_rows p entries; whole = length (result_text own p entries) })
reads_back own p entries many small few once lanes =
    let rows : List Row = result_rows p entries in
    let text : List ℕ = flat_map row_text rows in
    let bytes : List ℕ = own ++ text in
    let ps : List (List ℕ) = map row_text rows in
    let count = length-result_rows p entries in
    let long : length bytes ≡ 89 + 130 * length rows = length-append own text ∙ omega (arith, many, length-rows rows) in
    let torn : is_torn_header own bytes ≡ false = ap (λ b. b && starts_with nat_eq own bytes) (not_less (length bytes) 89 (omega (arith, long))) in
    let head : take 89 bytes ≡ own = take_at own text 89 many in
    let same : bytes_eq (take 89 bytes) own ≡ true = (bytes_eq-Decides (take 89 bytes) own).1 head in
    let cut : whole_pieces bytes ≡ ps = pieces_of own rows many in
    let end = length entries in
    let walk = walks p entries end small few once lanes (omega arith) in
    let done = read_all p ps end (take end rows) (total p (map entry_of (take end rows))) walk (omega (arith, count, length-map rows row_text)) in
    let all : take end rows ≡ rows = take_all end rows (omega (arith, count)) in
    let none : first_fault (row_fault p) (whole_pieces bytes) ≡ None = ap (first_fault (row_fault p)) cut ∙ done.0 in
    kept_own own p bytes torn same ∙ ap (λ found. kept_unless found (whole_pieces bytes)) none ∙ ap (kept_unless None) cut
    ∙ ap (λ (rs : List Row). Ok (record { rows = rs; whole = 89 + 130 * length ps })) (sym done.1 ∙ all)
    ∙ ap (λ n. Ok (record { rows = rows; whole = n })) (omega (arith, long, length-map rows row_text))

-- a plan has few batches
few_batches : (p : Analysis) → plan_refusal p ≡ None → batch_count p ≤ 2 ^ 32
unfolding plan_refusal
few_batches p h = go (nat_lt (2 ^ 20) (fault_count p)) refl
  where
    go : (many : Bool) → nat_lt (2 ^ 20) (fault_count p) ≡ many → batch_count p ≤ 2 ^ 32
    go true e = absurd (too_many e)
      where
        too_many : nat_lt (2 ^ 20) (fault_count p) ≡ true → ⊥
        too_many e = let some : Some TooManyFaults ≡ None = ap (λ b. if b then Some TooManyFaults else option_or (missing_rate p) (idle_rate p)) (sym e) ∙ h in absurd (cc)
    go false e = let few : fault_count p ≤ 2 ^ 20 = grind (arith, nat_tests) in omega (arith, few)

-- the same as the law says it, of each plan
pub reads_back_of : ReadsBack
reads_back_of p plan own entries many once lanes =
    reads_back own p entries many (small_sums p plan) (few_batches p plan.rated) once (λ i lt. lanes i (0, record { danger = 0; noticed = 0 }) lt)
