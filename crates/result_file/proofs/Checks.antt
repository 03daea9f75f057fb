-- The checks of a row.
use Rattle.std.proofs.Common.{◌≡◌, ◌≢◌, ℕ, ◌<◌, Bool, true, false, not, List, [], ◌∷◌, ◌++◌, map, refl, ap, sym, subst, ◌∙◌, arith}
use Rattle.std.specs.Prelude.{Some, None, ◌==◌, All}
use Rattle.std.specs.List.{list_any}
use Rattle.std.proofs.lemmas.List.{map-append}
use Rattle.std.proofs.lemmas.List.Elements.{All-push}
use Rattle.std.proofs.lemmas.Bool.Decides.{nat_tests}
use Rattle.metric_sums.specs.declared.Sums.{Sums}
use Rattle.metric_sums.specs.Totals.{plus, same_sums}
use Rattle.fm_base.specs.Firsts.{given, first_answer}
use Rattle.fm_base.specs.Once.{Lacks, IsOnce}
use Rattle.fm_base.proofs.OnceLists.{once_push}
use Rattle.campaign_plan.proofs.Running.{total_push}
use Rattle.campaign_plan.specs.Analysis.{Analysis, batch_count}
use Rattle.campaign_plan.specs.Batches.{Entry, total, own_sums, batches}
use Rattle.result_file.specs.declared.Row.{Row}
use Rattle.result_file.specs.declared.RowFault.{RowFault}
use Rattle.result_file.specs.declared.RowFault.TheVariants as why
use Rattle.result_file.specs.KeptRows.{entry_of}
use Rattle.metric_sums.specs.Totals.{AreSmall}
use Rattle.campaign_plan.specs.Batches.{AreDistinct}
use Rattle.result_file.specs.Reading.{HasSmallSums}
use Rattle.std.proofs.lemmas.Bool.{and_parts, or_parts}

pub lacks_of : (rows : List Row) (batch : ℕ) → list_any (λ earlier. earlier.batch == batch) rows ≡ false → Lacks (map (λ (r : Row). r.batch) rows) batch
lacks_of [] batch h = tt
lacks_of (row ∷ rows) batch h =
    let parts = or_parts (row.batch == batch) (list_any (λ earlier. earlier.batch == batch) rows) h in
    let first : (row.batch == batch) ≡ false = parts.0 in
    let ne : row.batch ≢ batch = grind (arith, nat_tests) in
    (ne, lacks_of rows batch parts.1)

batches_are : (rows : List Row) → batches (map entry_of rows) ≡ map (λ (r : Row). r.batch) rows
batches_are [] = refl
batches_are (row ∷ rows) = ap (λ bs. row.batch ∷ bs) (batches_are rows)

-- one more row of a batch that wasn't there
pub once_more : (p : Analysis) (rows : List Row) (row : Row) → AreDistinct p (map entry_of rows) → row.batch < batch_count p
    → list_any (λ earlier. earlier.batch == row.batch) rows ≡ false → AreDistinct p (map entry_of (rows ++ row ∷ []))
once_more p rows row h lt fresh =
    let bs : List ℕ = batches (map entry_of rows) in
    let now : batches (map entry_of (rows ++ row ∷ [])) ≡ bs ++ row.batch ∷ [] =
    ap batches (map-append entry_of rows (row ∷ [])) ∙ map-append (λ (e : Entry). e.0) (map entry_of rows) (entry_of row ∷ []) in
    let lacks : Lacks bs row.batch = subst (λ xs. Lacks xs row.batch) (sym (batches_are rows)) (lacks_of rows row.batch fresh) in
    record {
      within = subst (All (λ b. b < batch_count p)) (sym now) (All-push (λ b. b < batch_count p) bs row.batch h.within lt);
      once = subst IsOnce (sym now) (once_push bs row.batch h.once lacks);
    }

pub sums_more : (p : Analysis) (rows : List Row) (row : Row) (sums own : Sums) → sums ≡ total p (map entry_of rows) → own ≡ own_sums p (entry_of row).0 (entry_of row).1
    → plus sums own ≡ total p (map entry_of (rows ++ row ∷ []))
sums_more p rows row sums own e f =
    ap (λ s. plus s own) e ∙ ap (plus (total p (map entry_of rows))) f ∙ sym (total_push p (map entry_of rows) (entry_of row))
    ∙ ap (total p) (sym (map-append entry_of rows (row ∷ [])))

pub small_more : (p : Analysis) (rows : List Row) (row : Row) (sums own : Sums) → HasSmallSums p → AreDistinct p (map entry_of rows) → row.batch < batch_count p
    → list_any (λ earlier. earlier.batch == row.batch) rows ≡ false → sums ≡ total p (map entry_of rows) → own ≡ own_sums p (entry_of row).0 (entry_of row).1
    → AreSmall (plus sums own)
small_more p rows row sums own small h lt fresh e f =
    subst AreSmall (sym (sums_more p rows row sums own e f)) (small (map entry_of (rows ++ row ∷ [])) (once_more p rows row h lt fresh))

-- the tests of a row, in order
pub repeated : (form range again lane same : Bool) (sums : RowFault) → form ≡ true → range ≡ false → again ≡ true
    → first_answer (given (not form) why.Form ∷ given range why.Range ∷ given again why.Repeated ∷ given lane why.UnusedLane ∷ given (not same) sums ∷ []) ≡ Some why.Repeated
repeated form range again lane same sums a b c = rw (a, b, c) refl

pub unused : (form range again lane same : Bool) (sums : RowFault) → form ≡ true → range ≡ false → again ≡ false → lane ≡ true
    → first_answer (given (not form) why.Form ∷ given range why.Range ∷ given again why.Repeated ∷ given lane why.UnusedLane ∷ given (not same) sums ∷ []) ≡ Some why.UnusedLane
unused form range again lane same sums a b c d = rw (a, b, c, d) refl

pub other_sums : (form range again lane same : Bool) (sums : RowFault) → form ≡ true → range ≡ false → again ≡ false → lane ≡ false → same ≡ false
    → first_answer (given (not form) why.Form ∷ given range why.Range ∷ given again why.Repeated ∷ given lane why.UnusedLane ∷ given (not same) sums ∷ []) ≡ Some sums
other_sums form range again lane same sums a b c d e = rw (a, b, c, d, e) refl

pub no_fault : (form range again lane same : Bool) (sums : RowFault) → form ≡ true → range ≡ false → again ≡ false → lane ≡ false → same ≡ true
    → first_answer (given (not form) why.Form ∷ given range why.Range ∷ given again why.Repeated ∷ given lane why.UnusedLane ∷ given (not same) sums ∷ []) ≡ None
no_fault form range again lane same sums a b c d e = rw (a, b, c, d, e) refl

equal : (a b : ℕ) → (a == b) ≡ true → a ≡ b
equal a b h = grind (arith, nat_tests)

pub sums_equal : (a b : Sums) → same_sums a b ≡ true → a ≡ b
sums_equal a b h =
    let h4 = and_parts _ _ h in let h3 = and_parts _ _ h4.0 in let h2 = and_parts _ _ h3.0 in let h1 = and_parts _ _ h2.0 in
    λ i. record {
      permanent_all = equal a.permanent_all b.permanent_all h1.0 i;
      permanent_danger = equal a.permanent_danger b.permanent_danger h1.1 i;
      latent = equal a.latent b.latent h2.1 i;
      transient_all = equal a.transient_all b.transient_all h3.1 i;
      transient_danger = equal a.transient_danger b.transient_danger h4.1 i;
    }
