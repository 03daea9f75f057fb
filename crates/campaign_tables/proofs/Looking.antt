-- The rows of nets and of latches, in the words of the table.
use Rattle.std.proofs.Common.{◌≡◌, ◌∙◌, ap, ap₂, sym, refl, subst, ℕ, ◌+◌, ◌<◌, Bool, false, cond, List, [], ◌∷◌, ◌++◌, length, map, take, get_or, add-one, append_assoc, arith}
use Rattle.std.specs.Prelude.{count_by, find, Option, Some, None, is_none, IfSome, codes}
use Rattle.std.proofs.lemmas.List.{get_or-map, length-map, map-append, take_more}
use Rattle.std.proofs.lemmas.List.Sums.{sum_by-cons}
use Rattle.std.proofs.lemmas.List.FromFn.{length-map-range_with_len, get_or-map-range_with_len}
use Rattle.std.proofs.lemmas.List.Quantifiers.{position-Some}
use Rattle.std.proofs.lemmas.Option.{slice_get-get_or, slice_get_within}
use Rattle.circuit.specs.Circuit.{Circuit}
use Rattle.circuit.specs.Names.{net_name}
use Rattle.circuit.specs.Sound.{IsNetlist}
use Rattle.circuit.specs.declared.parts.Latch.{Latch}
use Rattle.fm_base.specs.Lists.{below}
use Rattle.fm_base.specs.Names.{Bytes}
use Rattle.fm_base.specs.Text.{line}
use Rattle.fm_base.proofs.Below.{map-below}
use Rattle.rate_table.specs.declared.Pattern.{Pattern}
use Rattle.rate_table.specs.Table.{RateTable, matches}
use Rattle.campaign_tables.specs.PartTable.{row_of_net}
use Rattle.campaign_tables.specs.PartSteps.{is_at_row, is_unmatched, net_numbers, row_takes}
use Rattle.campaign_tables.specs.Counted.{latch_rows, net_rows, row_in_list, AreRowCounts, AreFirsts, AreRowsBelow}
use Rattle.campaign_tables.proofs.Counting.{find_same, has_row}

-- ---- one net, or one latch, more

pub rows_push : (f : ℕ → Option ℕ) (n : ℕ) (rows : List (Option ℕ)) (row : Option ℕ) → rows ≡ map f (below n) → row ≡ f n → rows ++ row ∷ [] ≡ map f (below (n + 1))
rows_push f n rows row e here = ap₂ (λ rs r. rs ++ r ∷ []) e here ∙ sym (ap (λ k. map f (below k)) (add-one n) ∙ map-below f n)

pub latches_push : {X Y : Type 0} (g : X → Y) (xs : List X) (i : ℕ) (d : X) (rows : List Y) (row : Y) → i < length xs → rows ≡ map g (take i xs)
    → row ≡ g (get_or xs i d) → rows ++ row ∷ [] ≡ map g (take (i + 1) xs)
latches_push g xs i d rows row lt e here =
    ap₂ (λ rs r. rs ++ r ∷ []) e here ∙ sym (ap (map g) (take_more xs i d lt) ∙ map-append g (take i xs) (get_or xs i d ∷ []))

pub latch_within : (c : Circuit) → IsNetlist c → (q : ℕ) (d : Latch) → q < length c.latches → (get_or c.latches q d).to.0 < length c.drivers
latch_within c sound q d lt =
    slice_get_within c.drivers (get_or c.latches q d).to.0 _ (sound.latches q (get_or c.latches q d) (slice_get-get_or c.latches q d lt))

count_map : {X Y : Type 0} (test : Y → Bool) (f : X → Y) (xs : List X) → count_by test (map f xs) ≡ count_by (λ x. test (f x)) xs
count_map test f [] = refl
count_map test f (x ∷ xs) =
    omega (
      arith,
      sum_by-cons (λ y. cond (test y) 1 0) (f x) (map f xs),
      sum_by-cons (λ y. cond (test (f y)) 1 0) x xs,
      count_map test f xs,
    )

abbrev pub no_latch : Latch
no_latch = record { from = record { 0 = 0 }; to = record { 0 = 0 }; start = false }

no_pattern : Pattern
no_pattern = record { name = []; star = false; part = 0 }

module _ (c : Circuit) (table : RateTable) where
  pub length_rows : length (net_rows c table) ≡ length c.drivers
  unfolding below
  length_rows = length-map-range_with_len (row_of_net c table) 0 (length c.drivers)

  pub row_there : (net : ℕ) → net < length c.drivers → row_in_list (net_rows c table) net ≡ row_of_net c table net
  unfolding below
  row_there net lt = get_or-map-range_with_len (row_of_net c table) 0 (length c.drivers) net net None lt (omega arith)

  pub row_within : (net : ℕ) → IfSome (row_of_net c table net) (λ k. k < length table.patterns)
  row_within net = by_row (row_of_net c table net) refl
    where
      by_row : (o : Option ℕ) → row_of_net c table net ≡ o → IfSome o (λ k. k < length table.patterns)
      by_row None e = tt
      by_row (Some k) e = (position-Some (λ pattern. matches pattern (net_name c net)) table.patterns k no_pattern e).0

  pub net_rows_below : AreRowsBelow (length table.patterns) (net_rows c table)
  unfolding below
  net_rows_below i d lt =
      let within : i < length c.drivers = omega (arith, lt, length_rows) in
      let P : Option ℕ → Type 0 = λ row. IfSome row (λ k. k < length table.patterns) in
      subst P (sym (get_or-map-range_with_len (row_of_net c table) 0 (length c.drivers) i i d within (omega arith))) (row_within i)

  pub latch_rows_below : AreRowsBelow (length table.patterns) (latch_rows c table)
  latch_rows_below i d lt =
      let within : i < length c.latches = omega (arith, lt, length-map c.latches (λ (latch : Latch). row_of_net c table latch.to.0)) in
      let P : Option ℕ → Type 0 = λ row. IfSome row (λ k. k < length table.patterns) in
      let latch : Latch = get_or c.latches i (record { from = record { 0 = 0 }; to = record { 0 = 0 }; start = false }) in
      subst P (sym (get_or-map (λ (l : Latch). row_of_net c table l.to.0) c.latches i (record { from = record { 0 = 0 }; to = record { 0 = 0 }; start = false }) d within)) (row_within latch.to.0)

  -- ---- what is counted, in the words of the table

  pub net_count : (counts : List ℕ) (k : ℕ) → AreRowCounts (length table.patterns) (net_rows c table) counts → k < length table.patterns
      → get_or counts k 0 ≡ count_by (row_takes c table k) (net_numbers c)
  net_count counts k are lt = are.each k lt ∙ count_map (is_at_row k) (row_of_net c table) (net_numbers c)

  pub latch_count : (counts : List ℕ) (k : ℕ) → AreRowCounts (length table.patterns) (latch_rows c table) counts → k < length table.patterns
      → get_or counts k 0 ≡ count_by (λ latch. row_takes c table k latch.to.0) c.latches
  latch_count counts k are lt = are.each k lt ∙ count_map (is_at_row k) (λ (latch : Latch). row_of_net c table latch.to.0) c.latches

  pub first_net : (firsts : List (Option ℕ)) (k : ℕ) → AreFirsts (length table.patterns) (length c.drivers) (net_rows c table) firsts → k < length table.patterns
      → row_in_list firsts k ≡ find (row_takes c table k) (net_numbers c)
  first_net firsts k are lt =
      are.each k lt ∙ find_same (has_row (net_rows c table) k) (row_takes c table k) (length c.drivers) (λ net less. ap (is_at_row k) (row_there net less))

  pub unmatched_count : count_by is_none (net_rows c table) ≡ count_by (is_unmatched c table) (net_numbers c)
  unmatched_count = count_map is_none (row_of_net c table) (net_numbers c)

  pub first_unmatched : find (λ i. is_none (row_in_list (net_rows c table) i)) (below (length (net_rows c table))) ≡ find (is_unmatched c table) (net_numbers c)
  first_unmatched =
      ap (λ n. find (λ i. is_none (row_in_list (net_rows c table) i)) (below n)) length_rows
      ∙ find_same (λ i. is_none (row_in_list (net_rows c table) i)) (is_unmatched c table) (length c.drivers) (λ net less. ap is_none (row_there net less))

-- ---- the pieces of a line

pub row_pieces : (name star : Bytes) (rest : List Bytes)
    → (codes "pattern " ++ (name ++ (star ++ 32 ∷ []))) ++ line (codes "part" ∷ rest) ≡ line (codes "pattern" ∷ (name ++ star) ∷ codes "part" ∷ rest)
row_pieces name star rest = simp append_assoc refl
