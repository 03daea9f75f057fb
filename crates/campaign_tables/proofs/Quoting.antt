-- Pieces of a field, and the field that they make; fields of a row, and the row.
use Rattle.std.proofs.Common.{◌≡◌, ◌∙◌, ap, ap₂, sym, refl, ℕ, ◌%◌, Bool, true, false, List, [], ◌∷◌, ◌++◌, Bor, map}
use Rattle.std.specs.Prelude.{◌||◌}
use Rattle.std.specs.List.{flat_map, list_any, join_with_byte}
use Rattle.std.proofs.lemmas.List.{append-nil}
use Rattle.std.proofs.lemmas.Grind.{flat_map-append}
use Rattle.std.proofs.lemmas.List.Folds.{list_any-append}
use Rattle.fm_base.specs.Names.{Bytes}
use Rattle.fm_base.specs.Planes.{bit}
use Rattle.fault_list.specs.Faults.{fault_name}
use Rattle.fault_list.proofs.Numbers.{lane_back}
use Rattle.campaign_plan.specs.declared.Outcome.{Outcome}
use Rattle.campaign_plan.specs.Analysis.{Analysis, fault_numbered}
use Rattle.campaign_plan.specs.Batches.{class_with}
use Rattle.campaign_tables.specs.Csv.{csv_field}
use Rattle.campaign_tables.specs.FaultSteps.{between_quotes, calls_for_quotes, fields_by, further_fields}
use Rattle.campaign_tables.specs.FaultTable.{fault_row}

-- the bytes of pieces
abbrev pub whole : List (Bor (List ℕ)) → Bytes
whole pieces = flat_map (λ piece. piece.now) pieces

-- the bytes of a piece as they stand between quotes
abbrev pub quoted_piece : Bor (List ℕ) → Bytes
quoted_piece piece = flat_map between_quotes piece.now

-- those of pieces
abbrev pub within : List (Bor (List ℕ)) → Bytes
within pieces = flat_map quoted_piece pieces

any_whole : (pieces : List (Bor (List ℕ))) → list_any (λ piece. list_any calls_for_quotes piece.now) pieces ≡ list_any calls_for_quotes (whole pieces)
any_whole [] = refl
any_whole (piece ∷ pieces) =
    ap (λ b. list_any calls_for_quotes piece.now || b) (any_whole pieces) ∙ sym (list_any-append calls_for_quotes piece.now (whole pieces))

within_whole : (pieces : List (Bor (List ℕ))) → within pieces ≡ flat_map between_quotes (whole pieces)
within_whole [] = refl
within_whole (piece ∷ pieces) =
    ap (λ t. flat_map between_quotes piece.now ++ t) (within_whole pieces) ∙ sym (flat_map-append between_quotes piece.now (whole pieces))

-- a text, quoted by this test of it
by_test : Bool → Bytes → Bytes
by_test true text = 34 ∷ flat_map between_quotes text ++ 34 ∷ []
by_test false text = text

field_by : (text : Bytes) → csv_field text ≡ by_test (list_any calls_for_quotes text) text
unfolding csv_field by_test
field_by text = go (list_any calls_for_quotes text) refl
  where
    go : (b : Bool) → list_any calls_for_quotes text ≡ b → csv_field text ≡ by_test (list_any calls_for_quotes text) text
    go true e = rw e refl
    go false e = rw e refl

pub field_quoted : (pieces : List (Bor (List ℕ))) → list_any (λ piece. list_any calls_for_quotes piece.now) pieces ≡ true
    → 34 ∷ within pieces ++ 34 ∷ [] ≡ csv_field (whole pieces)
unfolding by_test
field_quoted pieces test =
    ap (λ t. 34 ∷ t ++ 34 ∷ []) (within_whole pieces)
    ∙ sym (field_by (whole pieces) ∙ ap (λ b. by_test b (whole pieces)) (sym (any_whole pieces) ∙ test))

pub field_plain : (pieces : List (Bor (List ℕ))) → list_any (λ piece. list_any calls_for_quotes piece.now) pieces ≡ false
    → whole pieces ≡ csv_field (whole pieces)
unfolding by_test
field_plain pieces test = sym (field_by (whole pieces) ∙ ap (λ b. by_test b (whole pieces)) (sym (any_whole pieces) ∙ test))

-- a field behind a comma
abbrev pub after_comma : Bytes → Bytes
after_comma field = 44 ∷ csv_field field

abbrev pub next_field : Bor (List ℕ) → Bytes
next_field field = after_comma field.now

-- a row, from its first field and the fields with a comma before each
pub joined : (first : Bytes) (fields : List Bytes) → join_with_byte 44 (map csv_field (first ∷ fields)) ≡ csv_field first ++ flat_map after_comma fields
joined first [] = sym (append-nil (csv_field first))
joined first (next ∷ fields) = ap (λ t. csv_field first ++ (44 ∷ t)) (joined next fields)

-- fields are the same where the first is, and the others are
pub next_same : {a b : Bytes} {xs ys : List Bytes} → a ≡ b → xs ≡ ys → (a ∷ xs) ≡ (b ∷ ys)
next_same e es = ap₂ (λ field fields. field ∷ fields) e es

-- a row, from its first field, the fields with a comma before each, and the line feed
pub row_is : (p : Analysis) (planes : Outcome) (i : ℕ)
    → (csv_field (fault_name p.circuit (fault_numbered p i)) ++ flat_map after_comma (further_fields p planes i)) ++ 10 ∷ [] ≡ fault_row p planes i
unfolding fault_row
row_is p planes i =
    ap (λ t. t ++ 10 ∷ []) (sym (joined (fault_name p.circuit (fault_numbered p i)) (further_fields p planes i)))
    ∙ ap row_with (sym (lane_back i))
  where
    -- the row, where the class is that of fault n with these bits
    row_with : ℕ → Bytes
    row_with = λ n. join_with_byte 44 (map csv_field (fault_name p.circuit (fault_numbered p i)
        ∷ fields_by p planes i (class_with p n (bit planes.danger (i % 64)) (bit planes.noticed (i % 64))))) ++ 10 ∷ []
