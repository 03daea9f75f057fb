-- What the held inputs of rows keep.
use Rattle.std.proofs.Common.{◌≡◌, ◌∙◌, ℕ, zero, suc, ◌+◌, ◌<◌, ◌≤◌, Bool, true, false, cond, not, ◌&&◌, List, [], ◌∷◌, ◌++◌, length, map, refl, sym, ap, subst, arith, length-append}
use Rattle.std.specs.Prelude.{Contains, Option, Some, None, bytes_eq, decimal, find, if◌then◌else◌, is_none, nat_le, unwrap_or, ◌==◌}
use Rattle.std.specs.List.{All, list_any}
use Rattle.std.proofs.lemmas.Bool.{leb-true}
use Rattle.std.proofs.lemmas.List.{map-append, length-map}
use Rattle.circuit.specs.Circuit.{Circuit}
use Rattle.circuit.specs.Names.{net_name}
use Rattle.circuit.specs.declared.parts.NetId.{NetId}
use Rattle.coverage_claim.specs.declared.parts.Held.{Held}
use Rattle.csv_rows.specs.Rows.{Fields, field, same_field}
use Rattle.fm_base.specs.Names.{Bytes}
use Rattle.fm_base.specs.Plain.{plain_number}
use Rattle.fm_base.specs.Text.{is_bit, number_of}
use Rattle.held_inputs.specs.HeldFile.{held_row, input_named}
use Rattle.held_inputs.specs.HeldKept.{AreHeldFor}
use Rattle.held_inputs.specs.Steps.{fault_by, first_of, has_no_cycle_before, is_bad_before}

-- what is found is an element
find_in : {X : Type 0} (p : X → Bool) (xs : List X) (x : X) → find p xs ≡ Some x → Contains xs x
find_in p [] x e = absurd (cc)
find_in {X} p (y ∷ ys) x e = by_case (p y) e (find_in p ys x)
  where
    by_case : (b : Bool) → cond b (Some y) (find p ys) ≡ Some x → (find p ys ≡ Some x → Contains ys x) → Contains (y ∷ ys) x
    by_case true f later = (0, omega arith, cc)
    by_case false f later = let rest = later f in (suc rest.0, omega (arith, rest.1), rest.2)

net_in : (c : Circuit) (name : Bytes) (found : Option NetId) → input_named c name ≡ found → is_none found ≡ false → (other : NetId) → Contains c.inputs (unwrap_or found other)
net_in c name None e none other = absurd (cc)
net_in c name (Some net) e none other = find_in (λ (net : NetId). bytes_eq name (net_name c net.0)) c.inputs net e

number_small : (text : Bytes) → unwrap_or (plain_number 65535 text) 0 ≤ 65535
number_small text = by_case (nat_le (number_of text) 65535) (bytes_eq text (decimal (number_of text))) refl
  where
    by_case : (a b : Bool) → nat_le (number_of text) 65535 ≡ a → unwrap_or (if a && b then Some (number_of text) else None) 0 ≤ 65535
    by_case true true e = leb-true (number_of text) 65535 e
    by_case true false e = omega arith
    by_case false b e = omega arith

-- a row without a fault passes these tests
none_fails : (width input twice many from before cycle value : Bool) → first_of width input twice many from before cycle value ≡ None → (input ≡ false) × (many ≡ false)
none_fails true input twice many from before cycle value e = absurd (cc)
none_fails false true twice many from before cycle value e = absurd (cc)
none_fails false false true many from before cycle value e = absurd (cc)
none_fails false false false true from before cycle value e = absurd (cc)
none_fails false false false false from before cycle value e = (refl, refl)

pub passes : (c : Circuit) (before : List Fields) (row : Fields) → fault_by c before row ≡ None → (is_none (input_named c (field row 0)) ≡ false) × (length before < 1024)
passes c before row e =
    let p = none_fails (not (length row == 4)) (is_none (input_named c (field row 0))) (list_any (same_field 0 row) before) (nat_le 1024 (length before))
    (is_none (plain_number 65535 (field row 1))) (is_bad_before row) (has_no_cycle_before row) (not (is_bit (field row 3))) e in
    (p.0, short (length before) p.1)
  where
    short : (n : ℕ) → nat_le 1024 n ≡ false → n < 1024
    short n h = grind arith

all_snoc : {X : Type 0} (P : X → Type 0) (xs : List X) (x : X) → All P xs → P x → All P (xs ++ x ∷ [])
all_snoc P [] x all own zero d lt = own
all_snoc P [] x all own (suc k) d lt = absurd (omega (arith, lt))
all_snoc P (y ∷ ys) x all own zero d lt = all zero d (omega arith)
all_snoc P (y ∷ ys) x all own (suc k) d lt = all_snoc P ys x (λ i e less. all (suc i) e (omega (arith, less))) own k d (omega (arith, lt))

pub none_kept : (c : Circuit) → AreHeldFor c []
none_kept c = record { inputs = λ i d lt. absurd (omega (arith, lt)); small = λ i d lt. absurd (omega (arith, lt)); few = omega arith }

-- one row more
pub more_kept : (c : Circuit) (rows : List Fields) (row : Fields) → AreHeldFor c (map (held_row c) rows) → fault_by c rows row ≡ None → AreHeldFor c (map (held_row c) (rows ++ row ∷ []))
more_kept c rows row kept none =
    let p = passes c rows row none in
    let is : map (held_row c) (rows ++ row ∷ []) ≡ map (held_row c) rows ++ held_row c row ∷ [] = map-append (held_row c) rows (row ∷ []) in
    let whole : AreHeldFor c (map (held_row c) rows ++ held_row c row ∷ []) = record {
      inputs = all_snoc (λ (h : Held). Contains c.inputs h.net) (map (held_row c) rows) (held_row c row) kept.inputs
          (net_in c (field row 0) (input_named c (field row 0)) refl p.0 (record { 0 = 0 }));
      small = all_snoc (λ (h : Held). h.from ≤ 65535) (map (held_row c) rows) (held_row c row) kept.small (number_small (field row 1));
      few = omega (arith, length-append (map (held_row c) rows) (held_row c row ∷ []), length-map rows (held_row c), p.1);
    } in
    subst (AreHeldFor c) (sym is) whole
