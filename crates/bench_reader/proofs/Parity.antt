-- The rows of an exclusive OR.
use Rattle.std.proofs.Common.{◌≡◌, ℕ, zero, suc, ◌+◌, ◌-◌, ◌/◌, ◌%◌, ◌^◌, ◌≤◌, ◌<◌, Bool, true, false, ◌⊎◌, inl, inr, List, [], ◌∷◌, ◌++◌, refl, ap, sym, ◌∙◌, append_assoc, length, map, arith}
use Rattle.std.specs.Prelude.{◌==◌, filter, count_by, if◌then◌else◌, nat_le}
use Rattle.std.proofs.Math.Nat.{pow-le-pow_right}
use Rattle.std.proofs.lemmas.Bool.{leb-true}
use Rattle.std.proofs.lemmas.List.{append-nil, length-map}
use Rattle.std.proofs.lemmas.List.Elements.{filter-append}
use Rattle.std.proofs.lemmas.List.Sums.{length-filter, count_by-le-length}
use Rattle.std.proofs.lemmas.List.FromFn.{length-range_with_len}
use Rattle.circuit.specs.declared.parts.Lit.{Lit}
use Rattle.circuit.specs.declared.parts.Lit.TheVariants.{Zero, One}
use Rattle.fm_base.specs.Lists.{below}
use Rattle.fm_base.proofs.Below.{map-below}
use Rattle.fm_base.proofs.Tests.{and_both}
use Rattle.bench_reader.specs.declared.gate.Gate.{Gate}
use Rattle.bench_reader.specs.declared.gate.Gate.TheVariants.{And, Nand, Or, Nor, Xor, Xnor, Not, Buffer}
use Rattle.bench_reader.specs.Gates.{cells_of, odd_rows, parity_rows, takes_inputs}
use Rattle.bench_reader.specs.Steps.{is_odd_row, most_inputs}

-- one more cell
pub one_cell : (left number : ℕ) (row now : List Lit) (cell : Lit) (all : List Lit) → 0 < left
    → cell ≡ (if number / 2 ^ (left - 1) % 2 == 1 then One else Zero) → now ≡ row ++ cell ∷ [] → row ++ cells_of left number ≡ all → now ++ cells_of (left - 1) number ≡ all
one_cell zero number row now cell all h is more e = absurd (omega arith)
one_cell (suc left) number row now cell all h is more e =
    let same : suc left - 1 ≡ left = omega arith in
    let cell_is : cell ≡ (if number / 2 ^ left % 2 == 1 then One else Zero) = is ∙ ap (λ k. if number / 2 ^ k % 2 == 1 then One else Zero) same in
    rw same (ap (λ (r : List Lit). r ++ cells_of left number) more ∙ append_assoc row (cell ∷ []) (cells_of left number)
    ∙ ap (λ (x : Lit). row ++ (x ∷ cells_of left number)) cell_is ∙ e)

split : (inputs number : ℕ) → filter is_odd_row (map (cells_of inputs) (below (number + 1)))
    ≡ filter is_odd_row (map (cells_of inputs) (below number)) ++ filter is_odd_row (cells_of inputs number ∷ [])
split inputs number =
    let next : number + 1 ≡ suc number = omega arith in
    ap (λ n. filter is_odd_row (map (cells_of inputs) (below n))) next ∙ ap (filter is_odd_row) (map-below (cells_of inputs) number)
    ∙ filter-append is_odd_row (map (cells_of inputs) (below number)) (cells_of inputs number ∷ [])

-- one more number
pub number_passed : (inputs number : ℕ) (rows : List (List Lit)) (row : List Lit) → row ≡ cells_of inputs number → is_odd_row row ≡ false
    → rows ≡ filter is_odd_row (map (cells_of inputs) (below number)) → rows ≡ filter is_odd_row (map (cells_of inputs) (below (number + 1)))
number_passed inputs number rows row is even e =
    e ∙ sym (append-nil _) ∙ sym (split inputs number ∙ ap (λ (more : List (List Lit)). filter is_odd_row (map (cells_of inputs) (below number)) ++ more) (alone (is_odd_row (cells_of inputs number)) (cells_of inputs number) refl (ap is_odd_row (sym is) ∙ even)))
  where
    alone : (b : Bool) (r : List Lit) → is_odd_row r ≡ b → b ≡ false → filter is_odd_row (r ∷ []) ≡ []
    alone b r f g = rw (f ∙ g) refl

pub number_kept : (inputs number : ℕ) (rows now : List (List Lit)) (row : List Lit) → row ≡ cells_of inputs number → is_odd_row row ≡ true
    → now ≡ rows ++ row ∷ [] → rows ≡ filter is_odd_row (map (cells_of inputs) (below number)) → now ≡ filter is_odd_row (map (cells_of inputs) (below (number + 1)))
number_kept inputs number rows now row is odd more e =
    more ∙ ap (λ (rs : List (List Lit)). rs ++ row ∷ []) e ∙ ap (λ (r : List Lit). filter is_odd_row (map (cells_of inputs) (below number)) ++ r ∷ []) is
    ∙ sym (split inputs number ∙ ap (λ (more : List (List Lit)). filter is_odd_row (map (cells_of inputs) (below number)) ++ more) (alone (cells_of inputs number) (ap is_odd_row (sym is) ∙ odd)))
  where
    alone : (r : List Lit) → is_odd_row r ≡ true → filter is_odd_row (r ∷ []) ≡ r ∷ []
    alone r f = rw f refl

pub no_numbers : (inputs : ℕ) → [] ≡ filter is_odd_row (map (cells_of inputs) (below 0))
unfolding below
no_numbers inputs = refl

-- the binary numbers that are chosen are the rows by parity: computed for each number of cells that a gate may have
pub chosen_rows : (inputs : ℕ) → inputs ≤ 8 → odd_rows inputs ≡ parity_rows true inputs
unfolding odd_rows below
chosen_rows zero h = refl
chosen_rows (suc zero) h = refl
chosen_rows (suc (suc zero)) h = refl
chosen_rows (suc (suc (suc zero))) h = refl
chosen_rows (suc (suc (suc (suc zero)))) h = refl
chosen_rows (suc (suc (suc (suc (suc zero))))) h = refl
chosen_rows (suc (suc (suc (suc (suc (suc zero)))))) h = refl
chosen_rows (suc (suc (suc (suc (suc (suc (suc zero))))))) h = refl
chosen_rows (suc (suc (suc (suc (suc (suc (suc (suc zero)))))))) h = refl
chosen_rows (suc (suc (suc (suc (suc (suc (suc (suc (suc n))))))))) h = absurd (omega arith)

pub all_numbers : (inputs number : ℕ) (rows : List (List Lit)) → inputs ≤ 8 → number ≡ 2 ^ inputs → rows ≡ filter is_odd_row (map (cells_of inputs) (below number)) → rows ≡ parity_rows true inputs
unfolding odd_rows
all_numbers inputs number rows few h e = e ∙ ap (λ n. filter is_odd_row (map (cells_of inputs) (below n))) h ∙ chosen_rows inputs few

-- no more rows than numbers
pub few_odd : (inputs : ℕ) → length (odd_rows inputs) ≤ 2 ^ inputs
unfolding odd_rows below
few_odd inputs =
    let kept = length-filter is_odd_row (map (cells_of inputs) (below (2 ^ inputs))) in
    let some = count_most is_odd_row (map (cells_of inputs) (below (2 ^ inputs))) in
    let numbers = length-map (below (2 ^ inputs)) (cells_of inputs) in
    let size = length-range_with_len 0 (2 ^ inputs) in
    omega arith
  where
    count_most : (p : List Lit → Bool) (rows : List (List Lit)) → count_by p rows ≤ length rows
    count_most p rows = count_by-le-length p rows

pub few_rows : (inputs : ℕ) (rows : List (List Lit)) → inputs ≤ 8 → rows ≡ parity_rows true inputs → length rows ≤ 256
few_rows inputs rows h e =
    let size = ap (λ (rs : List (List Lit)). length rs) (e ∙ sym (chosen_rows inputs h)) in
    let most = few_odd inputs in
    let some : 0 < 2 = omega arith in
    let eight : 2 ^ inputs ≤ 2 ^ 8 = pow-le-pow_right some h in
    omega arith

pub few_inputs : (gate : Gate) (inputs : ℕ) → (gate ≡ Xor) ⊎ (gate ≡ Xnor) → takes_inputs gate inputs ≡ true → inputs ≤ 8
few_inputs gate inputs (inl e) h = leb-true inputs 8 (and_both (nat_le 1 inputs) (nat_le inputs 8) (sym (ap (λ g. takes_inputs g inputs) e) ∙ h)).1
few_inputs gate inputs (inr e) h = leb-true inputs 8 (and_both (nat_le 1 inputs) (nat_le inputs 8) (sym (ap (λ g. takes_inputs g inputs) e) ∙ h)).1

-- no gate has more inputs than 1,024
pub most_1024 : (gate : Gate) (inputs : ℕ) → takes_inputs gate inputs ≡ true → inputs ≤ 1024
most_1024 gate inputs e = let h = leb-true inputs (most_inputs gate) (and_both (nat_le 1 inputs) (nat_le inputs (most_inputs gate)) e).1 in let m = most gate in omega arith
  where
    most : (g : Gate) → most_inputs g ≤ 1024
    most And = omega arith
    most Nand = omega arith
    most Or = omega arith
    most Nor = omega arith
    most Xor = omega arith
    most Xnor = omega arith
    most Not = omega arith
    most Buffer = omega arith
