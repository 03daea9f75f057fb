-- What a cycle prints of a variable.
use Rattle.std.proofs.Common.{◌≡◌, ◌∙◌, ap, ap₂, sym, refl, ℕ, zero, suc, ◌-◌, ◌<◌, Bool, true, false, not, [], ◌∷◌, ◌++◌, append_assoc, arith}
use Rattle.std.specs.Prelude.{◌||◌, ◌==◌, Some, None, codes, slice_get, if◌then◌else◌}
use Rattle.std.proofs.Math.Bool.{beq}
use Rattle.std.specs.Option.{option_map_or, option_or}
use Rattle.std.specs.Str.{byte}
use Rattle.fm_base.specs.Firsts.{given}
use Rattle.fm_base.specs.Lists.{same_bit}
use Rattle.fm_base.specs.Names.{Bytes, Name}
use Rattle.fm_base.specs.Text.{line}
use Rattle.wave_dump.specs.Dump.{Waves, printed, reference, value_at, value_line, variable}
use Rattle.wave_dump.specs.Laws.{PrintsTraces, printed_last}
use Rattle.wave_dump.specs.Steps.{backslash, value_text}

-- a bit that is printed where it isn't the one before, or else the one before
now_or_before : (now before : Bool) → option_or (given (false || not (same_bit now before)) now) (Some before) ≡ Some now
now_or_before true true = refl
now_or_before true false = refl
now_or_before false true = refl
now_or_before false false = refl

pub last_is_value : PrintsTraces
unfolding printed_last
last_is_value w scope place zero = refl
last_is_value w scope place (suc t) =
    let later : (suc t == 0) ≡ false = grind arith in
    let back : suc t - 1 ≡ t = omega arith in
    let now = value_at w scope place (suc t) in
    ap (option_or (printed w scope place (suc t))) (last_is_value w scope place t)
    ∙ ap₂ (λ b u. option_or (given (b || not (same_bit now (value_at w scope place u))) now) (Some (value_at w scope place t))) later back
    ∙ now_or_before now (value_at w scope place t)

-- ---- the text of a variable in a cycle

-- a value that isn't that of the cycle before
other_printed : (b now before : Bool) → now ≡ not before → given (b || not (same_bit now before)) now ≡ Some now
other_printed true now before e = refl
other_printed false true true e = absurd (cc)
other_printed false true false e = refl
other_printed false false true e = refl
other_printed false false false e = absurd (cc)

same_printed : (now before : Bool) → now ≡ before → given (false || not (same_bit now before)) now ≡ None
same_printed true true e = refl
same_printed true false e = absurd (cc)
same_printed false true e = absurd (cc)
same_printed false false e = refl

module _ (w : Waves) (t scope place : ℕ) where
  -- in cycle 0
  pub text_at_start : (number : ℕ) (bit : Bool) → t ≡ 0 → number ≡ variable w scope place → bit ≡ value_at w scope place t
      → value_line number bit ≡ value_text w t scope place
  text_at_start number bit first named valued =
      let zeroth : (t == 0) ≡ true = grind (arith, first) in
      ap₂ value_line named valued
      ∙ ap (λ b. option_map_or (value_line (variable w scope place)) (given (b || not (same_bit (value_at w scope place t) (value_at w scope place (t - 1)))) (value_at w scope place t)) []) (sym zeroth)

  -- where the value isn't that of the cycle before
  pub text_of_other : (number : ℕ) (bit before : Bool) → number ≡ variable w scope place → bit ≡ value_at w scope place t
      → before ≡ value_at w scope place (t - 1) → bit ≡ not before → value_line number bit ≡ value_text w t scope place
  text_of_other number bit before named valued held other =
      let changed : value_at w scope place t ≡ not (value_at w scope place (t - 1)) = sym valued ∙ other ∙ ap not held in
      ap₂ value_line named valued
      ∙ ap (λ o. option_map_or (value_line (variable w scope place)) o []) (sym (other_printed (t == 0) (value_at w scope place t) (value_at w scope place (t - 1)) changed))

  -- where it is
  pub text_of_same : (bit before : Bool) → 0 < t → bit ≡ value_at w scope place t → before ≡ value_at w scope place (t - 1) → bit ≡ before
      → [] ≡ value_text w t scope place
  text_of_same bit before later valued held same =
      let after : (t == 0) ≡ false = grind (arith, later) in
      let kept : value_at w scope place t ≡ value_at w scope place (t - 1) = sym valued ∙ same ∙ held in
      sym (
      ap (λ b. option_map_or (value_line (variable w scope place)) (given (b || not (same_bit (value_at w scope place t) (value_at w scope place (t - 1)))) (value_at w scope place t)) []) after
      ∙ ap (λ o. option_map_or (value_line (variable w scope place)) o []) (same_printed (value_at w scope place t) (value_at w scope place (t - 1)) kept)
      )

-- ---- names

pub reference_is : (name : Name) → reference name ≡ backslash name ++ name
reference_is name = by_head (option_map_or (λ b. (b == byte "$") || (b == 92)) (slice_get name 0) false)
  where
    by_head : (b : Bool) → (if b then 92 ∷ name else name) ≡ (if b then 92 ∷ [] else []) ++ name
    by_head true = refl
    by_head false = refl

pub wire_pieces : (code back name : Bytes)
    → codes "$var wire 1 " ++ (code ++ (32 ∷ (back ++ (name ++ codes " $end\n")))) ≡ line (codes "$var wire 1" ∷ code ∷ (back ++ name) ∷ codes "$end" ∷ [])
wire_pieces code back name = simp append_assoc refl

-- ---- two bits

pub other_of : (a b : Bool) → not (beq a b) ≡ true → a ≡ not b
other_of true true e = absurd (cc)
other_of true false e = refl
other_of false true e = refl
other_of false false e = absurd (cc)

pub same_of : (a b : Bool) → not (beq a b) ≡ false → a ≡ b
same_of true true e = refl
same_of true false e = absurd (cc)
same_of false true e = absurd (cc)
same_of false false e = refl
