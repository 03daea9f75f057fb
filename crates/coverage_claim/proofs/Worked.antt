-- A claim that is proved by rules: a latch and its copy take the same input, and an alarm compares them. Whatever happens to the latch, the alarm comes at
-- once where it differs.
use Rattle.std.proofs.Common.{◌≡◌, inl, inr, ℕ, zero, suc, Bool, true, false, not, ◌&&◌, [], ◌∷◌, get_or, refl, ap, sym, ◌∙◌, arith, Some, None}
use Rattle.std.specs.Prelude.{◌==◌, Contains, if◌then◌else◌}
use Rattle.std.specs.List.{All, slice_get}
use Rattle.fm_base.specs.Lists.{same_bit}
use Rattle.circuit.specs.declared.parts.Driver.TheVariants.{Input, Table as FromTable, Latch as FromLatch}
use Rattle.circuit.specs.declared.parts.Latch.{Latch}
use Rattle.circuit.specs.declared.parts.Lit.TheVariants.{Zero, One}
use Rattle.circuit.specs.declared.parts.NetId.{NetId}
use Rattle.circuit.specs.declared.parts.Table.{Table}
use Rattle.circuit.specs.Circuit.{Circuit}
use Rattle.circuit.specs.Table.{table_value}
use Rattle.alarm_points.specs.declared.Points.{Points}
use Rattle.coverage_claim.specs.declared.parts.Site.TheVariants.{Intact, Free}
use Rattle.coverage_claim.specs.Region.{Region}
use Rattle.coverage_claim.specs.Stretch.{Pairs}
use Rattle.fm_base.proofs.Tests.{and_both}
use Rattle.coverage_claim.specs.Claim.{Claim, IsProved, lead_in, leaves, unequal, window_of}
use Rattle.coverage_claim.specs.Rules.{AgreeAt, AreNarrowed, IsProvedByRules, NonePasses, Sets, by_silence, by_start, by_table, by_input, everything, gone, only, other_than, whole}
use Rattle.coverage_claim.proofs.Ruling.{prove}

net : ℕ → NetId
net n = record { 0 = n }

abbrev differing : Table
differing = record { ins = record { 0 = 1 } ∷ record { 0 = 2 } ∷ []; rows = (Zero ∷ One ∷ []) ∷ (One ∷ Zero ∷ []) ∷ []; on = true }

abbrev main : Latch
main = record { from = record { 0 = 0 }; to = record { 0 = 1 }; start = false }

abbrev copy : Latch
copy = record { from = record { 0 = 0 }; to = record { 0 = 2 }; start = false }

-- the nets: the input, the latch, its copy, the alarm
abbrev doubled : Circuit
doubled = record {
  names = [];
  drivers = Input 0 ∷ FromLatch 0 ∷ FromLatch 1 ∷ FromTable 0 ∷ [];
  tables = differing ∷ [];
  latches = main ∷ copy ∷ [];
  inputs = record { 0 = 0 } ∷ [];
  outputs = [];
}

abbrev watched : Points
watched = record { goals = record { name = []; ftti = None; observe = record { 0 = 1 } ∷ [] } ∷ []; alarm = record { 0 = 3 } ∷ [] }

-- anything may happen to the latch
abbrev latch_alone : Region
latch_alone n = if n == 1 then Free else Intact

-- it may start each cycle with any pair, and its copy with equal values
abbrev pairs : Latch → Pairs
pairs latch golden faulty = if latch.to.0 == 1 then true else same_bit golden faulty

abbrev at_once : Claim
at_once = record { circuit = doubled; points = watched; held = []; from = 0; region = latch_alone; window = 0; ahead = 0; apart = pairs }

-- ---- the rules, one after the other

-- two pairs of a net go
abbrev equal_at : Sets → ℕ → Sets
equal_at q n = only (only q 0 n (other_than true false)) 0 n (other_than false true)

-- the copy starts equal
abbrev copied : Sets
copied = equal_at everything 2

-- the alarm is 0 in both runs
abbrev silent : Sets
silent = only (only (only copied 0 3 (other_than true true)) 0 3 (other_than true false)) 0 3 (other_than false true)

-- so the latch is equal, by the table of the alarm; and the input is
abbrev narrow : Sets
narrow = equal_at (equal_at silent 1) 0

copied_left : AreNarrowed (window_of at_once) copied
copied_left =
    gone _ 0 2 false true (by_start 1 copy refl refl refl refl) (gone _ 0 2 true false (by_start 1 copy refl refl refl refl) whole)

is_alarm : Contains (window_of at_once).silent (net 3)
unfolding net
is_alarm = (0, omega arith, refl)

silent_left : AreNarrowed (window_of at_once) silent
unfolding net
silent_left =
    gone _ 0 3 false true (by_silence (net 3) (omega arith) is_alarm refl (inr (refl, omega arith)))
    (gone _ 0 3 true false (by_silence (net 3) (omega arith) is_alarm refl (inl refl))
    (gone _ 0 3 true true (by_silence (net 3) (omega arith) is_alarm refl (inl refl)) copied_left))

quiet : (u v : Bool) → silent 0 3 u v ≡ true → (u ≡ false) × (v ≡ false)
quiet true true e = absurd (cc)
quiet true false e = absurd (cc)
quiet false true e = absurd (cc)
quiet false false e = (refl, refl)

same_copy : (u v : Bool) → silent 0 2 u v ≡ true → u ≡ v
same_copy true true e = refl
same_copy true false e = absurd (cc)
same_copy false true e = absurd (cc)
same_copy false false e = refl

compares : (x y : Bool) → table_value differing (x ∷ y ∷ []) ≡ false → x ≡ y
compares true true e = refl
compares true false e = absurd (cc)
compares false true e = absurd (cc)
compares false false e = refl

shows_none : (x v : Bool) → same_bit x v ≡ true → v ≡ false → x ≡ false
shows_none true true e f = f
shows_none true false e f = absurd (cc)
shows_none false v e f = refl

-- where the alarm is silent and the copy equal, the latch is
latch_equal : (golden faulty : ℕ → Bool) → AgreeAt (window_of at_once) silent 0 0 (net 3) golden faulty → golden 1 ≡ faulty 1
unfolding net
latch_equal golden faulty agree =
    let none = quiet (golden 3) (faulty 3) agree.own in
    let second : silent 0 2 (golden 2) (faulty 2) ≡ true = agree.reads 1 (net 2) (omega arith) in
    compares (golden 1) (golden 2) (sym agree.golden_is ∙ none.0) ∙ same_copy (golden 2) (faulty 2) second
    ∙ sym (compares (faulty 1) (faulty 2) (shows_none (table_value differing (faulty 1 ∷ faulty 2 ∷ [])) (faulty 3) agree.faulty_may none.1))

rises : (u v : Bool) → u ≡ false → v ≡ true → u ≡ v → ⊥
rises u v e f same = cc

falls : (u v : Bool) → u ≡ true → v ≡ false → u ≡ v → ⊥
falls u v e f same = cc

narrow_left : AreNarrowed (window_of at_once) narrow
unfolding net
narrow_left =
    gone (only (equal_at silent 1) 0 0 (other_than true false)) 0 0 false true (by_input 0 (net 0) (omega arith) (omega arith) refl refl refl)
    (gone (equal_at silent 1) 0 0 true false (by_input 0 (net 0) (omega arith) (omega arith) refl refl refl)
    (gone (only silent 0 1 (other_than true false)) 0 1 false true (by_table 0 (net 3) (omega arith) (omega arith) refl (λ golden faulty agree e f.
    let same : golden 1 ≡ faulty 1 = latch_equal golden faulty (record {
      own = fewer 0 3 (golden 3) (faulty 3) agree.own;
      reads = λ i d lt. fewer 0 (get_or differing.ins i d).0 (golden (get_or differing.ins i d).0) (faulty (get_or differing.ins i d).0) (agree.reads i d lt);
      golden_is = agree.golden_is;
      faulty_may = agree.faulty_may;
    }) in rises (golden 1) (faulty 1) e f same))
    (gone silent 0 1 true false (by_table 0 (net 3) (omega arith) (omega arith) refl (λ golden faulty agree e f.
    let same : golden 1 ≡ faulty 1 = latch_equal golden faulty agree in falls (golden 1) (faulty 1) e f same)) silent_left)))
  where
    fewer : (frame n : ℕ) (u v : Bool) → only silent 0 1 (other_than true false) frame n u v ≡ true → silent frame n u v ≡ true
    fewer frame n u v e = (and_both (silent frame n u v) (if frame == 0 && n == 1 then other_than true false u v else true) e).0

-- the end of the lead-in: its first cycle is that of the reset
abbrev started : Sets
started = equal_at everything 2

started_left : AreNarrowed (lead_in at_once) started
started_left =
    gone _ 0 2 false true (by_start 1 copy refl refl refl refl) (gone _ 0 2 true false (by_start 1 copy refl refl refl refl) whole)

no_latch : {X : Type 0} (x : X) → None ≡ Some x → ⊥
no_latch x e = cc

latch_is : (x y : Latch) → Some x ≡ Some y → x ≡ y
latch_is x y e = cc

leaves_none : (u v : Bool) → narrow 0 0 u v ≡ true → leaves at_once copy u v ≡ true → ⊥
leaves_none true true e f = cc
leaves_none true false e f = cc
leaves_none false true e f = cc
leaves_none false false e f = cc

main_stays : (u v : Bool) → leaves at_once main u v ≡ true → ⊥
main_stays u v e = cc

by_rules : IsProvedByRules at_once
by_rules = record {
  window = narrow;
  lead = started;
  window_narrowed = narrow_left;
  lead_narrowed = started_left;
  same = λ i d lt. same_main i d lt;
  again = λ l latch at u v e f. again l latch at u v e f;
  begins = λ l latch at u v e f. begins l latch at u v e f;
}
  where
    equal_main : (u v : Bool) → narrow 0 1 u v ≡ true → unequal u v ≡ true → ⊥
    equal_main true true e f = cc
    equal_main true false e f = cc
    equal_main false true e f = cc
    equal_main false false e f = cc

    same_main : All (λ (n : NetId). NonePasses (narrow 0 n.0) unequal) (record { 0 = 1 } ∷ [])
    same_main zero d lt u v e f = equal_main u v e f
    same_main (suc i) d lt u v e f = absurd (omega arith)

    again : (l : ℕ) (latch : Latch) → slice_get (main ∷ copy ∷ []) l ≡ Some latch → NonePasses (narrow 0 latch.from.0) (leaves at_once latch)
    again zero latch at u v e f = main_stays u v (ap (λ (x : Latch). leaves at_once x u v) (latch_is main latch at) ∙ f)
    again (suc zero) latch at u v e f =
        leaves_none u v (ap (λ (x : Latch). narrow 0 x.from.0 u v) (latch_is copy latch at) ∙ e)
        (ap (λ (x : Latch). leaves at_once x u v) (latch_is copy latch at) ∙ f)
    again (suc (suc l)) latch at u v e f = no_latch latch at

    starts_equal : (u v : Bool) → started 0 2 u v ≡ true → not (pairs copy u v) ≡ true → ⊥
    starts_equal true true e f = cc
    starts_equal true false e f = cc
    starts_equal false true e f = cc
    starts_equal false false e f = cc

    begins : (l : ℕ) (latch : Latch) → slice_get (main ∷ copy ∷ []) l ≡ Some latch
        → NonePasses (started 0 latch.to.0) (λ golden faulty. not (pairs latch golden faulty))
    begins zero latch at u v e f = (
        let no : not (pairs main u v) ≡ true = ap (λ (x : Latch). not (pairs x u v)) (latch_is main latch at) ∙ f in
        cc)
    begins (suc zero) latch at u v e f =
        starts_equal u v (ap (λ (x : Latch). started 0 x.to.0 u v) (latch_is copy latch at) ∙ e)
        (ap (λ (x : Latch). not (pairs x u v)) (latch_is copy latch at) ∙ f)
    begins (suc (suc l)) latch at u v e f = no_latch latch at

-- THE CLAIM IS PROVED
pub worked : IsProved at_once
worked = prove at_once by_rules
