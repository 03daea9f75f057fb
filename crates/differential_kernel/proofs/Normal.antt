-- What the result of an operation differs in, where its inputs differ from golden bits: `ga` and `gb` are these, `da` and `db` what differs.
use Rattle.std.proofs.Common.{◌≡◌, ◌≢◌, ℕ, ◌<◌, ◌≤◌, ◌/◌, ◌%◌, ◌==◌, Bool, true, false, ◌&&◌, refl, ap, ap₂, ◌∙◌, arith}
use Rattle.std.proofs.lemmas.Bool.{eq-eqb, ne_eqb}
use Rattle.golden_difference.proofs.Exclusive.{either_none, either_same}
use Rattle.lane_words.specs.Bits.{either, normal}
use Rattle.lane_words.specs.Gates.{op_value}

either_assoc : (a b c : Bool) → either a (either b c) ≡ either (either a b) c
either_assoc true true true = refl
either_assoc true true false = refl
either_assoc true false true = refl
either_assoc true false false = refl
either_assoc false true true = refl
either_assoc false true false = refl
either_assoc false false true = refl
either_assoc false false false = refl

either_across : (a b c d : Bool) → either (either a b) (either c d) ≡ either (either a c) (either b d)
either_across true true true true = refl
either_across true true true false = refl
either_across true true false true = refl
either_across true true false false = refl
either_across true false true true = refl
either_across true false true false = refl
either_across true false false true = refl
either_across true false false false = refl
either_across false true true true = refl
either_across false true true false = refl
either_across false true false true = refl
either_across false true false false = refl
either_across false false true true = refl
either_across false false true false = refl
either_across false false false true = refl
either_across false false false false = refl

-- a bit that is taken where another is 1
and_either : (c g d : Bool) → either (c && either g d) (c && g) ≡ (c && d)
and_either true true true = refl
and_either true true false = refl
and_either true false true = refl
and_either true false false = refl
and_either false true true = refl
and_either false true false = refl
and_either false false true = refl
and_either false false false = refl

either_and : (c g d : Bool) → either (either g d && c) (g && c) ≡ (c && d)
either_and true true true = refl
either_and true true false = refl
either_and true false true = refl
either_and true false false = refl
either_and false true true = refl
either_and false true false = refl
either_and false false true = refl
either_and false false false = refl

both_and : (a b d : Bool) → either (a && d) (b && d) ≡ (either a b && d)
both_and true true true = refl
both_and true true false = refl
both_and true false true = refl
both_and true false false = refl
both_and false true true = refl
both_and false true false = refl
both_and false false true = refl
both_and false false false = refl

-- a product of two bits that differ
product : (gb db u da : Bool) → either (either gb db && either u da) (gb && u) ≡ either (gb && da) (db && either u da)
product true true true true = refl
product true true true false = refl
product true true false true = refl
product true true false false = refl
product true false true true = refl
product true false true false = refl
product true false false true = refl
product true false false false = refl
product false true true true = refl
product false true true false = refl
product false true false true = refl
product false true false false = refl
product false false true true = refl
product false false true false = refl
product false false false true = refl
product false false false false = refl

first : (c0 c1 ga da : Bool) → either (either c0 (c1 && either ga da)) (either c0 (c1 && ga)) ≡ (c1 && da)
first c0 c1 ga da = either_across c0 (c1 && either ga da) c0 (c1 && ga) ∙ ap₂ either (either_same c0) (and_either c1 ga da)

-- AN OPERATION WITHOUT A PRODUCT differs in what its inputs do
pub sum_differs : (c0 c1 c2 ga da gb db : Bool) → either (normal c0 c1 c2 false (either ga da) (either gb db)) (normal c0 c1 c2 false ga gb) ≡ either (c1 && da) (c2 && db)
sum_differs c0 c1 c2 ga da gb db =
    either_across (either c0 (c1 && either ga da)) (either gb db && either c2 false) (either c0 (c1 && ga)) (gb && either c2 false)
    ∙ ap₂ either (first c0 c1 ga da)
    (ap₂ (λ x y. either (either gb db && x) (gb && y)) (either_none c2) (either_none c2) ∙ either_and c2 gb db)

-- WITH A PRODUCT also in what one input differs in where the other is 1
pub product_differs : (c0 c1 c2 ga da gb db : Bool)
    → either (normal c0 c1 c2 true (either ga da) (either gb db)) (normal c0 c1 c2 true ga gb) ≡ either (either c1 gb && da) (db && either (either c2 ga) da)
product_differs c0 c1 c2 ga da gb db =
    either_across (either c0 (c1 && either ga da)) (either gb db && either c2 (either ga da)) (either c0 (c1 && ga)) (gb && either c2 ga)
    ∙ ap₂ either (first c0 c1 ga da)
    (ap (λ y. either (either gb db && y) (gb && either c2 ga)) (either_assoc c2 ga da) ∙ product gb db (either c2 ga) da)
    ∙ either_assoc (c1 && da) (gb && da) (db && either (either c2 ga) da)
    ∙ ap (λ x. either x (db && either (either c2 ga) da)) (both_and c1 gb da)

-- THE SAME BY THE NUMBER of an operation, whose highest bit tells whether it has a product
pub sum_of : (op : ℕ) (ga da gb db : Bool) → op < 8
    → either (op_value op (either ga da) (either gb db)) (op_value op ga gb) ≡ either ((op / 2 % 2 == 1) && da) ((op / 4 % 2 == 1) && db)
sum_of op ga da gb db lt =
    let other : op / 8 % 2 ≢ 1 = omega arith in
    ap (λ c3. either (normal (op % 2 == 1) (op / 2 % 2 == 1) (op / 4 % 2 == 1) c3 (either ga da) (either gb db)) (normal (op % 2 == 1) (op / 2 % 2 == 1) (op / 4 % 2 == 1) c3 ga gb))
    (ne_eqb (op / 8 % 2) 1 other)
    ∙ sum_differs (op % 2 == 1) (op / 2 % 2 == 1) (op / 4 % 2 == 1) ga da gb db

pub product_of : (op : ℕ) (ga da gb db : Bool) → 8 ≤ op → op < 16
    → either (op_value op (either ga da) (either gb db)) (op_value op ga gb) ≡ either (either (op / 2 % 2 == 1) gb && da) (db && either (either (op / 4 % 2 == 1) ga) da)
product_of op ga da gb db le lt =
    let one : op / 8 % 2 ≡ 1 = omega arith in
    ap (λ c3. either (normal (op % 2 == 1) (op / 2 % 2 == 1) (op / 4 % 2 == 1) c3 (either ga da) (either gb db)) (normal (op % 2 == 1) (op / 2 % 2 == 1) (op / 4 % 2 == 1) c3 ga gb))
    (eq-eqb (op / 8 % 2) 1 one)
    ∙ product_differs (op % 2 == 1) (op / 2 % 2 == 1) (op / 4 % 2 == 1) ga da gb db
