-- The earliest of some cycles, and without one of them.
use Rattle.std.proofs.Common.{◌≡◌, ◌≢◌, ℕ, ◌+◌, ◌<◌, ◌⊎◌, inl, inr, Bool, true, false, not, List, [], ◌∷◌, ◌++◌, length, map, take, get_or, cond, min, Option, Some, None, refl, ap, ap₂, sym, ◌∙◌, arith, append-nil}
use Rattle.std.specs.Prelude.{◌==◌, if◌then◌else◌}
use Rattle.std.specs.Option.{option_eq}
use Rattle.std.proofs.lemmas.Bool.{cases_lt, eq-eqb, eqb-true, true≢false}
use Rattle.std.proofs.lemmas.List.{map-append}
use Rattle.std.proofs.lemmas.List.Elements.{filter_more}
use Rattle.circuit.specs.declared.parts.NetId.{NetId}
use Rattle.first_cycles.specs.FirstCycles.{earlier, earliest}
use Rattle.reading_planes.specs.Readings.{is_other, others}

earlier_none : (a : Option ℕ) → earlier a None ≡ a
earlier_none None = refl
earlier_none (Some t) = refl

earlier_assoc : (a b c : Option ℕ) → earlier a (earlier b c) ≡ earlier (earlier a b) c
earlier_assoc None b c = refl
earlier_assoc (Some t) None c = refl
earlier_assoc (Some t) (Some u) None = refl
earlier_assoc (Some t) (Some u) (Some v) = let e : min t (min u v) ≡ min (min t u) v = omega arith in ap (λ n. Some n) e

earlier_swap : (a b c : Option ℕ) → earlier a (earlier b c) ≡ earlier b (earlier a c)
earlier_swap None None c = refl
earlier_swap None (Some u) c = refl
earlier_swap (Some t) None c = refl
earlier_swap (Some t) (Some u) None = let e : min t u ≡ min u t = omega arith in ap (λ n. Some n) e
earlier_swap (Some t) (Some u) (Some v) = let e : min t (min u v) ≡ min u (min t v) = omega arith in ap (λ n. Some n) e

earlier_twice : (a b : Option ℕ) → earlier a (earlier a b) ≡ earlier a b
earlier_twice None b = refl
earlier_twice (Some t) None = let e : min t t ≡ t = omega arith in ap (λ n. Some n) e
earlier_twice (Some t) (Some u) = let e : min t (min t u) ≡ min t u = omega arith in ap (λ n. Some n) e

earliest_push : (ts : List (Option ℕ)) (t : Option ℕ) → earliest (ts ++ t ∷ []) ≡ earlier (earliest ts) t
earliest_push [] t = earlier_none t
earliest_push (u ∷ ts) t = ap (earlier u) (earliest_push ts t) ∙ earlier_assoc u (earliest ts) t

-- two cycles that a test tells apart
same_option : (x : Option ℕ) → option_eq (λ t u. t == u) x x ≡ true
same_option None = refl
same_option (Some t) = eq-eqb t t refl

pub differ : (x y : Option ℕ) → option_eq (λ t u. t == u) x y ≡ false → x ≢ y
differ x y e same = absurd (true≢false (sym (same_option x) ∙ ap (λ z. option_eq (λ t u. t == u) x z) same ∙ e))

-- one alarm alone
pub earliest_one : (t : Option ℕ) → t ≡ earliest (t ∷ [])
earliest_one t = sym (earlier_none t)

true_of : (b : Bool) → not b ≡ false → b ≡ true
true_of true e = refl
true_of false e = absurd (true≢false e)

module _ (alarm : NetId → Option ℕ) where
  pushed : (b : Bool) (nets : List NetId) (net : NetId)
      → (if b then earlier (earliest (map alarm nets)) (alarm net) else earliest (map alarm nets)) ≡ earliest (map alarm (nets ++ cond b (net ∷ []) []))
  pushed true nets net = sym (ap earliest (map-append alarm nets (net ∷ [])) ∙ earliest_push (map alarm nets) (alarm net))
  pushed false nets net = sym (ap (λ ns. earliest (map alarm ns)) (append-nil nets))

  -- one alarm point more
  pub others_more : (out : Option NetId) (nets : List NetId) (i : ℕ) (none : NetId) → i < length nets
      → (if is_other (get_or nets i none) out then earlier (earliest (map alarm (others out (take i nets)))) (alarm (get_or nets i none)) else earliest (map alarm (others out (take i nets))))
      ≡ earliest (map alarm (others out (take (i + 1) nets)))
  others_more out nets i none lt =
      pushed (is_other (get_or nets i none) out) (others out (take i nets)) (get_or nets i none)
      ∙ sym (ap (λ ns. earliest (map alarm ns)) (filter_more (λ net. is_other net out) nets i none lt))

  -- the earliest of all is that of the others, or the earlier of it and that of the one
  abbrev Lacks : NetId → Option ℕ → Option ℕ → Type 0
  Lacks out all rest = (all ≡ rest) ⊎ (all ≡ earlier (alarm out) rest)

  lacks_kept : (out net : NetId) (all rest : Option ℕ) → Lacks out all rest → Lacks out (earlier (alarm net) all) (earlier (alarm net) rest)
  lacks_kept out net all rest (inl e) = inl (ap (earlier (alarm net)) e)
  lacks_kept out net all rest (inr e) = inr (ap (earlier (alarm net)) e ∙ earlier_swap (alarm net) (alarm out) rest)

  lacks_left : (out net : NetId) (all rest : Option ℕ) → net ≡ out → Lacks out all rest → Lacks out (earlier (alarm net) all) rest
  lacks_left out net all rest same (inl e) = inr (ap₂ (λ n t. earlier (alarm n) t) same e)
  lacks_left out net all rest same (inr e) = inr (ap₂ (λ n t. earlier (alarm n) t) same e ∙ earlier_twice (alarm out) rest)

  lacks_by : (out net : NetId) (nets : List NetId) (b : Bool) → (b ≡ false → net ≡ out) → Lacks out (earliest (map alarm nets)) (earliest (map alarm (others (Some out) nets)))
      → Lacks out (earlier (alarm net) (earliest (map alarm nets))) (earliest (map alarm (cond b (net ∷ others (Some out) nets) (others (Some out) nets))))
  lacks_by out net nets true same before = lacks_kept out net _ _ before
  lacks_by out net nets false same before = lacks_left out net _ _ (same refl) before

  lacks : (out : NetId) (nets : List NetId) → Lacks out (earliest (map alarm nets)) (earliest (map alarm (others (Some out) nets)))
  lacks out [] = inl refl
  lacks out (net ∷ nets) = lacks_by out net nets (not (net.0 == out.0)) (same_net net out) (lacks out nets)
    where
      same_net : (a b : NetId) → not (a.0 == b.0) ≡ false → a ≡ b
      same_net a b e = ap (λ (n : ℕ). let net : NetId = record { 0 = n } in net) (eqb-true a.0 b.0 (true_of (a.0 == b.0) e))

  lone : (v all rest : Option ℕ) → v ≢ all → (all ≡ rest) ⊎ (all ≡ earlier v rest) → all ≡ rest
  lone v all rest apart (inl e) = e
  lone None all rest apart (inr e) = e
  lone (Some t) all None apart (inr e) = absurd (apart (sym e))
  lone (Some t) all (Some u) apart (inr e) =
      elim (cases_lt t u) [
        | inl less ↦ (let m : min t u ≡ t = omega (arith, less) in absurd (apart (sym (e ∙ ap (λ n. Some n) m))))
        | inr most ↦ (let m : min t u ≡ u = omega (arith, most) in e ∙ ap (λ n. Some n) m)
      ]

  -- without an alarm point that isn't the earliest, the earliest stays
  pub stays_without : (out : NetId) (nets : List NetId) → alarm out ≢ earliest (map alarm nets) → earliest (map alarm nets) ≡ earliest (map alarm (others (Some out) nets))
  stays_without out nets apart = lone (alarm out) _ _ apart (lacks out nets)
