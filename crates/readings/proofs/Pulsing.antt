-- A pulse inverts its net: what the net's driver gives is as without it, where no table lies on a loop.
use Rattle.std.proofs.Common.{◌≡◌, ◌≢◌, ◌⊎◌, inl, inr, ℕ, zero, suc, ◌+◌, ◌<◌, ◌≤◌, Bool, false, not, ◌&&◌, ◌||◌, List, [], ◌∷◌, length, get_or, take, refl, add-one, ap, ap₂, sym, ◌∙◌, subst, arith}
use Rattle.std.specs.Prelude.{◌==◌, if◌then◌else◌}
use Rattle.std.specs.List.{All, Contains}
use Rattle.std.proofs.lemmas.Bool.{cases_eq, eq-eqb, ne_eqb}
use Rattle.std.proofs.lemmas.List.{take_all, take_more}
use Rattle.std.proofs.lemmas.List.Elements.{Contains-append_left, Contains-push_cases}
use Rattle.circuit.specs.declared.parts.Driver.{Driver}
use Rattle.circuit.specs.declared.parts.Driver.TheVariants.{Input, Table as FromTable, Latch as FromLatch}
use Rattle.circuit.specs.declared.parts.Fault.TheVariants.{Pulse}
use Rattle.circuit.specs.declared.parts.NetId.{NetId}
use Rattle.circuit.specs.Circuit.{Circuit}
use Rattle.circuit.specs.Effects.{affected}
use Rattle.circuit.specs.Order.{IsOrder, IsReady, net_at}
use Rattle.circuit.specs.Sound.{IsNet, IsNetOf, IsNetlist}
use Rattle.circuit.specs.Value.{Cycle, cycle_of, driven, driver_at, net_value, table_at, table_gives}
use Rattle.circuit.proofs.ValuesAgain.{value_again}
use Rattle.circuit.proofs.Walks.{driven_same}

same_net : (a b : NetId) → a.0 ≡ b.0 → a ≡ b
same_net a b e = ap (λ (n : ℕ). let id : NetId = record { 0 = n } in id) e

-- one net more
taken_more : (order : List NetId) (j : ℕ) (m : NetId) → j < length order → Contains (take j order) m → Contains (take (j + 1) order) m
taken_more order j m lt has =
    subst (λ xs. Contains xs m) (sym (take_more order j (record { 0 = 0 }) lt)) (Contains-append_left (take j order) (net_at order j ∷ []) m has)

taken_before : (order : List NetId) (j : ℕ) (m : NetId) → j < length order → m.0 ≢ (net_at order j).0 → Contains (take (j + 1) order) m → Contains (take j order) m
taken_before order j m lt other has =
    elim (Contains-push_cases (take j order) (net_at order j) m (subst (λ xs. Contains xs m) (take_more order j (record { 0 = 0 }) lt) has)) [
      | inl before ↦ before
      | inr last ↦ absurd (other (sym (ap (λ (n : NetId). n.0) last)))
    ]

module _ (c : Circuit) (order : List NetId) (sound : IsNetlist c) (ordered : IsOrder c order) (n : NetId) (t : ℕ) (state inputs : List Bool) where
  abbrev pulsed : Cycle
  pulsed = cycle_of c (Pulse n t ∷ []) t state inputs

  abbrev golden : Cycle
  golden = cycle_of c [] t state inputs

  elsewhere : (m : ℕ) (own : Bool) → n.0 ≢ m → affected (Pulse n t ∷ []) t m own ≡ own
  elsewhere m own other = ap (λ b. if (b && t == t) || false then not own else own) (ne_eqb n.0 m other)

  here : (own : Bool) → affected (Pulse n t ∷ []) t n.0 own ≡ not own
  here own = ap₂ (λ a b. if (a && b) || false then not own else own) (eq-eqb n.0 n.0 refl) (eq-eqb t t refl)

  -- what the table of a net reads is as without the pulse
  abbrev ReadsSame : NetId → Type 0
  ReadsSame m = (k : ℕ) → driver_at c m.0 ≡ FromTable k → All (λ (read : NetId). net_value pulsed read.0 ≡ net_value golden read.0) (table_at c.tables k).ins

  own_same : (m : NetId) → ReadsSame m
      → driven state inputs (table_gives c (net_value pulsed)) (driver_at c m.0) ≡ driven state inputs (table_gives c (net_value golden)) (driver_at c m.0)
  own_same m same = driven_same c state inputs (net_value pulsed) (net_value golden) (driver_at c m.0) same

  -- and so is its value, where it isn't the net of the pulse
  value_same : (m : NetId) → IsNet c m → n.0 ≢ m.0 → ReadsSame m → net_value pulsed m.0 ≡ net_value golden m.0
  value_same m net other same =
      value_again pulsed order sound ordered m.0 net
      ∙ elsewhere m.0 (driven state inputs (table_gives c (net_value pulsed)) (driver_at c m.0)) other
      ∙ own_same m same
      ∙ sym (value_again golden order sound ordered m.0 net)

  value_other : IsNet c n → ReadsSame n → net_value pulsed n.0 ≡ not (net_value golden n.0)
  value_other net same =
      value_again pulsed order sound ordered n.0 net
      ∙ here (driven state inputs (table_gives c (net_value pulsed)) (driver_at c n.0))
      ∙ ap not (own_same n same ∙ sym (value_again golden order sound ordered n.0 net))

  module _ (own : ℕ) (by_table : driver_at c n.0 ≡ FromTable own) where
    -- a net that is ready before the table of the pulse isn't its net
    is_other : (j : ℕ) (m : NetId) → ¬ Contains (take j order) n → IsReady c (take j order) m → n.0 ≢ m.0
    is_other j m free ready e =
        free (subst (λ (x : NetId). Contains (take j order) x) (same_net m n (sym e)) (ready own (ap (driver_at c) (sym e) ∙ by_table)))

    -- the nets that are ready before a place have their golden values
    abbrev AreAlike : ℕ → Type 0
    AreAlike j = (m : NetId) → IsNet c m → IsReady c (take j order) m → net_value pulsed m.0 ≡ net_value golden m.0

    -- and so has what the table at this place reads
    reads_alike : (j : ℕ) → j < length order → AreAlike j → (m : NetId) → m.0 ≡ (net_at order j).0 → ReadsSame m
    reads_alike j lt before m same k e i d within =
        let place : driver_at c (net_at order j).0 ≡ FromTable k = ap (driver_at c) (sym same) ∙ e in
        let net : (net_at order j).0 < length c.drivers = ordered.nets j (record { 0 = 0 }) lt in
        let fits : k < length c.tables = subst (IsNetOf c (net_at order j).0) place (sound.nets (net_at order j).0 net) in
        before (get_or (table_at c.tables k).ins i d) ((sound.tables k fits).ins i d within) (ordered.after j k lt place i d within)

    alike : (j : ℕ) → j ≤ length order → ¬ Contains (take j order) n → AreAlike j
    alike zero le free m net ready = value_same m net (is_other 0 m free ready) (λ k e. let has = ready k e in absurd (omega (arith, has.1)))
    alike (suc j) le free m net ready =
        let lt : j < length order = omega (arith, le) in
        let next : j + 1 ≡ suc j = add-one j in
        let before : ¬ Contains (take j order) n = λ has. free (subst (λ i. Contains (take i order) n) next (taken_more order j n lt has)) in
        let earlier : AreAlike j = alike j (omega (arith, lt)) before in
        elim (cases_eq m.0 (net_at order j).0) as (λ _. net_value pulsed m.0 ≡ net_value golden m.0) [
          | inl same ↦ value_same m net (is_other (suc j) m free ready) (reads_alike j lt earlier m same)
          | inr other ↦ earlier m net (λ k e. taken_before order j m lt other (subst (λ i. Contains (take i order) m) (sym next) (ready k e)))
        ]

    -- somewhere in the order stands the net of the pulse, for the first time
    found : (j : ℕ) → j ≤ length order → IsNet c n → (¬ Contains (take j order) n) ⊎ (net_value pulsed n.0 ≡ not (net_value golden n.0))
    found zero le net = inl (λ has. omega (arith, has.1))
    found (suc j) le net =
        let lt : j < length order = omega (arith, le) in
        let next : j + 1 ≡ suc j = add-one j in
        elim (found j (omega (arith, lt)) net) as (λ _. (¬ Contains (take (suc j) order) n) ⊎ (net_value pulsed n.0 ≡ not (net_value golden n.0))) [
          | inr done ↦ inr done
          | inl free ↦ elim (cases_eq n.0 (net_at order j).0) [
            | inl same ↦ inr (value_other net (reads_alike j lt (alike j (omega (arith, lt)) free) n same))
            | inr other ↦ inl (λ has. free (taken_before order j n lt other (subst (λ i. Contains (take i order) n) (sym next) has)))
          ]
        ]

    by_order : IsNet c n → net_value pulsed n.0 ≡ not (net_value golden n.0)
    by_order net =
        elim (found (length order) (omega arith) net) [
          | inl free ↦ absurd (free (subst (λ xs. Contains xs n) (sym (take_all (length order) order (omega arith))) (ordered.whole n net own by_table)))
          | inr done ↦ done
        ]

  -- A PULSE INVERTS its net
  pub inverts : IsNet c n → net_value pulsed n.0 ≡ not (net_value golden n.0)
  inverts net = by_driver (driver_at c n.0) refl
    where
      by_driver : (driver : Driver) → driver_at c n.0 ≡ driver → net_value pulsed n.0 ≡ not (net_value golden n.0)
      by_driver (Input k) e = value_other net (λ j other. absurd (cc))
      by_driver (FromLatch k) e = value_other net (λ j other. absurd (cc))
      by_driver (FromTable k) e = by_order k e net
