-- The steps of the pass, as the program takes them.
use Rattle.std.proofs.Common.{◌≡◌, ◌≢◌, ℕ, suc, ◌+◌, ◌*◌, ◌<◌, ◌≤◌, Bool, true, false, List, [], ◌∷◌, length, take, get_or, refl, ap, sym, subst, ◌∙◌, arith}
use Rattle.std.proofs.lemmas.List.{take_all}
use Rattle.circuit.specs.declared.parts.Driver.TheVariants.{Table as FromTable}
use Rattle.circuit.specs.declared.parts.NetId.{NetId}
use Rattle.circuit.specs.declared.parts.Table.{Table}
use Rattle.circuit.specs.Order.{net_at}
use Rattle.circuit.specs.Sound.{IsNet, IsNetlist}
use Rattle.circuit.specs.Value.{driver_at, table_at}
use Rattle.collapse_map.specs.Collapsed.{Collapsed}
use Rattle.collapse_map.specs.Looks.{is_one_look, looked_at, looks_for}
use Rattle.collapse_map.specs.Settled.{AreGiven, AreSeen, AreAllReached, linked}
use Rattle.collapse_map.specs.declared.looks.Looks.{Looks}
use Rattle.collapse_map.specs.declared.looks.Looks.TheVariants.{Nobody, One, More}
use Rattle.collapse_map.proofs.Linking.{all_seen, more_seen, one_seen}

one_is : (looks : Looks) → is_one_look looks ≡ true → looks ≡ One
one_is One e = refl
one_is Nobody e = cc
one_is More e = cc

not_one : (looks : Looks) → is_one_look looks ≡ false → looks ≢ One
not_one One e = cc
not_one Nobody e = λ f. cc
not_one More e = λ f. cc

module _ (s : Collapsed) (looks : List Looks) (order : List NetId) (at k : ℕ) (to : NetId) (sound : IsNetlist s.circuit) (given : AreGiven s looks order)
    (sized : length looks ≡ length s.circuit.drivers) (ordinal : at < length order) (at_is : net_at order at ≡ to) (inside : IsNet s.circuit to)
    (driven : driver_at s.circuit to.0 ≡ FromTable k) (within : k < length s.circuit.tables) where
  -- how many look at the net of a place
  looks_at : (place : ℕ) → place < length (table_at s.circuit.tables k).ins → Looks
  looks_at place lt = get_or looks (net_at (table_at s.circuit.tables k).ins place).0 Nobody

  known : (place : ℕ) → (lt : place < length (table_at s.circuit.tables k).ins) → (net_at (table_at s.circuit.tables k).ins place).0 < length looks
  known place lt = let read = (sound.tables k within).ins place (record { 0 = 0 }) lt in omega (arith, sized, read)

  -- a place at whose net no other looks
  pub step_one : (place : ℕ) (table : Table) (reps once twice : List ℕ) → table ≡ table_at s.circuit.tables k → place < length table.ins
      → is_one_look (get_or looks (net_at table.ins place).0 Nobody) ≡ true → once ≡ linked table place to false reps → twice ≡ linked table place to true once
      → AreSeen s order at (take place table.ins) reps → AreSeen s order at (take (place + 1) table.ins) twice
  step_one place table reps once twice is =
      subst (λ (t : Table). place < length t.ins → is_one_look (get_or looks (net_at t.ins place).0 Nobody) ≡ true → once ≡ linked t place to false reps → twice ≡ linked t place to true once
      → AreSeen s order at (take place t.ins) reps → AreSeen s order at (take (place + 1) t.ins) twice) (sym is)
      (λ lt one e f seen.
      subst (AreSeen s order at (take (place + 1) (table_at s.circuit.tables k).ins)) (sym (f ∙ ap (linked (table_at s.circuit.tables k) place to true) e))
      (one_seen s order sound given.ordered given.listed k place within lt to inside driven at ordinal at_is reps
      (sym (given.looked (net_at (table_at s.circuit.tables k).ins place).0 (known place lt)) ∙ one_is (get_or looks (net_at (table_at s.circuit.tables k).ins place).0 Nobody) one) seen))

  -- a place at whose net others look
  pub step_more : (place : ℕ) (table : Table) (reps : List ℕ) → table ≡ table_at s.circuit.tables k → place < length table.ins
      → is_one_look (get_or looks (net_at table.ins place).0 Nobody) ≡ false
      → AreSeen s order at (take place table.ins) reps → AreSeen s order at (take (place + 1) table.ins) reps
  step_more place table reps is =
      subst (λ (t : Table). place < length t.ins → is_one_look (get_or looks (net_at t.ins place).0 Nobody) ≡ false
      → AreSeen s order at (take place t.ins) reps → AreSeen s order at (take (place + 1) t.ins) reps) (sym is)
      (λ lt many seen.
      more_seen s order sound given.ordered given.listed k place within lt to inside driven at ordinal at_is reps
      (λ e. not_one (get_or looks (net_at (table_at s.circuit.tables k).ins place).0 Nobody) many
      (given.looked (net_at (table_at s.circuit.tables k).ins place).0 (known place lt) ∙ e)) seen)

  -- the whole table
  pub table_done : (place : ℕ) (table : Table) (reps : List ℕ) → table ≡ table_at s.circuit.tables k → length table.ins ≤ place
      → AreSeen s order at (take place table.ins) reps → AreAllReached s order at reps
  table_done place table reps is =
      subst (λ (t : Table). length t.ins ≤ place → AreSeen s order at (take place t.ins) reps → AreAllReached s order at reps) (sym is)
      (λ le seen.
      all_seen s order sound given.ordered given.listed at k to reps at_is driven
      (subst (λ (nets : List NetId). AreSeen s order at nets reps) (take_all place (table_at s.circuit.tables k).ins le) seen))
