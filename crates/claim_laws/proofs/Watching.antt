-- A stretch of a golden run and of one with faults within the region is as two runs may be.
use Rattle.std.proofs.Common.{◌≡◌, ℕ, suc, ◌+◌, ◌<◌, ◌≤◌, Bool, true, false, List, [], length, refl, ap, sym, ◌∙◌, arith, Some}
use Rattle.std.specs.List.{All, slice_get}
use Rattle.std.proofs.lemmas.List.{get_or-map}
use Rattle.std.proofs.lemmas.Option.{get_or_from_slice_get, slice_get_within}
use Rattle.fm_base.specs.Lists.{same_bit}
use Rattle.circuit.specs.declared.parts.Driver.TheVariants.{Input, Table as FromTable, Latch as FromLatch}
use Rattle.circuit.specs.declared.parts.Fault.{Fault}
use Rattle.circuit.specs.declared.parts.Latch.{Latch}
use Rattle.circuit.specs.declared.parts.NetId.{NetId}
use Rattle.circuit.specs.Circuit.{Circuit}
use Rattle.circuit.specs.Effects.{affected, has_flip, inverted}
use Rattle.circuit.specs.Order.{IsOrder}
use Rattle.circuit.specs.Sound.{IsNet, IsNetlist}
use Rattle.circuit.specs.Trace.{cycle_at, flipped, raw_state, trace, vector_at}
use Rattle.circuit.specs.Value.{bit_at, driven, driver_at, net_value, table_gives}
use Rattle.circuit.proofs.Steps.{raw_state-suc, raw_state-zero}
use Rattle.circuit.proofs.ValuesAgain.{value_again}
use Rattle.golden_difference.proofs.NextCycle.{at_flipped, state_length}
use Rattle.coverage_claim.specs.declared.parts.Site.{Site}
use Rattle.coverage_claim.specs.declared.parts.Site.TheVariants.{Intact, Free, Only}
use Rattle.claim_laws.specs.Faults.{KeepsTo, LieWithin}
use Rattle.coverage_claim.specs.Region.{Region, may_show}
use Rattle.coverage_claim.specs.Stretch.{AreSo, Stretch, Values, held_at}
use Rattle.claim_laws.proofs.Lying.{no_flip, shows}

module _ (c : Circuit) (order : List NetId) (sound : IsNetlist c) (ordered : IsOrder c order) (vectors : List (List Bool)) where
  -- what a net's driver gives in a cycle
  abbrev given : List Fault → ℕ → ℕ → Bool
  given fs t net = driven (flipped fs t (raw_state c fs vectors t)) (vector_at vectors t) (table_gives c (trace c fs vectors t)) (driver_at c net)

  is_shown : (fs : List Fault) (t net : ℕ) → net < length c.drivers → trace c fs vectors t net ≡ affected fs t net (given fs t net)
  is_shown fs t net lt = value_again (cycle_at c fs vectors t) order sound ordered net lt

  golden_is : (t net : ℕ) → net < length c.drivers → trace c [] vectors t net ≡ given [] t net
  golden_is t net lt = is_shown [] t net lt

  -- where a latch drives the net
  latch_net : (l : ℕ) (latch : Latch) → slice_get c.latches l ≡ Some latch → slice_get c.drivers latch.to.0 ≡ Some (FromLatch l)
  latch_net l latch at = sound.latches l latch at

  held_is : (fs : List Fault) (t l : ℕ) (latch : Latch) → slice_get c.latches l ≡ Some latch
      → given fs t latch.to.0 ≡ inverted (has_flip fs l t) (bit_at (raw_state c fs vectors t) l)
  held_is fs t l latch at =
      ap (driven (flipped fs t (raw_state c fs vectors t)) (vector_at vectors t) (table_gives c (trace c fs vectors t)))
      (get_or_from_slice_get c.drivers latch.to.0 (FromLatch l) (Input 0) (latch_net l latch at))
      ∙ at_flipped fs t 0 (raw_state c fs vectors t) l (omega (arith, within, state_length c fs vectors t))
      ∙ ap (λ n. inverted (has_flip fs n t) (bit_at (raw_state c fs vectors t) l)) here
    where
      within : l < length c.latches
      within = slice_get_within c.latches l latch at

      here : 0 + l ≡ l
      here = omega arith

  -- what a latch holds at the start of a cycle
  begun : (fs : List Fault) (l : ℕ) (latch : Latch) → slice_get c.latches l ≡ Some latch → bit_at (raw_state c fs vectors 0) l ≡ latch.start
  begun fs l latch at =
      ap (λ (bits : List Bool). bit_at bits l) (raw_state-zero c fs vectors)
      ∙ get_or-map (λ (m : Latch). m.start) c.latches l latch false (slice_get_within c.latches l latch at)
      ∙ ap (λ (m : Latch). m.start) (get_or_from_slice_get c.latches l latch latch at)

  taken : (fs : List Fault) (t l : ℕ) (latch : Latch) → slice_get c.latches l ≡ Some latch
      → bit_at (raw_state c fs vectors (suc t)) l ≡ trace c fs vectors t latch.from.0
  taken fs t l latch at =
      ap (λ (bits : List Bool). bit_at bits l) (raw_state-suc c fs vectors t)
      ∙ get_or-map (λ (m : Latch). net_value (cycle_at c fs vectors t) m.from.0) c.latches l latch false (slice_get_within c.latches l latch at)
      ∙ ap (λ (m : Latch). net_value (cycle_at c fs vectors t) m.from.0) (get_or_from_slice_get c.latches l latch latch at)

  latch_in : (l : ℕ) (latch : Latch) → slice_get c.latches l ≡ Some latch → latch.to.0 < length c.drivers
  latch_in l latch at = slice_get_within c.drivers latch.to.0 (FromLatch l) (latch_net l latch at)

  golden_held : (t l : ℕ) (latch : Latch) → slice_get c.latches l ≡ Some latch → trace c [] vectors t latch.to.0 ≡ bit_at (raw_state c [] vectors t) l
  golden_held t l latch at = golden_is t latch.to.0 (latch_in l latch at) ∙ held_is [] t l latch at

  module _ (region : Region) (faults : List Fault) (within : LieWithin c faults region) where
    faulty_may : (t : ℕ) (net : NetId) → IsNet c net → may_show (region net.0) (given faults t net.0) (trace c faults vectors t net.0) ≡ true
    faulty_may t net lt =
        ap (may_show (region net.0) (given faults t net.0)) (is_shown faults t net.0 lt) ∙ shows c net faults (region net.0) (within net) t (given faults t net.0)

    -- a latch may show what it holds
    held_may : (t l : ℕ) (latch : Latch) → slice_get c.latches l ≡ Some latch
        → may_show (region latch.to.0) (bit_at (raw_state c faults vectors t) l) (trace c faults vectors t latch.to.0) ≡ true
    held_may t l latch at = by_site (region latch.to.0) (within latch.to) (faulty_may t latch.to (latch_in l latch at))
      where
        by_site : (site : Site) → KeepsTo c faults latch.to site → may_show site (given faults t latch.to.0) (trace c faults vectors t latch.to.0) ≡ true
            → may_show site (bit_at (raw_state c faults vectors t) l) (trace c faults vectors t latch.to.0) ≡ true
        by_site Free keeps may = refl
        by_site (Only value) keeps may = may
        by_site Intact keeps may =
            ap (λ own. same_bit own (trace c faults vectors t latch.to.0))
            (sym (held_is faults t l latch at ∙ ap (λ b. inverted b (bit_at (raw_state c faults vectors t) l)) (no_flip c faults l latch t at keeps)))
            ∙ may

    -- ---- from a cycle on

    abbrev golden_from : ℕ → Values
    golden_from t frame net = trace c [] vectors (t + frame) net

    abbrev faulty_from : ℕ → Values
    faulty_from t frame net = trace c faults vectors (t + frame) net

    by_table : (fs : List Fault) (t k : ℕ) (net : NetId) → driver_at c net.0 ≡ FromTable k → given fs t net.0 ≡ table_gives c (trace c fs vectors t) k
    by_table fs t k net driver = ap (driven (flipped fs t (raw_state c fs vectors t)) (vector_at vectors t) (table_gives c (trace c fs vectors t))) driver

    by_input : (fs : List Fault) (t k : ℕ) (net : NetId) → driver_at c net.0 ≡ Input k → given fs t net.0 ≡ bit_at (vector_at vectors t) k
    by_input fs t k net driver = ap (driven (flipped fs t (raw_state c fs vectors t)) (vector_at vectors t) (table_gives c (trace c fs vectors t))) driver

    tables : (t k : ℕ) (net : NetId) → IsNet c net → driver_at c net.0 ≡ FromTable k
        → (trace c [] vectors t net.0 ≡ table_gives c (trace c [] vectors t) k)
        × (may_show (region net.0) (table_gives c (trace c faults vectors t) k) (trace c faults vectors t net.0) ≡ true)
    tables t k net lt driver = (
      golden_is t net.0 lt ∙ by_table [] t k net driver,
      ap (λ own. may_show (region net.0) own (trace c faults vectors t net.0)) (sym (by_table faults t k net driver)) ∙ faulty_may t net lt,
    )

    inputs : (t k : ℕ) (net : NetId) → IsNet c net → driver_at c net.0 ≡ Input k
        → may_show (region net.0) (trace c [] vectors t net.0) (trace c faults vectors t net.0) ≡ true
    inputs t k net lt driver =
        ap (λ own. may_show (region net.0) own (trace c faults vectors t net.0))
        (golden_is t net.0 lt ∙ by_input [] t k net driver ∙ sym (by_input faults t k net driver))
        ∙ faulty_may t net lt

    pub latches : (t l : ℕ) (latch : Latch) → slice_get c.latches l ≡ Some latch
        → (trace c [] vectors (suc t) latch.to.0 ≡ trace c [] vectors t latch.from.0)
        × (may_show (region latch.to.0) (trace c faults vectors t latch.from.0) (trace c faults vectors (suc t) latch.to.0) ≡ true)
    latches t l latch at = (
      golden_held (suc t) l latch at ∙ taken [] t l latch at,
      ap (λ own. may_show (region latch.to.0) own (trace c faults vectors (suc t) latch.to.0)) (sym (taken faults t l latch at)) ∙ held_may (suc t) l latch at,
    )

    -- in the first cycle
    pub starts : (l : ℕ) (latch : Latch) → slice_get c.latches l ≡ Some latch
        → (trace c [] vectors 0 latch.to.0 ≡ latch.start) × (may_show (region latch.to.0) latch.start (trace c faults vectors 0 latch.to.0) ≡ true)
    starts l latch at = (
      golden_held 0 l latch at ∙ begun [] l latch at,
      ap (λ own. may_show (region latch.to.0) own (trace c faults vectors 0 latch.to.0)) (sym (begun faults l latch at)) ∙ held_may 0 l latch at,
    )

    one_later : (t frame : ℕ) → t + suc frame ≡ suc (t + frame)
    one_later t frame = omega arith

    latches_from : (t frame l : ℕ) (latch : Latch) → slice_get c.latches l ≡ Some latch
        → (golden_from t (suc frame) latch.to.0 ≡ golden_from t frame latch.from.0)
        × (may_show (region latch.to.0) (faulty_from t frame latch.from.0) (faulty_from t (suc frame) latch.to.0) ≡ true)
    latches_from t frame l latch at =
        let own = latches (t + frame) l latch at in (
          ap (λ u. trace c [] vectors u latch.to.0) (one_later t frame) ∙ own.0,
          ap (λ u. may_show (region latch.to.0) (faulty_from t frame latch.from.0) (trace c faults vectors u latch.to.0)) (one_later t frame) ∙ own.1,
        )

-- TWO RUNS ARE SO from a cycle on
pub are_so : (s : Stretch) (order : List NetId) → IsNetlist s.circuit → IsOrder s.circuit order → (vectors : List (List Bool)) (faults : List Fault)
    → LieWithin s.circuit faults s.region → (t : ℕ)
    → ((frame : ℕ) → frame ≤ s.last → All (λ h. (value : Bool) → held_at h (s.first + frame) ≡ Some value → trace s.circuit [] vectors (t + frame) h.net.0 ≡ value) s.held)
    → ((frame : ℕ) → frame ≤ s.last
    → All (λ (net : NetId). (trace s.circuit [] vectors (t + frame) net.0 ≡ false) × (frame ≤ s.until → trace s.circuit faults vectors (t + frame) net.0 ≡ false)) s.silent)
    → ((l : ℕ) (latch : Latch) → slice_get s.circuit.latches l ≡ Some latch
    → s.start latch (trace s.circuit [] vectors (t + 0) latch.to.0) (trace s.circuit faults vectors (t + 0) latch.to.0) ≡ true)
    → AreSo s (λ frame net. trace s.circuit [] vectors (t + frame) net) (λ frame net. trace s.circuit faults vectors (t + frame) net)
are_so s order sound ordered vectors faults within t held silent start = record {
  tables = λ frame k net le lt driver. tables s.circuit order sound ordered vectors s.region faults within (t + frame) k net lt driver;
  latches = λ frame l latch less at. latches_from s.circuit order sound ordered vectors s.region faults within t frame l latch at;
  inputs = λ frame k net le lt driver. inputs s.circuit order sound ordered vectors s.region faults within (t + frame) k net lt driver;
  held = held;
  silent = silent;
  start = start;
}
