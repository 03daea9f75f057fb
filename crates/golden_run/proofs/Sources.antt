-- The nets of latches and inputs, one more.
use Rattle.std.proofs.Common.{◌≡◌, ◌≢◌, inl, inr, ℕ, ◌+◌, ◌<◌, ◌==◌, Bool, false, cond, List, length, refl, ap, sym, subst, ◌∙◌, arith}
use Rattle.std.proofs.lemmas.Bool.{cases_eq}
use Rattle.std.proofs.lemmas.Option.{get_or_from_slice_get, slice_get-get_or, slice_get_within}
use Rattle.circuit.specs.declared.parts.Driver.{Driver}
use Rattle.circuit.specs.declared.parts.Driver.TheVariants.{Input, Table as FromTable, Latch as FromLatch}
use Rattle.circuit.specs.declared.parts.Latch.{Latch}
use Rattle.circuit.specs.declared.parts.NetId.{NetId}
use Rattle.circuit.specs.Circuit.{Circuit}
use Rattle.circuit.specs.Order.{net_at}
use Rattle.circuit.specs.Sound.{IsNetOf, IsNetlist}
use Rattle.circuit.specs.Value.{bit_at, driven, driver_at}
use Rattle.lane_words.specs.Gates.{latch_at}
use Rattle.place_set.specs.Places.{value_in}
use Rattle.golden_run.specs.Events.{IsSource}
use Rattle.golden_run.proofs.Settling.{at_here, at_other}

abbrev number_of : Driver → ℕ
number_of (Input k) = k
number_of (FromTable k) = k
number_of (FromLatch k) = k

pub input_driver : (c : Circuit) → IsNetlist c → (i : ℕ) → i < length c.inputs → driver_at c (net_at c.inputs i).0 ≡ Input i
input_driver c sound i lt =
    get_or_from_slice_get c.drivers (net_at c.inputs i).0 (Input i) (Input 0) (sound.inputs i (net_at c.inputs i) (slice_get-get_or c.inputs i (record { 0 = 0 }) lt))

pub input_within : (c : Circuit) → IsNetlist c → (i : ℕ) → i < length c.inputs → (net_at c.inputs i).0 < length c.drivers
input_within c sound i lt =
    slice_get_within c.drivers (net_at c.inputs i).0 (Input i) (sound.inputs i (net_at c.inputs i) (slice_get-get_or c.inputs i (record { 0 = 0 }) lt))

-- the net that an input drives is that of the input
pub input_net : (c : Circuit) → IsNetlist c → (n k : ℕ) → n < length c.drivers → driver_at c n ≡ Input k → (k < length c.inputs) × (n ≡ (net_at c.inputs k).0)
input_net c sound n k lt driver =
    let is = subst (IsNetOf c n) driver (sound.nets n lt) in (
      slice_get_within c.inputs k (record { 0 = n }) is,
      sym (ap (λ (m : NetId). m.0) (get_or_from_slice_get c.inputs k (record { 0 = n }) (record { 0 = 0 }) is)),
    )

-- and likewise of a latch
pub latch_net : (c : Circuit) → IsNetlist c → (n k : ℕ) → n < length c.drivers → driver_at c n ≡ FromLatch k → (k < length c.latches) × (n ≡ (latch_at c.latches k).to.0)
latch_net c sound n k lt driver =
    let is = subst (IsNetOf c n) driver (sound.nets n lt) in (
      slice_get_within c.latches k is.0 is.1,
      sym (ap (λ (latch : Latch). latch.to.0) (get_or_from_slice_get c.latches k is.0 (record { from = record { 0 = 0 }; to = record { 0 = 0 }; start = false }) is.1) ∙ is.2),
    )

-- the net of a latch or of an input is no table's
pub latch_source : (c : Circuit) (n l : ℕ) → driver_at c n ≡ FromLatch l → IsSource c n
latch_source c n l driver k table = let e : FromLatch l ≡ FromTable k = sym driver ∙ table in cc

pub input_source : (c : Circuit) (n i : ℕ) → driver_at c n ≡ Input i → IsSource c n
input_source c n i driver k table = let e : Input i ≡ FromTable k = sym driver ∙ table in cc

-- ONE NET MORE SHOWS ITS BIT, of those with drivers of a kind
pub shown_more : (c : Circuit) (kind : ℕ → Driver) (net l : ℕ) (bits : List Bool) (old new : List ℕ) → ((k : ℕ) → number_of (kind k) ≡ k)
    → driver_at c net ≡ kind l → ((n : ℕ) → n < length c.drivers → driver_at c n ≡ kind l → n ≡ net)
    → ((n : ℕ) → value_in new n ≡ cond (n == net) (bit_at bits l) (value_in old n))
    → ((n k : ℕ) → n < length c.drivers → driver_at c n ≡ kind k → k < l → value_in old n ≡ bit_at bits k)
    → (n k : ℕ) → n < length c.drivers → driver_at c n ≡ kind k → k < l + 1 → value_in new n ≡ bit_at bits k
shown_more c kind net l bits old new number own only is before n k lt driver less =
    elim (cases_eq k l) [
      | inl same ↦
          ap (value_in new) (only n lt (driver ∙ ap kind same)) ∙ at_here old new net (bit_at bits l) is ∙ ap (bit_at bits) (sym same)
      | inr other ↦
          (let apart : n ≢ net = λ e. other (sym (number k) ∙ ap number_of (sym driver ∙ ap (driver_at c) e ∙ own) ∙ number l) in
          at_other old new net (bit_at bits l) n is apart ∙ before n k lt driver (omega (arith, less, other)))
    ]

-- where latches and inputs show their bits, each net that no table drives has what its driver gives
pub sources_shown : (c : Circuit) (raw inputs : List Bool) (row : List ℕ)
    → ((n k : ℕ) → n < length c.drivers → driver_at c n ≡ FromLatch k → value_in row n ≡ bit_at raw k)
    → ((n k : ℕ) → n < length c.drivers → driver_at c n ≡ Input k → value_in row n ≡ bit_at inputs k)
    → (n : ℕ) → n < length c.drivers → IsSource c n → value_in row n ≡ driven raw inputs (λ k. false) (driver_at c n)
sources_shown c raw inputs row latches ins n lt source = by_driver (driver_at c n) refl
  where
    by_driver : (d : Driver) → driver_at c n ≡ d → value_in row n ≡ driven raw inputs (λ k. false) (driver_at c n)
    by_driver (Input k) e = ins n k lt e ∙ sym (ap (driven raw inputs (λ k. false)) e)
    by_driver (FromTable k) e = absurd (source k e)
    by_driver (FromLatch k) e = latches n k lt e ∙ sym (ap (driven raw inputs (λ k. false)) e)
