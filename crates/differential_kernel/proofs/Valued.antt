-- The values that the tables of a cone read, in one lane.
use Rattle.std.proofs.Common.{◌≡◌, inl, inr, ℕ, ◌+◌, ◌<◌, Bool, true, false, List, length, get_or, ap, sym, subst, ◌∙◌}
use Rattle.std.proofs.lemmas.Bool.{cases_Bool, true≢false}
use Rattle.std.proofs.lemmas.List.Elements.{Contains-get_or}
use Rattle.circuit.specs.declared.parts.NetId.{NetId}
use Rattle.circuit.specs.Circuit.{Circuit}
use Rattle.circuit.specs.Order.{IsOrder, net_at}
use Rattle.circuit.specs.Sound.{IsNetOf, IsNetlist}
use Rattle.circuit.specs.Value.{bit_at, driven, driver_at, table_at, table_gives}
use Rattle.circuit.proofs.Walks.{driven_same}
use Rattle.fanout.specs.Readers.{IsReadAt, Ordered}
use Rattle.golden_difference.proofs.Exclusive.{either_same}
use Rattle.lane_words.specs.Bits.{either}
use Rattle.lane_words.specs.Gates.{latch_at, plane}
use Rattle.place_set.specs.Places.{Places, has, value_in}
use Rattle.differential_kernel.specs.Differences.{read_in}
use Rattle.differential_kernel.specs.Cone.{IsUnread, driven_at}
use Rattle.differential_kernel.specs.Shown.{told_in, valued_in}
use Rattle.differential_kernel.proofs.Cones.{driven_latch, driven_table}
use Rattle.differential_kernel.proofs.Told.{told_out, told_there, valued_out, valued_there}
use Rattle.differential_kernel.proofs.Walking.{latch_read, table_read}

module _ {W : Type 0} (bit : W → ℕ → Bool) (k : ℕ) (c : Circuit) (order : List NetId) (sound : IsNetlist c) (ordered : IsOrder c order) (row : List ℕ) (read nets : Places) (values : List W)
    (found : (n : ℕ) → n < length c.drivers → has read n ≡ false → IsUnread (record { circuit = c; order = order }) nets n)
    (given : (n : ℕ) → n < length c.drivers → has read n ≡ true → has nets n ≡ false → bit_at (plane bit k values) n ≡ value_in row n) where
  abbrev ordered_of : Ordered
  ordered_of = record { circuit = c; order = order }

  -- a net outside of the cone has its golden value, where it is read at a place that drives a net of the cone
  given_out : (n place : ℕ) → n < length c.drivers → IsReadAt ordered_of n place → has nets (driven_at ordered_of place) ≡ true → has nets n ≡ false
      → bit_at (plane bit k values) n ≡ value_in row n
  given_out n place net reads own none =
      elim (cases_Bool (has read n)) [
        | inl is ↦ given n net is none
        | inr unread ↦ absurd (true≢false (sym own ∙ (found n net unread).outside none place reads))
      ]

  -- so each net is valued that is read there
  valued_at : (n place : ℕ) → n < length c.drivers → IsReadAt ordered_of n place → has nets (driven_at ordered_of place) ≡ true
      → bit_at (plane bit k values) n ≡ valued_in bit k row nets values n
  valued_at n place net reads own =
      elim (cases_Bool (has nets n)) [
        | inl there ↦ sym (valued_there bit k row nets values n there)
        | inr none ↦ given_out n place net reads own none ∙ sym (valued_out bit k row nets values n none)
      ]

  -- what a table of the cone gives over these values
  pub given_there : (p : ℕ) (state inputs : List Bool) → p < length order → has nets (net_at order p).0 ≡ true
      → driven state inputs (table_gives c (bit_at (plane bit k values))) (driver_at c (net_at order p).0)
      ≡ driven state inputs (table_gives c (valued_in bit k row nets values)) (driver_at c (net_at order p).0)
  given_there p state inputs lt own =
      driven_same c state inputs (bit_at (plane bit k values)) (valued_in bit k row nets values) (driver_at c (net_at order p).0)
      (λ i driver j d within.
      let m : NetId = get_or (table_at c.tables i).ins j d in
      let fits = subst (IsNetOf c (net_at order p).0) driver (sound.nets (net_at order p).0 (ordered.nets p (record { 0 = 0 }) lt)) in
      valued_at m.0 p ((sound.tables i fits).ins j d within) (table_read ordered_of p i m lt driver (Contains-get_or (table_at c.tables i).ins j d within))
      (ap (has nets) (driven_table ordered_of p lt) ∙ own))

  -- a latch of the cone that takes a net outside of it takes a golden value
  given_latch : (l : ℕ) → l < length c.latches → has nets (latch_at c.latches l).to.0 ≡ true → has nets (latch_at c.latches l).from.0 ≡ false
      → bit_at (plane bit k values) (latch_at c.latches l).from.0 ≡ value_in row (latch_at c.latches l).from.0
  given_latch l lt own none =
      given_out (latch_at c.latches l).from.0 (length order + l) (sound.sources l (record { from = record { 0 = 0 }; to = record { 0 = 0 }; start = false }) lt)
      (latch_read ordered_of l lt) (ap (has nets) (driven_latch ordered_of l) ∙ own) none

  -- so each latch of the cone takes what its net is told to differ in
  pub latch_told : (l : ℕ) → l < length c.latches → has nets (latch_at c.latches l).to.0 ≡ true
      → read_in bit k row values (latch_at c.latches l).from.0 ≡ told_in bit k row nets values (latch_at c.latches l).from.0
  latch_told l lt own =
      elim (cases_Bool (has nets n)) [
        | inl there ↦ sym (told_there bit k row nets values n there)
        | inr none ↦ ap (either (value_in row n)) (given_latch l lt own none) ∙ either_same (value_in row n) ∙ sym (told_out bit k row nets values n none)
      ]
    where
      n : ℕ
      n = (latch_at c.latches l).from.0
