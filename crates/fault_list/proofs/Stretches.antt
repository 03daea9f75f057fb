-- The cycles of a stretch: they rise, and there are at most 65,536 of them.
use Rattle.std.proofs.Common.{◌≡◌, ℕ, ◌+◌, ◌-◌, ◌*◌, ◌/◌, ◌<◌, ◌≤◌, List, Option, Some, None, length, get_or, ap, sym, subst, ◌∙◌, arith, div-le_self, div-mul-le_self, mul-le-mul_right}
use Rattle.std.proofs.lemmas.List.{get_or-map, length-map}
use Rattle.std.proofs.lemmas.List.FromFn.{get_or-range_with_len, length-range_with_len}
use Rattle.fm_base.specs.Lists.{below}
use Rattle.fault_list.specs.declared.stretch.Stretch.{Stretch}
use Rattle.fault_list.specs.Faults.{AreCycles}
use Rattle.fault_list.specs.Kept.{most_flips}
use Rattle.fault_list.specs.Stretch.{AreFlipCycles, IsStretch, cycles_within}

module _ (s : Stretch) where
  -- the number of its cycles
  abbrev pub count : ℕ
  count = (s.last - s.first) / s.step + 1

  -- a cycle of it isn't above LAST
  pub within : IsStretch s → (k : ℕ) → k < count → s.step * k ≤ s.last - s.first
  within is k lt =
      let steps : k ≤ (s.last - s.first) / s.step = omega (arith, lt) in
      let low : k * s.step ≤ (s.last - s.first) / s.step * s.step = mul-le-mul_right s.step steps in
      let high : (s.last - s.first) / s.step * s.step ≤ s.last - s.first = div-mul-le_self (s.last - s.first) s.step in
      grind (arith, low, high)

  pub few : IsStretch s → count ≤ most_flips
  few is =
      let le : (s.last - s.first) / s.step ≤ s.last - s.first = div-le_self (s.last - s.first) s.step in
      omega (arith, le, is.small)

  length-cycles : length (cycles_within s) ≡ count
  unfolding below
  length-cycles = length-map (below count) (λ k. s.first + s.step * k) ∙ length-range_with_len 0 count

  cycle_at : (k d : ℕ) → k < count → get_or (cycles_within s) k d ≡ s.first + s.step * k
  unfolding below
  cycle_at k d lt =
      let size = length-range_with_len 0 count in
      let number : get_or (below count) k 0 ≡ k = get_or-range_with_len 0 count k 0 lt ∙ omega arith in
      get_or-map (λ k. s.first + s.step * k) (below count) k 0 d (omega (arith, size, lt)) ∙ ap (λ n. s.first + s.step * n) number

  are_within : IsStretch s → AreCycles most_flips (cycles_within s)
  are_within is = record {
    few = let size = length-cycles in let most = few is in omega (arith, size, most);
    rising = λ k lt.
        let size = length-cycles in
        let here = cycle_at k 0 (omega (arith, lt, size)) in
        let next = cycle_at (k + 1) 0 (omega (arith, lt, size)) in
        grind (arith, here, next, is.step.0);
    small = λ k d lt.
        let size = length-cycles in
        let here = cycle_at k d (omega (arith, lt, size)) in
        let most = within is k (omega (arith, lt, size)) in
        omega (arith, here, most, is.small, is.ordered);
  }

-- cycles of flips, however they are given
pub are_cycles : (stretch : Option Stretch) (flips : List ℕ) → AreFlipCycles stretch flips → AreCycles most_flips flips
are_cycles None flips are = record { few = omega (arith, are.few); rising = are.rising; small = are.small }
are_cycles (Some s) flips are = subst (AreCycles most_flips) (sym are.1) (are_within s are.0)
