-- The lines of upsets, by the numbers that are counted for them.
use Rattle.std.proofs.Common.{◌≡◌, ◌∙◌, ℕ, ◌+◌, ◌<◌, true, false, List, [], ◌∷◌, ◌++◌, length, refl, ap, ap₂, sym, arith}
use Rattle.std.specs.Prelude.{Bool, nat_lt, slice_index_or, All, if◌then◌else◌}
use Rattle.std.specs.List.{flat_map}
use Rattle.std.proofs.lemmas.List.Elements.{All-head, All-tail}
use Rattle.fm_base.specs.Names.{Bytes}
use Rattle.campaign_plan.specs.Analysis.{Analysis, fault_count}
use Rattle.coverage.specs.declared.Evidence.{Evidence}
use Rattle.coverage.specs.Upsets.{all_upsets, cycle_line, tried_upsets, upset_lines}
use Rattle.metric_coverage.specs.declared.cycles.CycleWeights.{CycleWeights}
use Rattle.metric_coverage.specs.Cycles.{AreCyclesWeighed, cycle_at, cycle_below}
use Rattle.metric_coverage.specs.Text.{cycle_by, upsets_line}

-- that of a cycle
cycle_told : (p : Analysis) (evidence : ℕ → Evidence) (cycle : ℕ) → cycle_by cycle (cycle_below p evidence cycle (fault_count p)) ≡ cycle_line p evidence cycle
unfolding cycle_line
cycle_told p evidence cycle = refl

-- texts that are the same for each number of a list
same_each : (f g : ℕ → Bytes) (xs : List ℕ) → All (λ x. f x ≡ g x) xs → flat_map f xs ≡ flat_map g xs
same_each f g [] same = refl
same_each f g (x ∷ xs) same = ap₂ (λ (a b : Bytes). a ++ b) (All-head (λ y. f y ≡ g y) x xs same) (same_each f g xs (All-tail (λ y. f y ≡ g y) x xs same))

module _ (p : Analysis) (evidence : ℕ → Evidence) (weights : List CycleWeights) (weighed : AreCyclesWeighed p evidence weights) where
  cycles_told : flat_map (λ cycle. cycle_by cycle (cycle_at weights cycle)) p.settings.flips ≡ flat_map (cycle_line p evidence) p.settings.flips
  cycles_told =
      same_each (λ cycle. cycle_by cycle (cycle_at weights cycle)) (cycle_line p evidence) p.settings.flips
      (λ k d lt. let cycle : ℕ = slice_index_or p.settings.flips k d in
      ap (cycle_by cycle) (weighed.each cycle (weighed.room k d lt)) ∙ cycle_told p evidence cycle)

  -- all of them, where a cycle is listed
  pub upsets_told : 0 < length p.settings.flips
      → upsets_line (tried_upsets p) (all_upsets p) ++ flat_map (λ cycle. cycle_by cycle (cycle_at weights cycle)) p.settings.flips ≡ upset_lines p evidence
  unfolding upset_lines
  upsets_told some =
      let listed : nat_lt 0 (length p.settings.flips) ≡ true = grind (arith, some) in
      ap (λ (lines : Bytes). upsets_line (tried_upsets p) (all_upsets p) ++ lines) cycles_told
      ∙ ap (λ (b : Bool). if b then upsets_line (tried_upsets p) (all_upsets p) ++ flat_map (cycle_line p evidence) p.settings.flips else []) (sym listed)

-- and nothing where none is
pub no_upsets_told : (p : Analysis) (evidence : ℕ → Evidence) → length p.settings.flips ≡ 0 → [] ≡ upset_lines p evidence
unfolding upset_lines
no_upsets_told p evidence none =
    let listed : nat_lt 0 (length p.settings.flips) ≡ false = grind (arith, none) in
    ap (λ (b : Bool). if b then upsets_line (tried_upsets p) (all_upsets p) ++ flat_map (cycle_line p evidence) p.settings.flips else []) (sym listed)
