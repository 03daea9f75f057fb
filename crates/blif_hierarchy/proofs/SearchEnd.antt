-- The search at its end.
use Rattle.std.proofs.Common.{◌≡◌, ◌≢◌, ℕ, ◌<◌, ◌≤◌, List, length, map, refl, ap, sym, ◌∙◌, Vec, Global, arith}
use Rattle.std.specs.Prelude.{slice_index}
use Rattle.std.proofs.Math.ListN.{get_or-map}
use Rattle.std.proofs.lemmas.List.{length-map}
use Rattle.blif_hierarchy.specs.declared.scan.Frame.{Frame}
use Rattle.blif_hierarchy.specs.declared.scan.Mark.{Mark}
use Rattle.blif_hierarchy.specs.declared.scan.Mark.TheVariants.{New, Open, Done}
use Rattle.blif_hierarchy.specs.Components.{AreComponents, target}
use Rattle.blif_hierarchy.specs.Searching.{IsComponentSearch, IsDoneUpTo, node_mark}
use Rattle.blif_hierarchy.specs.NodeNumbers.{node_number}

module _ {edges : List (Vec ℕ Global)} {marks : List Mark} {nodes : List ℕ} {frames : List Frame} {count : ℕ}
    (s : IsComponentSearch edges marks nodes frames count) (idle : length nodes ≡ 0)
    (seen : (x : ℕ) → x < length edges → node_mark marks x ≢ New) where
  abbrev number : ℕ → ℕ
  number x = slice_index (map node_number marks) x

  number_is : (x : ℕ) → number x ≡ node_number (node_mark marks x)
  number_is x = get_or-map node_number marks x New

  is_done : (x : ℕ) (m : Mark) → x < length edges → node_mark marks x ≡ m → node_mark marks x ≡ Done (number x)
  is_done x New lt e = absurd (seen x lt e)
  is_done x (Open p) lt e = let h = (s.stack.placed x p e).0 in absurd (omega arith)
  is_done x (Done c) lt e = e ∙ ap Done (sym (number_is x ∙ ap node_number e))

  at_most : (most y : ℕ) → IsDoneUpTo most (node_mark marks y) → number y ≤ most
  at_most most y done = let e = number_is y in grind arith

  pub are_components : AreComponents edges (map node_number marks)
  are_components = record {
    sized = length-map marks node_number ∙ s.sized;
    down = λ x k lx lk. at_most (number x) (target edges x k) (s.done.down x _ k (is_done x _ lx refl) lk);
    ring = λ x y lx ly same. s.done.ring x y _ (is_done x _ lx refl) (is_done y _ ly refl ∙ ap Done (sym same));
  }
