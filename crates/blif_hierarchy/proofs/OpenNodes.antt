-- The stack of open nodes, and the marks that change with it.
use Rattle.std.proofs.Common.{◌≡◌, ℕ, ◌+◌, ◌<◌, ◌≤◌, List, [], ◌∷◌, ◌++◌, length, get_or, take, sum_by, arith}
use Rattle.std.specs.Prelude.{slice_set}
use Rattle.std.proofs.lemmas.Grind.{common_steps}
use Rattle.std.proofs.lemmas.List.{get_or_default, get_or_past}
use Rattle.std.proofs.lemmas.List.Sums.{sum_by-set}
use Rattle.blif_hierarchy.specs.declared.scan.Mark.{Mark}
use Rattle.blif_hierarchy.specs.declared.scan.Mark.TheVariants.{New, Open, Done}
use Rattle.blif_hierarchy.specs.Searching.{IsStack, MarksGoOn, node_mark, node_steps_left}

pub opened : (marks : List Mark) (nodes : List ℕ) (y : ℕ) → IsStack marks nodes → y < length marks → node_mark marks y ≡ New
    → IsStack (slice_set marks y (Open (length nodes))) (nodes ++ y ∷ [])
opened marks nodes y s fits new = record {
  placed = λ x p o. grind (arith, common_steps, s.placed x p);
  standing = λ p lt. grind (arith, common_steps, s.standing p);
}

-- nodes from a place on that get the number of their component, the topmost first: what holds while some are left
pub record Numbers (place number : ℕ) (before marks : List Mark) (nodes : List ℕ) : Type 0 where
  pub stack : IsStack marks nodes
  pub left : place ≤ length nodes
  pub go_on : MarksGoOn place number before marks
  pub new : (x : ℕ) → node_mark before x ≡ New → node_mark marks x ≡ New
  pub sized : length marks ≡ length before
  pub less : sum_by node_steps_left marks ≤ sum_by node_steps_left before

module _ {place number : ℕ} {before marks : List Mark} {nodes : List ℕ} (s : Numbers place number before marks nodes) (top node : ℕ)
    (lt : place ≤ top) (last : length nodes ≡ top + 1) (is : node ≡ get_or nodes top node) where
  top_is : node_mark marks node ≡ Open top
  top_is = let h = s.stack.standing top (omega arith) in let e = get_or_default nodes top node 0 (omega arith) in grind arith

  pub top_fits : node < length marks
  top_fits = let h = top_is in grind (arith, common_steps, get_or_past marks node New)

  pub numbered : Numbers place number before (slice_set marks node (Done number)) (take top nodes)
  numbered = let h = top_is in let f = top_fits in record {
    stack = record {
      placed = λ x p o. grind (arith, common_steps, s.stack.placed x p);
      standing = λ p under. grind (arith, common_steps, s.stack.standing p);
    };
    left = grind (arith, common_steps);
    go_on = λ x. let g = s.go_on x in grind (arith, common_steps, s.new x);
    new = λ x n. grind (arith, common_steps, s.new x);
    sized = grind (arith, common_steps);
    less = let e = sum_by-set node_steps_left marks node (Done number) New f in let old = s.less in omega arith;
  }
