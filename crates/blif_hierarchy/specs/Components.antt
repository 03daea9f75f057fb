-- Ways in a directed graph, and its strongly connected components. A node is a number; its edges are the numbers of other nodes.
use Rattle.std.specs.Prelude.{◌≡◌, ℕ, zero, suc, ◌<◌, ◌≤◌, List, [], length, slice_index, Vec}
use Rattle.std.specs.List.{slice_get}
use Rattle.std.specs.Option.{option_map_or}
use Rattle.std.specs.declared.alloc.Global.{Global}

-- the nodes to which a node has an edge
abbrev pub targets : List (Vec ℕ Global) → ℕ → List ℕ
targets edges x = option_map_or (λ v. v.items) (slice_get edges x) []

abbrev pub target : List (Vec ℕ Global) → ℕ → ℕ → ℕ
target edges x k = slice_index (targets edges x) k

-- each edge leads to a node
abbrev pub AreEdges : List (Vec ℕ Global) → Type 0
AreEdges edges = (x k : ℕ) → k < length (targets edges x) → target edges x k < length edges

-- a way of so many edges from one node to another
unfoldable pub Way : List (Vec ℕ Global) → ℕ → ℕ → ℕ → Type 0
Way edges zero x y = x ≡ y
Way edges (suc n) x y = (k : ℕ) × (k < length (targets edges x)) × Way edges n (target edges x k) y

-- there is a way
abbrev pub Reaches : List (Vec ℕ Global) → ℕ → ℕ → Type 0
Reaches edges x y = (n : ℕ) × Way edges n x y

-- each node has the number of its component: no edge leads to a greater number, and nodes of one number reach one another
pub record AreComponents (edges : List (Vec ℕ Global)) (numbers : List ℕ) : Type 0 where
  pub sized : length numbers ≡ length edges
  pub down : (x k : ℕ) → x < length edges → k < length (targets edges x) → slice_index numbers (target edges x k) ≤ slice_index numbers x
  pub ring : (x y : ℕ) → x < length edges → y < length edges → slice_index numbers x ≡ slice_index numbers y → Reaches edges x y
