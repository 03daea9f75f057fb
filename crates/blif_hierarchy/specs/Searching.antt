-- What Tarjan's search in depth for components keeps. Source: Tarjan (1972). The open nodes stand on a stack, cut into parts: each
-- begins with a node whose edges aren't all done, its frame. An open node reaches those of its own part and of the parts above it.
use Rattle.std.specs.Prelude.{◌≡◌, ◌≢◌, ℕ, ◌+◌, ◌<◌, ◌≤◌, ◌⊎◌, List, [], ◌∷◌, length, reverse, slice_index, slice_index_or, sum_by, Vec}
use Rattle.std.specs.declared.alloc.Global.{Global}
use Rattle.blif_hierarchy.specs.declared.scan.Frame.{Frame}
use Rattle.blif_hierarchy.specs.declared.scan.Mark.{Mark}
use Rattle.blif_hierarchy.specs.declared.scan.Mark.TheVariants.{New, Open, Done}
use Rattle.blif_hierarchy.specs.declared.search.Search.{Search}
use Rattle.blif_hierarchy.specs.Components.{Reaches, target, targets}

abbrev pub node_mark : List Mark → ℕ → Mark
node_mark marks x = slice_index_or marks x New

-- the steps that are left: a node is opened, and its edges end
abbrev pub node_steps_left : Mark → ℕ
node_steps_left New = 2
node_steps_left (Open place) = 0
node_steps_left (Done number) = 0

abbrev pub search_work_left : Search → ℕ
search_work_left s = sum_by node_steps_left s.marks.items + length s.path.items

-- no node becomes new
abbrev pub NoneNew : Search → Search → Type 0
NoneNew before now = (x : ℕ) → node_mark before.marks.items x ≢ New → node_mark now.marks.items x ≢ New

-- the mark of a node that is done, or open at this place or above it
abbrev pub IsSeen : ℕ → Mark → Type 0
IsSeen low New = ⊥
IsSeen low (Open place) = low ≤ place
IsSeen low (Done number) = Unit {0}

-- the mark of a node that is done, with this number or a smaller one
abbrev pub IsDoneUpTo : ℕ → Mark → Type 0
IsDoneUpTo most New = ⊥
IsDoneUpTo most (Open place) = ⊥
IsDoneUpTo most (Done number) = number ≤ most

-- what becomes of a mark where only places from this one on change: a node is opened there, or an open one is done
abbrev pub GoesOn : ℕ → ℕ → Mark → Mark → Type 0
GoesOn from number New now = (now ≡ New) ⊎ ((place : ℕ) × (now ≡ Open place) × (from ≤ place))
GoesOn from number (Open place) now = (now ≡ Open place) ⊎ ((from ≤ place) × (now ≡ Done number))
GoesOn from number (Done c) now = now ≡ Done c

abbrev pub MarksGoOn : ℕ → ℕ → List Mark → List Mark → Type 0
MarksGoOn from number before now = (x : ℕ) → GoesOn from number (node_mark before x) (node_mark now x)

-- the open nodes are those on the stack, each at its place
pub record IsStack (marks : List Mark) (nodes : List ℕ) : Type 0 where
  pub placed : (x p : ℕ) → node_mark marks x ≡ Open p → (p < length nodes) × (slice_index nodes p ≡ x)
  pub standing : (p : ℕ) → p < length nodes → node_mark marks (slice_index nodes p) ≡ Open p

-- the part of the stack from the frame's place up to this limit: `low` is a place that its nodes reach, and no edge of theirs that
-- was looked at leads below it
pub record IsStackPart (edges : List (Vec ℕ Global)) (marks : List Mark) (frame : Frame) (limit : ℕ) : Type 0 where
  pub inside : frame.place < limit
  pub here : node_mark marks frame.node ≡ Open frame.place
  pub lowest : frame.low ≤ frame.place
  pub back : (y : ℕ) × (node_mark marks y ≡ Open frame.low) × Reaches edges frame.node y
  pub reach : (x y p q : ℕ) → node_mark marks x ≡ Open p → node_mark marks y ≡ Open q → p < limit → frame.place ≤ q → q < limit
      → Reaches edges x y
  pub seen : (x p k : ℕ) → node_mark marks x ≡ Open p → frame.place ≤ p → p < limit → k < length (targets edges x)
      → ((x ≡ frame.node) × (frame.next ≤ k)) ⊎ IsSeen frame.low (node_mark marks (target edges x k))

-- the parts of a stack of so many nodes, the topmost first
abbrev pub AreParts : List (Vec ℕ Global) → List Mark → List Frame → ℕ → Type 0
AreParts edges marks [] limit = limit ≡ 0
AreParts edges marks (frame ∷ frames) limit = IsStackPart edges marks frame limit × AreParts edges marks frames frame.place

-- the components so far
pub record AreFoundComponents (edges : List (Vec ℕ Global)) (marks : List Mark) (count : ℕ) : Type 0 where
  pub below : (x c : ℕ) → node_mark marks x ≡ Done c → c < count
  pub down : (x c k : ℕ) → node_mark marks x ≡ Done c → k < length (targets edges x)
      → IsDoneUpTo c (node_mark marks (target edges x k))
  pub ring : (x y c : ℕ) → node_mark marks x ≡ Done c → node_mark marks y ≡ Done c → Reaches edges x y

pub record IsComponentSearch (edges : List (Vec ℕ Global)) (marks : List Mark) (nodes : List ℕ) (frames : List Frame) (count : ℕ)
    : Type 0 where
  pub sized : length marks ≡ length edges
  pub stack : IsStack marks nodes
  pub parts : AreParts edges marks frames (length nodes)
  pub done : AreFoundComponents edges marks count

-- the same of the search as the program has it, with these frames
abbrev pub SearchesAt : List (Vec ℕ Global) → Search → List Frame → Type 0
SearchesAt edges s frames = IsComponentSearch edges s.marks.items s.nodes.items frames (length s.roots.items)

abbrev pub ComponentSearches : List (Vec ℕ Global) → Search → Type 0
ComponentSearches edges s = SearchesAt edges s (reverse s.path.items)

-- where all open nodes reach this one, it is opened
abbrev pub OpensNode : Search → ℕ → Search → Type 0
OpensNode before node now = (edges : List (Vec ℕ Global)) → ComponentSearches edges before
    → ((x p : ℕ) → node_mark before.marks.items x ≡ Open p → Reaches edges x node) → ComponentSearches edges now

-- where this frame is topmost and its edges are all done, its part ends
abbrev pub EndsPart : Search → Frame → Search → Type 0
EndsPart before frame now = (edges : List (Vec ℕ Global)) → SearchesAt edges before (frame ∷ reverse before.path.items)
    → length (targets edges frame.node) ≤ frame.next → ComponentSearches edges now
