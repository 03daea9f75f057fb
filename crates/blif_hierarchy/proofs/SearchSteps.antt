-- What each step of the search keeps.
use Rattle.std.proofs.Common.{◌≡◌, ℕ, ◌+◌, ◌<◌, ◌≤◌, ◌⊎◌, inl, inr, List, [], ◌∷◌, ◌++◌, length, min, refl, ap, sym, ◌∙◌, reverse, Vec, Global, arith}
use Rattle.std.specs.Prelude.{slice_set}
use Rattle.std.proofs.lemmas.Bool.{cases_eq}
use Rattle.std.proofs.lemmas.Grind.{common_steps}
use Rattle.std.proofs.lemmas.List.{get_or-set_same, get_or-set_other, length-set, length_push, reverse-append}
use Rattle.blif_hierarchy.specs.declared.scan.Frame.{Frame}
use Rattle.blif_hierarchy.specs.declared.scan.Mark.{Mark}
use Rattle.blif_hierarchy.specs.declared.scan.Mark.TheVariants.{New, Open, Done}
use Rattle.blif_hierarchy.specs.Components.{Reaches, target, targets}
use Rattle.blif_hierarchy.specs.Searching.{GoesOn, IsComponentSearch, IsDoneUpTo, IsSeen, IsStack, IsStackPart, MarksGoOn, node_mark}
use Rattle.blif_hierarchy.proofs.Parts.{joined, parts_stay, past}
use Rattle.blif_hierarchy.proofs.OpenNodes.{opened}
use Rattle.blif_hierarchy.proofs.Ways.{along, edge, join}

-- the topmost frame comes first
pub reversed : (path : List Frame) (frame : Frame) → reverse (path ++ frame ∷ []) ≡ frame ∷ reverse path
reversed path frame = reverse-append path (frame ∷ [])

still_done : (from number : ℕ) (before now : List Mark) → MarksGoOn from number before now
    → (most x : ℕ) → IsDoneUpTo most (node_mark before x) → IsDoneUpTo most (node_mark now x)
still_done from number before now go most x done = let g = go x in grind arith

-- the topmost frame goes on behind an edge
pub past_search : {edges : List (Vec ℕ Global)} {marks : List Mark} {nodes : List ℕ} {frame : Frame} {frames : List Frame} {count : ℕ}
    → IsComponentSearch edges marks nodes (frame ∷ frames) count → (y low : ℕ)
    → frame.next < length (targets edges frame.node) → y ≡ target edges frame.node frame.next → low ≤ frame.low
    → IsSeen low (node_mark marks y) → (low ≡ frame.low) ⊎ (node_mark marks y ≡ Open low)
    → IsComponentSearch edges marks nodes (record frame { low = low; next = frame.next + 1 } ∷ frames) count
past_search s y low more is least seen from =
    record { sized = s.sized; stack = s.stack; parts = (past s.parts.0 y low more is least seen from, s.parts.1); done = s.done }

-- all open nodes reach the node to which its next edge leads
pub next_reached : {edges : List (Vec ℕ Global)} {marks : List Mark} {nodes : List ℕ} {frame : Frame} {frames : List Frame} {count : ℕ}
    → IsComponentSearch edges marks nodes (frame ∷ frames) count → frame.next < length (targets edges frame.node)
    → (x p : ℕ) → node_mark marks x ≡ Open p → Reaches edges x (target edges frame.node frame.next)
next_reached {edges} {frame} s more x p o =
    let part = s.parts.0 in
    join edges x frame.node (target edges frame.node frame.next)
    (part.reach x frame.node p frame.place o part.here (s.stack.placed x p o).0 (omega arith) part.inside)
    (edge edges frame.node frame.next (target edges frame.node frame.next) more refl)

-- a node is opened that all open nodes reach
module _ {edges : List (Vec ℕ Global)} {marks : List Mark} {nodes : List ℕ} {frames : List Frame} {count y : ℕ}
    (s : IsComponentSearch edges marks nodes frames count) (new : node_mark marks y ≡ New) (fits : y < length marks)
    (reaches : (x p : ℕ) → node_mark marks x ≡ Open p → Reaches edges x y) where
  abbrev n : ℕ
  n = length nodes

  abbrev now : List Mark
  now = slice_set marks y (Open n)

  go : MarksGoOn n count marks now
  go x = grind (arith, common_steps)

  here : node_mark now y ≡ Open n
  here = get_or-set_same marks y (Open n) New fits

  -- only the new node is open above the others
  is_new : (x p : ℕ) → node_mark now x ≡ Open p → n ≤ p → x ≡ y
  is_new x p o above = grind (arith, common_steps, s.stack.placed x p)

  reaches_new : (x p : ℕ) → node_mark now x ≡ Open p → Reaches edges x y
  reaches_new x p o = elim (cases_eq x y) [
    | inl e ↦ along edges x y e
    | inr ne ↦ reaches x p (sym (get_or-set_other marks y x (Open n) New ne) ∙ o)
  ]

  was_done : (x c : ℕ) → node_mark now x ≡ Done c → node_mark marks x ≡ Done c
  was_done x c d = grind (arith, common_steps)

  part : IsStackPart edges now (record { node = y; place = n; low = n; next = 0 }) (n + 1)
  part = record {
    inside = omega arith;
    here = here;
    lowest = omega arith;
    back = (y, here, along edges y y refl);
    reach = λ x z p q o u lp above lq. rw (is_new z q u above) (reaches_new x p o);
    seen = λ x p k o above lp lk. inl (is_new x p o above, omega arith);
  }

  pub open_search : IsComponentSearch edges (slice_set marks y (Open (length nodes))) (nodes ++ y ∷ [])
      (record { node = y; place = length nodes; low = length nodes; next = 0 } ∷ frames) count
  open_search = record {
    sized = length-set marks y (Open n) ∙ s.sized;
    stack = opened marks nodes y s.stack fits new;
    parts = rw (length_push nodes y) (part, parts_stay edges marks now n count go frames n (omega arith) s.parts);
    done = record {
      below = λ x c d. s.done.below x c (was_done x c d);
      down = λ x c k d lk. still_done n count marks now go c (target edges x k) (s.done.down x c k (was_done x c d) lk);
      ring = λ x z c d e. s.done.ring x z c (was_done x c d) (was_done z c e);
    };
  }

-- the topmost part reaches below its place, and its edges are done
pub join_search : {edges : List (Vec ℕ Global)} {marks : List Mark} {nodes : List ℕ} {frame below : Frame} {frames : List Frame} {count : ℕ}
    → IsComponentSearch edges marks nodes (frame ∷ below ∷ frames) count
    → length (targets edges frame.node) ≤ frame.next → frame.low < frame.place
    → IsComponentSearch edges marks nodes (record below { low = min below.low frame.low } ∷ frames) count
join_search s finished deep =
    record { sized = s.sized; stack = s.stack; parts = (joined s.parts.0 s.parts.1.0 finished deep, s.parts.1.1); done = s.done }

-- the topmost part reaches none below its place, and its edges are done
module _ {edges : List (Vec ℕ Global)} {marks now : List Mark} {nodes left : List ℕ} {frame : Frame} {frames : List Frame} {count : ℕ}
    (s : IsComponentSearch edges marks nodes (frame ∷ frames) count) (finished : length (targets edges frame.node) ≤ frame.next)
    (high : frame.place ≤ frame.low) (stack : IsStack now left) (long : length left ≡ frame.place)
    (go : MarksGoOn frame.place count marks now) (sized : length now ≡ length marks) where
  -- what the part leads to is done
  leads_to_done : (x : ℕ) (m : Mark) → node_mark marks x ≡ m → IsSeen frame.low m → GoesOn frame.place count m (node_mark now x)
      → IsDoneUpTo count (node_mark now x)
  leads_to_done x New n seen g = absurd seen
  leads_to_done x (Open p) o seen (inl u) = let h = (stack.placed x p u).0 in absurd (omega arith)
  leads_to_done x (Open p) o seen (inr d) = rw d.1 (omega arith)
  leads_to_done x (Done c) d seen g = rw g (let h = s.done.below x c d in omega arith)

  -- what is done was done, or stood in the part
  done_back : (x c : ℕ) → node_mark now x ≡ Done c
      → (node_mark marks x ≡ Done c) ⊎ ((p : ℕ) × (node_mark marks x ≡ Open p) × (frame.place ≤ p) × (c ≡ count))
  done_back x c d = let g = go x in grind arith

  pub close_search : IsComponentSearch edges now left frames (count + 1)
  close_search = record {
    sized = sized ∙ s.sized;
    stack = stack;
    parts = rw long (parts_stay edges marks now frame.place count go frames frame.place (omega arith) s.parts.1);
    done = record {
      below = λ x c d. elim (done_back x c d) [
        | inl old ↦ (let h = s.done.below x c old in omega arith)
        | inr new ↦ (let h = new.3 in omega arith)
      ];
      down = λ x c k d lk. elim (done_back x c d) [
        | inl old ↦ still_done frame.place count marks now go c (target edges x k) (s.done.down x c k old lk)
        | inr new ↦ elim (s.parts.0.seen x new.0 k new.1 new.2 (s.stack.placed x new.0 new.1).0 lk) [
          | inl next ↦ (let f = ap (λ (n : ℕ). length (targets edges n)) next.0 in let from = next.1 in absurd (omega arith))
          | inr seen ↦ rw new.3 (leads_to_done (target edges x k) (node_mark marks (target edges x k)) refl seen (go (target edges x k)))
        ]
      ];
      ring = λ x z c d f. elim (done_back x c d) [
        | inl old ↦ elim (done_back z c f) [
          | inl as_old ↦ s.done.ring x z c old as_old
          | inr new ↦ (let h = s.done.below x c old in let same = new.3 in absurd (omega arith))
        ]
        | inr new ↦ elim (done_back z c f) [
          | inl old ↦ (let h = s.done.below z c old in let same = new.3 in absurd (omega arith))
          | inr as_new ↦
              s.parts.0.reach x z new.0 as_new.0 new.1 as_new.1 (s.stack.placed x new.0 new.1).0 as_new.2
              (s.stack.placed z as_new.0 as_new.1).0
        ]
      ];
    };
  }
