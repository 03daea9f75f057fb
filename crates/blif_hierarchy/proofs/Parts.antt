-- The parts of the stack.
use Rattle.std.proofs.Common.{◌≡◌, ℕ, ◌+◌, ◌<◌, ◌≤◌, ◌⊎◌, inl, inr, List, [], ◌∷◌, length, min, ap, sym, ◌∙◌, Vec, Global, arith}
use Rattle.std.proofs.lemmas.Bool.{cases_eq, cases_lt}
use Rattle.blif_hierarchy.specs.declared.scan.Frame.{Frame}
use Rattle.blif_hierarchy.specs.declared.scan.Mark.{Mark}
use Rattle.blif_hierarchy.specs.declared.scan.Mark.TheVariants.{Open}
use Rattle.blif_hierarchy.specs.Components.{Reaches, target, targets}
use Rattle.blif_hierarchy.specs.Searching.{AreParts, IsSeen, IsStackPart, MarksGoOn, node_mark}
use Rattle.blif_hierarchy.proofs.Ways.{edge, join}

-- parts below the places that change stay
module _ (edges : List (Vec ℕ Global)) (marks now : List Mark) (from number : ℕ) (go : MarksGoOn from number marks now) where
  still_open : (x p : ℕ) → node_mark marks x ≡ Open p → p < from → node_mark now x ≡ Open p
  still_open x p o lt = let g = go x in grind arith

  was_open : (x p : ℕ) → node_mark now x ≡ Open p → p < from → node_mark marks x ≡ Open p
  was_open x p o lt = let g = go x in grind arith

  still_seen : (low y : ℕ) → IsSeen low (node_mark marks y) → IsSeen low (node_mark now y)
  still_seen low y seen = let g = go y in grind arith

  part_stays : (frame : Frame) (limit : ℕ) → limit ≤ from → IsStackPart edges marks frame limit → IsStackPart edges now frame limit
  part_stays frame limit le s =
      let inside = s.inside in
      let lowest = s.lowest in
      record {
        inside = inside;
        here = still_open frame.node frame.place s.here (omega arith);
        lowest = lowest;
        back = (s.back.0, still_open s.back.0 frame.low s.back.1 (omega arith), s.back.2);
        reach = λ x y p q o u lp above lq. s.reach x y p q (was_open x p o (omega arith)) (was_open y q u (omega arith)) lp above lq;
        seen = λ x p k o above lp lk. elim (s.seen x p k (was_open x p o (omega arith)) above lp lk) [
          | inl next ↦ inl next
          | inr seen ↦ inr (still_seen frame.low (target edges x k) seen)
        ];
      }

  pub parts_stay : (frames : List Frame) (limit : ℕ) → limit ≤ from → AreParts edges marks frames limit → AreParts edges now frames limit
  parts_stay [] limit le s = s
  parts_stay (frame ∷ frames) limit le s =
      (part_stays frame limit le s.0, parts_stay frames frame.place (let inside = s.0.inside in omega arith) s.1)

-- the frame after one more edge
module _ {edges : List (Vec ℕ Global)} {marks : List Mark} {frame : Frame} {limit : ℕ} (s : IsStackPart edges marks frame limit) (y low : ℕ)
    (more : frame.next < length (targets edges frame.node)) (is : y ≡ target edges frame.node frame.next) (least : low ≤ frame.low)
    (seen : IsSeen low (node_mark marks y)) (from : (low ≡ frame.low) ⊎ (node_mark marks y ≡ Open low)) where
  lower : (m : Mark) → IsSeen frame.low m → IsSeen low m
  lower m s = grind arith

  pub past : IsStackPart edges marks (record frame { low = low; next = frame.next + 1 }) limit
  past = record {
    inside = s.inside;
    here = s.here;
    lowest = let old = s.lowest in omega arith;
    back = elim from [
      | inl same ↦ (s.back.0, s.back.1 ∙ ap Open (sym same), s.back.2)
      | inr o ↦ (y, o, edge edges frame.node frame.next y more (sym is))
    ];
    reach = s.reach;
    seen = λ x p k o above lp lk. elim (s.seen x p k o above lp lk) [
      | inl next ↦ elim (cases_eq k frame.next) [
        | inl e ↦ inr (rw (next.0, e, ← is) seen)
        | inr ne ↦ inl (next.0, let after = next.1 in omega arith)
      ]
      | inr old ↦ inr (lower (node_mark marks (target edges x k)) old)
    ];
  }

-- a part that reaches below its place, and the part there, are one
module _ {edges : List (Vec ℕ Global)} {marks : List Mark} {frame below : Frame} {limit : ℕ} (s : IsStackPart edges marks frame limit)
    (under : IsStackPart edges marks below frame.place) (finished : length (targets edges frame.node) ≤ frame.next)
    (deep : frame.low < frame.place) where
  abbrev low : ℕ
  low = min below.low frame.low

  as_low : (most : ℕ) (m : Mark) → low ≤ most → IsSeen most m → IsSeen low m
  as_low most m le seen = grind arith

  -- all open nodes reach the place that the part reaches
  far : (x p : ℕ) → node_mark marks x ≡ Open p → p < limit → Reaches edges x s.back.0
  far x p o lp = join edges x frame.node s.back.0 (s.reach x frame.node p frame.place o s.here lp (omega arith) s.inside) s.back.2

  pub joined : IsStackPart edges marks (record below { low = min below.low frame.low }) limit
  joined =
      let inside = s.inside in
      let lower = under.inside in
      record {
        inside = omega arith;
        here = under.here;
        lowest = let old = under.lowest in omega arith;
        back = elim (cases_lt frame.low below.low) [
          | inl less ↦
              (let e : frame.low ≡ low = omega arith in
              (s.back.0, s.back.1 ∙ ap Open e, far below.node below.place under.here (omega arith)))
          | inr more ↦ (let e : below.low ≡ low = omega arith in (under.back.0, under.back.1 ∙ ap Open e, under.back.2))
        ];
        reach = λ x y p q o u lp above lq. elim (cases_lt q frame.place) [
          | inl low ↦ join edges x s.back.0 y (far x p o lp) (under.reach s.back.0 y frame.low q s.back.1 u deep above low)
          | inr high ↦ s.reach x y p q o u lp high lq
        ];
        seen = λ x p k o above lp lk. elim (cases_lt p frame.place) [
          | inl low ↦ elim (under.seen x p k o above low lk) [
            | inl next ↦ inl next
            | inr old ↦ inr (as_low below.low (node_mark marks (target edges x k)) (omega arith) old)
          ]
          | inr high ↦ elim (s.seen x p k o high lp lk) [
            | inl next ↦ (let e = ap (λ (n : ℕ). length (targets edges n)) next.0 in let from = next.1 in absurd (omega arith))
            | inr old ↦ inr (as_low frame.low (node_mark marks (target edges x k)) (omega arith) old)
          ]
        ];
      }
