-- The faults that are simulated show what each fault is.
use Rattle.std.proofs.Common.{◌≡◌, ◌≢◌, ◌⊎◌, inl, inr, ℕ, zero, suc, ◌+◌, ◌*◌, ◌/◌, ◌%◌, ◌<◌, ◌≤◌, Bool, true, false, ◌&&◌, cond, List, [], ◌∷◌, ◌++◌, length, length-append, map, get_or, set, refl, add-one, suc-mul, ap, ap₂, sym, subst, ◌∙◌, arith}
use Rattle.std.specs.Prelude.{filter, Option, Some, slice_get, slice_index}
use Rattle.std.specs.Option.{option_map, option_to_list}
use Rattle.std.proofs.lemmas.Bool.{eq-eqb, eqb-true}
use Rattle.std.proofs.lemmas.List.Elements.{All-filter, filter-append}
use Rattle.std.specs.List.{All}
use Rattle.std.proofs.lemmas.List.{append-nil, get_or-set_other, get_or-set_same, get_or_append_left}
use Rattle.std.proofs.lemmas.List.FromFn.{length-range_with_len}
use Rattle.std.proofs.lemmas.List.Sums.{count_by-le-length, length-filter}
use Rattle.circuit.specs.declared.parts.Fault.{Fault}
use Rattle.circuit.specs.declared.parts.NetId.{NetId}
use Rattle.circuit.specs.Circuit.{Circuit}
use Rattle.circuit.specs.Order.{IsOrder}
use Rattle.fault_list.specs.Faults.{fault_at, fault_number, is_used}
use Rattle.fm_base.specs.Lists.{below}
use Rattle.fm_base.specs.Planes.{bit, plane_of}
use Rattle.fm_base.proofs.Below.{below_push, below_small}
use Rattle.fm_base.proofs.Bits.{bit-plane_of, plane_small}
use borrow.Author.Tests.{ltb-true}
use Rattle.campaign_plan.specs.declared.Outcome.{Outcome}
use Rattle.campaign_plan.specs.Analysis.{Analysis, all_faults}
use Rattle.campaign_plan.specs.Batches.{outcome_of, true_planes}
use Rattle.campaign_plan.specs.Danger.{is_dangerous, is_noticed}
use Rattle.campaign_plan.specs.Kept.{IsPlan}
use Rattle.classifier.specs.Planes.{planes_of}
use Rattle.classifier.proofs.PlaneBits.{plane_is, planes_have, planes_same}
use Rattle.workload.specs.declared.run.Run.{Run}
use Rattle.alarm_points.specs.declared.Points.{Points}
use Rattle.collapse_map.specs.Collapsed.{AreFaultsOf, Collapsed, is_own, rep_count, rep_of}
use Rattle.collapse_map.proofs.Kept.{looks_same, rep_again}
use Rattle.collapse_map.proofs.Numbered.{rep_there}
use Rattle.fault_collapse.specs.Chosen.{AreChosen, AreSimulated, danger_shown, faults_in, group_planes, notice_shown, place_for, planes_shown}
use Rattle.fault_collapse.specs.Outcomes.{AreAlike, collapsed_of}
use Rattle.fault_collapse.proofs.Alike.{look_alike}
use Rattle.collapse_map.proofs.Looking.{watched_nets}
use Rattle.std.proofs.Math.Seq.{get_or-append_seam}

-- ---- the list of chosen faults grows

pub chosen_more : (p : ℕ → Bool) (n : ℕ) → filter p (below (suc n)) ≡ filter p (below n) ++ cond (p n) (n ∷ []) []
chosen_more p n = ap (filter p) (below_push n) ∙ filter-append p (below n) (n ∷ [])

-- one more fault that is its own representative
pub chosen_yes : (p : ℕ → Bool) (n : ℕ) (numbers : List ℕ) → p n ≡ true → numbers ≡ filter p (below n) → numbers ++ n ∷ [] ≡ filter p (below (n + 1))
chosen_yes p n numbers e same =
    ap (λ (xs : List ℕ). xs ++ n ∷ []) same ∙ sym (ap (λ b. filter p (below n) ++ cond b (n ∷ []) []) e) ∙ sym (chosen_more p n) ∙ ap (λ k. filter p (below k)) (sym (add-one n))

-- and one that isn't
pub chosen_no : (p : ℕ → Bool) (n : ℕ) (numbers : List ℕ) → p n ≡ false → numbers ≡ filter p (below n) → numbers ≡ filter p (below (n + 1))
chosen_no p n numbers e same =
    same ∙ sym (append-nil (filter p (below n))) ∙ sym (ap (λ b. filter p (below n) ++ cond b (n ∷ []) []) e) ∙ sym (chosen_more p n) ∙ ap (λ k. filter p (below k)) (sym (add-one n))

-- the places so far
abbrev pub Places : Collapsed → List ℕ → List ℕ → ℕ → Type 0
Places s numbers places n = (k : ℕ) → k < n → is_own s k ≡ true → (slice_index places k < length numbers) × (slice_index numbers (slice_index places k) ≡ k)

pub places_yes : (s : Collapsed) (numbers places : List ℕ) (i : ℕ) → i < length places → Places s numbers places i → Places s (numbers ++ i ∷ []) (set places i (length numbers)) (i + 1)
places_yes s numbers places i within each k lt own = by_place (grind arith)
  where
    size : length (numbers ++ i ∷ []) ≡ length numbers + 1
    size = length-append numbers (i ∷ [])

    by_place : (k < i) ⊎ (k ≡ i)
        → (get_or (set places i (length numbers)) k 0 < length (numbers ++ i ∷ [])) × (get_or (numbers ++ i ∷ []) (get_or (set places i (length numbers)) k 0) 0 ≡ k)
    by_place (inl before) =
        let apart : k ≢ i = omega (arith, before) in
        let stays : get_or (set places i (length numbers)) k 0 ≡ get_or places k 0 = get_or-set_other places i k (length numbers) 0 apart in
        let old = each k before own in
        (omega (arith, stays, size, old), ap (λ j. get_or (numbers ++ i ∷ []) j 0) stays ∙ get_or_append_left numbers (i ∷ []) 0 (get_or places k 0) old.0 ∙ old.1)
    by_place (inr same) =
        let here : get_or (set places i (length numbers)) k 0 ≡ length numbers =
        ap (λ j. get_or (set places i (length numbers)) j 0) same ∙ get_or-set_same places i (length numbers) 0 within in
        (omega (arith, here, size), ap (λ j. get_or (numbers ++ i ∷ []) j 0) here ∙ get_or-append_seam numbers i [] 0 ∙ sym same)

pub places_no : (s : Collapsed) (numbers places : List ℕ) (i : ℕ) → (rep_of s i ≡ i → ⊥) → Places s numbers places i → Places s numbers places (i + 1)
places_no s numbers places i other each k lt own = by_place (grind arith)
  where
    by_place : (k < i) ⊎ (k ≡ i) → (get_or places k 0 < length numbers) × (get_or numbers (get_or places k 0) 0 ≡ k)
    by_place (inl before) = each k before own
    by_place (inr same) = absurd (other (subst (λ j. rep_of s j ≡ j) same (eqb-true (rep_of s k) k own)))

module _ (s : Collapsed) (numbers places : List ℕ) (chosen : AreChosen s numbers places) where
  -- the numbers are those of faults
  pub numbers_below : All (λ k. k < length s.faults) numbers
  numbers_below = subst (All (λ k. k < length s.faults)) (sym chosen.listed) (All-filter (is_own s) (λ k. k < length s.faults) (below (length s.faults)) (below_small (length s.faults)))

  -- there are as many as faults that are their own representatives
  pub numbers_counted : length numbers ≡ rep_count s
  unfolding rep_count
  numbers_counted = ap length chosen.listed ∙ length-filter (is_own s) (below (length s.faults))

  pub numbers_few : length numbers ≤ length s.faults
  unfolding below
  numbers_few =
      let size = length-range_with_len 0 (length s.faults) in
      let most = count_by-le-length (is_own s) (below (length s.faults)) in
      let count = ap length chosen.listed ∙ length-filter (is_own s) (below (length s.faults)) in
      omega arith

-- ---- what is simulated

-- a group's planes, by the lanes that were loaded with it
pub group_is : (p : Analysis) (net : Circuit) (points : Points) (runs : List Run) (ftti : ℕ) (loaded : ℕ → List Fault) (numbers : List ℕ) (group : ℕ)
    → net ≡ p.circuit → points ≡ p.points → runs ≡ p.runs → ftti ≡ p.settings.ftti → ((k : ℕ) → k < 64 → loaded k ≡ faults_in (all_faults p) numbers group k)
    → planes_of net points ftti runs loaded ≡ group_planes p numbers group
group_is p net points runs ftti loaded numbers group e f g h same =
    ap₂ (λ (n : Circuit) (x : Points). planes_of n x ftti runs loaded) e f
    ∙ ap₂ (λ t (rs : List Run). planes_of p.circuit p.points t rs loaded) h g
    ∙ planes_same p.circuit p.points p.settings.ftti p.runs loaded (faults_in (all_faults p) numbers group) same

pub times_more : (start n x : ℕ) → start + n * x + x ≡ start + (n + 1) * x
times_more start n x = let more : (n + 1) * x ≡ n * x + x = ap (λ k. k * x) (add-one n) ∙ suc-mul n x in omega (arith, more)

-- ---- what is read off

slice_get_at : {X : Type 0} (xs : List X) (i : ℕ) (d : X) → i < length xs → slice_get xs i ≡ Some (get_or xs i d)
slice_get_at [] i d lt = absurd (omega arith)
slice_get_at (x ∷ xs) zero d lt = refl
slice_get_at (x ∷ xs) (suc i) d lt = slice_get_at xs i d (omega arith)

module _ (p : Analysis) (order : List NetId) (plan : IsPlan p) (ordered : IsOrder p.circuit order) (numbers places : List ℕ) (found : List Outcome)
    (chosen : AreChosen (collapsed_of p) numbers places) (room : length numbers ≤ 64 * length found) (simulated : AreSimulated p numbers found) where
  abbrev s : Collapsed
  s = collapsed_of p

  listed : AreFaultsOf p.circuit (all_faults p)
  listed = record { flips = p.settings.flips; pulses = p.settings.pulses; listed = refl }

  -- the representative of each fault has a place
  module _ (i : ℕ) (within : i < length s.faults) where
    abbrev rep : ℕ
    rep = rep_of s i

    abbrev place : ℕ
    place = place_for s places i

    there : (rep < length s.faults) × (fault_at s.faults rep ≡ fault_at s.faults rep)
    there = ((rep_there s plan.netlist listed i within).0, refl)

    placed : (place < length numbers) × (get_or numbers place 0 ≡ rep)
    placed = chosen.each rep there.0 (eq-eqb (rep_of s rep) rep (rep_again s order plan.netlist ordered listed i within))

    pub has_lane : place / 64 < length found
    has_lane = let lt = placed.0 in omega (arith, lt, room)

    -- it stands in the lane that is read off
    in_lane : faults_in s.faults numbers (place / 64) (place % 64) ≡ fault_at s.faults rep ∷ []
    in_lane =
        let whole : 64 * (place / 64) + place % 64 ≡ place = omega arith in
        ap (λ k. option_to_list (option_map (fault_at s.faults) (slice_get numbers k))) whole
        ∙ ap (λ (o : Option ℕ). option_to_list (option_map (fault_at s.faults) o)) (slice_get_at numbers place 0 placed.0 ∙ ap Some placed.1)

    alike : AreAlike p.circuit p.points p.settings.ftti p.runs (fault_at s.faults i) (fault_at s.faults rep)
    alike = look_alike p.circuit p.points p.settings.ftti p.runs (fault_at s.faults i) (fault_at s.faults rep)
        (looks_same s order plan.netlist ordered listed (watched_nets p.circuit p.points plan.points) i within)

    lane : place % 64 < 64
    lane = omega arith

    danger_true : danger_shown s places found i ≡ is_dangerous p.circuit p.points p.settings.ftti p.runs (fault_at s.faults i ∷ [])
    danger_true =
        ap (λ (o : Outcome). bit o.danger (place % 64)) (simulated (place / 64) has_lane)
        ∙ (planes_have p.circuit p.points p.settings.ftti p.runs (faults_in s.faults numbers (place / 64))).danger (place % 64) lane
        ∙ ap (is_dangerous p.circuit p.points p.settings.ftti p.runs) in_lane
        ∙ sym alike.danger

    notice_true : notice_shown s places found i ≡ is_noticed p.circuit p.points p.runs (fault_at s.faults i ∷ [])
    notice_true =
        ap (λ (o : Outcome). bit o.noticed (place % 64)) (simulated (place / 64) has_lane)
        ∙ (planes_have p.circuit p.points p.settings.ftti p.runs (faults_in s.faults numbers (place / 64))).noticed (place % 64) lane
        ∙ ap (is_noticed p.circuit p.points p.runs) in_lane
        ∙ sym alike.noticed

  -- ---- the planes of a batch

  same_plane : (a b : ℕ → Bool) → ((k : ℕ) → k < 64 → a k ≡ b k) → plane_of a ≡ plane_of b
  same_plane a b same = plane_is (plane_of a) b (plane_small 64 a) (λ k lt. bit-plane_of a k lt ∙ same k lt)

  where_used : (used a b : Bool) → (used ≡ true → a ≡ b) → (used && a) ≡ (used && b)
  where_used true a b same = same refl
  where_used false a b same = refl

  -- THE PLANES THAT ARE READ OFF are the true ones
  pub planes_true : (batch : ℕ) → planes_shown s places found batch ≡ true_planes p batch
  unfolding planes_shown outcome_of
  planes_true batch = ap₂ (λ danger noticed. let planes : Outcome = record { danger = danger; noticed = noticed } in planes)
      (same_plane
      (λ k. is_used (length s.faults) batch k && danger_shown s places found (fault_number batch k))
      (λ k. is_used (length s.faults) batch k && is_dangerous p.circuit p.points p.settings.ftti p.runs (fault_at s.faults (fault_number batch k) ∷ []))
      (λ k lt. where_used (is_used (length s.faults) batch k) _ _ (λ used. danger_true (fault_number batch k) (ltb-true (fault_number batch k) (length s.faults) used))))
      (same_plane
      (λ k. is_used (length s.faults) batch k && notice_shown s places found (fault_number batch k))
      (λ k. is_used (length s.faults) batch k && is_noticed p.circuit p.points p.runs (fault_at s.faults (fault_number batch k) ∷ []))
      (λ k lt. where_used (is_used (length s.faults) batch k) _ _ (λ used. notice_true (fault_number batch k) (ltb-true (fault_number batch k) (length s.faults) used))))

  map_same : {X : Type 0} (f g : ℕ → X) (xs : List ℕ) → ((k : ℕ) → f k ≡ g k) → map f xs ≡ map g xs
  map_same f g [] same = refl
  map_same {X} f g (x ∷ xs) same = ap₂ (λ (y : X) (ys : List X). y ∷ ys) (same x) (map_same f g xs same)

  -- ALL PLANES are the true ones
  pub all_true : (batches : ℕ) → map (planes_shown s places found) (below batches) ≡ map (true_planes p) (below batches)
  all_true batches = map_same (planes_shown s places found) (true_planes p) (below batches) planes_true
