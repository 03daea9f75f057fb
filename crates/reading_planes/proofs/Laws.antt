-- The list of readings is that of the plan.
use Rattle.std.proofs.Common.{◌≡◌, ℕ, ◌<◌, Bool, true, false, arith, List, [], ◌∷◌, ◌++◌, length, map, refl, ap, ap₂, ◌∙◌}
use Rattle.std.specs.Prelude.{None, codes, decimal, flat_map, nat_lt, if◌then◌else◌}
use Rattle.std.specs.List.{All}
use Rattle.std.proofs.lemmas.List.{map-append}
use Rattle.std.proofs.lemmas.List.Elements.{All-append, All-cons, All-from_get_or, All-head, All-map, All-nil, All-tail}
use Rattle.circuit.specs.declared.parts.NetId.{NetId}
use Rattle.circuit.specs.Names.{net_name}
use Rattle.fm_base.specs.Lists.{below}
use Rattle.fm_base.proofs.Below.{below_small}
use Rattle.alarm_points.specs.declared.Goal.{Goal}
use Rattle.readings.specs.Breakdown.{Reading as PlanReading, goal_word, readings, with_alarms, with_goals, other_alarms}
use Rattle.campaign_plan.specs.Analysis.{with_interval}
use Rattle.reading_planes.specs.Readings.{IsReadingOf, ListGivesReadings, ListIsSound, PairsAreSound, PairsGivePlans, pair_of, reading_by}
use Rattle.reading_planes.specs.declared.reading.Reading.{Reading}
use Rattle.reading_planes.specs.declared.reading.Reading.TheVariants.{Bare, BareGoal, Goal as GoalAlone, Interval, Only, Whole, Without}
use Rattle.reading_planes.proofs.Lists.{by_numbers}

map_twice : {X Y Z : Type 0} (f : Y → Z) (g : X → Y) (xs : List X) → map f (map g xs) ≡ map (λ x. f (g x)) xs
map_twice f g [] = refl
map_twice f g (x ∷ xs) = ap (λ ys. f (g x) ∷ ys) (map_twice f g xs)

four : {X Y : Type 0} (f : X → Y) (x : X) (a b c d : List X) (y : Y) (a' b' c' d' : List Y) → f x ≡ y → map f a ≡ a' → map f b ≡ b' → map f c ≡ c' → map f d ≡ d'
    → map f (x ∷ a ++ b ++ c ++ d) ≡ y ∷ a' ++ b' ++ c' ++ d'
four f x a b c d y a' b' c' d' here ea eb ec ed =
    map-append f (x ∷ a ++ b ++ c) d
    ∙ ap₂ (λ u v. u ++ v) (map-append f (x ∷ a ++ b) c ∙ ap₂ (λ u v. u ++ v) (map-append f (x ∷ a) b ∙ ap₂ (λ u v. u ++ v) (ap₂ (λ u v. u ∷ v) here ea) eb) ec) ed

-- the readings of the list are those of the plan
pub readings_are : ListGivesReadings
unfolding readings
readings_are p intervals =
    four (reading_by p) Whole (map (λ g. GoalAlone g) (below (length p.points.goals))) (map (λ a. Without a) (below (length p.points.alarm)))
    (map (λ a. Only a) (below (length p.points.alarm))) (map (λ cycles. Interval cycles) intervals) (record { words = codes "all" ∷ []; plan = p })
    (map goal p.points.goals) (map without p.points.alarm) (map only p.points.alarm) (map each intervals)
    refl
    (map_twice (reading_by p) (λ g. GoalAlone g) (below (length p.points.goals)) ∙ by_numbers goal p.points.goals (record { name = []; ftti = None; observe = [] }))
    (map_twice (reading_by p) (λ a. Without a) (below (length p.points.alarm)) ∙ by_numbers without p.points.alarm (record { 0 = 0 }))
    (map_twice (reading_by p) (λ a. Only a) (below (length p.points.alarm)) ∙ by_numbers only p.points.alarm (record { 0 = 0 }))
    (map_twice (reading_by p) (λ cycles. Interval cycles) intervals)
  where
    goal : Goal → PlanReading
    goal g = record { words = codes "goal" ∷ goal_word g ∷ []; plan = with_goals p (g ∷ []) }

    without : NetId → PlanReading
    without net = record { words = codes "without" ∷ net_name p.circuit net.0 ∷ []; plan = with_alarms p (other_alarms p net) }

    only : NetId → PlanReading
    only net = record { words = codes "only" ∷ net_name p.circuit net.0 ∷ []; plan = with_alarms p (net ∷ []) }

    each : ℕ → PlanReading
    each ftti = record { words = codes "ftti" ∷ decimal ftti ∷ []; plan = with_interval p ftti }

-- all of them are readings of the points
pub list_sound : ListIsSound
list_sound points intervals =
    All-append (IsReadingOf points) (Whole ∷ goals ++ without ++ only) each
    (All-append (IsReadingOf points) (Whole ∷ goals ++ without) only
    (All-append (IsReadingOf points) (Whole ∷ goals) without
    (All-cons (IsReadingOf points) Whole goals tt (All-map (IsReadingOf points) (λ g. GoalAlone g) (below (length points.goals)) (below_small (length points.goals))))
    (All-map (IsReadingOf points) (λ a. Without a) (below (length points.alarm)) (below_small (length points.alarm))))
    (All-map (IsReadingOf points) (λ a. Only a) (below (length points.alarm)) (below_small (length points.alarm))))
    (All-map (IsReadingOf points) (λ cycles. Interval cycles) intervals (all_true intervals))
  where
    goals : List Reading
    goals = map (λ g. GoalAlone g) (below (length points.goals))

    without : List Reading
    without = map (λ a. Without a) (below (length points.alarm))

    only : List Reading
    only = map (λ a. Only a) (below (length points.alarm))

    each : List Reading
    each = map (λ cycles. Interval cycles) intervals

    all_true : (ns : List ℕ) → All (λ cycles. IsReadingOf points (Interval cycles)) ns
    all_true ns = All-from_get_or (λ cycles. IsReadingOf points (Interval cycles)) ns 0 (λ i lt. tt)

-- the readings of coverage
pub pairs_sound : PairsAreSound
pairs_sound points =
    All-cons (IsReadingOf points) Whole (Bare ∷ flat_map pair_of (below several)) tt
    (All-cons (IsReadingOf points) Bare (flat_map pair_of (below several)) tt (each (below several) few))
  where
    several : ℕ
    several = if nat_lt 1 (length points.goals) then length points.goals else 0

    few : All (λ g. g < length points.goals) (below several)
    few = by_test (nat_lt 1 (length points.goals))
      where
        by_test : (b : Bool) → All (λ g. g < length points.goals) (below (if b then length points.goals else 0))
        by_test true = below_small (length points.goals)
        by_test false = λ k d lt. (let small : All (λ g. g < 0) (below 0) = below_small 0 in absurd (omega (arith, small k d lt)))

    each : (gs : List ℕ) → All (λ g. g < length points.goals) gs → All (IsReadingOf points) (flat_map pair_of gs)
    each [] all = All-nil (IsReadingOf points)
    each (g ∷ gs) all =
        All-cons (IsReadingOf points) (GoalAlone g) (BareGoal g ∷ flat_map pair_of gs) (All-head (λ h. h < length points.goals) g gs all)
        (All-cons (IsReadingOf points) (BareGoal g) (flat_map pair_of gs) (All-head (λ h. h < length points.goals) g gs all)
        (each gs (All-tail (λ h. h < length points.goals) g gs all)))

pub pairs_plans : PairsGivePlans
pairs_plans p g = record { whole = refl; bare = refl; goal = refl; bare_goal = refl }
