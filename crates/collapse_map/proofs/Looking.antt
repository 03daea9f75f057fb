-- One more look at a net.
use Rattle.std.proofs.Common.{◌≡◌, ◌≢◌, ◌⊎◌, inl, inr, ℕ, zero, suc, ◌+◌, ◌<◌, ◌≤◌, Bool, true, false, cond, List, [], ◌∷◌, ◌++◌, length, get_or, map, set, take, append_assoc, refl, ap, ap₂, sym, subst, ◌∙◌, arith}
use Rattle.std.specs.Prelude.{count_by, flat_map, ◌==◌}
use Rattle.std.proofs.lemmas.List.{flat_map_more, map-append, take_more}
use Rattle.std.proofs.lemmas.Bool.{eq-eqb, eqb-true}
use Rattle.fm_base.proofs.Tests.{false_of}
use Rattle.std.proofs.lemmas.List.{get_or-set_other, get_or-set_same, length-set}
use Rattle.std.proofs.lemmas.List.Sums.{sum_by_push}
use Rattle.circuit.specs.declared.parts.NetId.{NetId}
use Rattle.std.specs.List.{All, list_any}
use Rattle.std.proofs.lemmas.List.{length-map}
use Rattle.std.proofs.lemmas.List.Elements.{All-head, All-tail, All-append}
use Rattle.std.proofs.lemmas.List.Folds.{list_any_at}
use Rattle.std.proofs.lemmas.Map.Steps.{le-length_from_below}
use Rattle.std.proofs.lemmas.Option.{get_or_from_slice_get, slice_get_within}
use Rattle.std.proofs.Math.ListN.{get_or-map}
use Rattle.circuit.specs.declared.parts.Driver.{Driver}
use Rattle.circuit.specs.declared.parts.Driver.TheVariants.{Input, Table as FromTable, Latch as FromLatch}
use Rattle.circuit.specs.Circuit.{Circuit}
use Rattle.circuit.specs.Sound.{IsNet, IsNetlist}
use Rattle.circuit.specs.Value.{table_at}
use Rattle.alarm_points.specs.declared.Goal.{Goal}
use Rattle.alarm_points.specs.declared.Points.{Points}
use Rattle.alarm_points.specs.PointsFile.{observed}
use Rattle.alarm_points.specs.PointsKept.{ArePointsFor}
use Rattle.collapse_map.specs.Collapsed.{watched}
use Rattle.collapse_map.specs.Looks.{AreLooks, looks_for, one_more_look}
use Rattle.collapse_map.specs.Next.{is_net}
use Rattle.collapse_map.specs.declared.looks.Looks.{Looks}
use Rattle.collapse_map.specs.declared.looks.Looks.TheVariants.{Nobody, One, More}
use Rattle.fm_base.proofs.Lists.{all_left, all_right}

more_for : (count : ℕ) → one_more_look (looks_for count) ≡ looks_for (suc count)
more_for zero = refl
more_for (suc zero) = refl
more_for (suc (suc count)) = refl

counted_push : (n : ℕ) (seen : List NetId) (net : NetId) → count_by (is_net n) (seen ++ net ∷ []) ≡ count_by (is_net n) seen + cond (is_net n net) 1 0
counted_push n seen net = sum_by_push (λ x. cond (is_net n x) 1 0) seen net

differ : (a b : ℕ) → a ≢ b → (a == b) ≡ false
differ a b apart = false_of (a == b) (λ e. apart (eqb-true a b e))

-- THE LOOKS at a net, after one more at a net
pub looked : (looks : List Looks) (net : NetId) (seen : List NetId) → net.0 < length looks → AreLooks seen looks
    → AreLooks (seen ++ net ∷ []) (set looks net.0 (one_more_look (get_or looks net.0 Nobody)))
looked looks net seen inside are n lt = by_net (grind arith)
  where
    by_net : (n ≡ net.0) ⊎ (n ≢ net.0) → get_or (set looks net.0 (one_more_look (get_or looks net.0 Nobody))) n Nobody ≡ looks_for (count_by (is_net n) (seen ++ net ∷ []))
    by_net (inl same) =
        let count : ℕ = count_by (is_net net.0) seen in
        let grows : count_by (is_net net.0) (seen ++ net ∷ []) ≡ suc count =
        counted_push net.0 seen net ∙ ap (λ b. count + cond b 1 0) (eq-eqb net.0 net.0 refl) ∙ omega arith in
        ap (λ k. get_or (set looks net.0 (one_more_look (get_or looks net.0 Nobody))) k Nobody) same
        ∙ get_or-set_same looks net.0 (one_more_look (get_or looks net.0 Nobody)) Nobody inside
        ∙ ap one_more_look (are net.0 inside)
        ∙ more_for count
        ∙ ap looks_for (sym grows)
        ∙ ap (λ k. looks_for (count_by (is_net k) (seen ++ net ∷ []))) (sym same)
    by_net (inr apart) =
        let count : ℕ = count_by (is_net n) seen in
        let stays : count_by (is_net n) (seen ++ net ∷ []) ≡ count =
        counted_push n seen net ∙ ap (λ b. count + cond b 1 0) (differ net.0 n (λ e. apart (sym e))) ∙ omega arith in
        get_or-set_other looks net.0 n (one_more_look (get_or looks net.0 Nobody)) Nobody apart
        ∙ are n (let size = length-set looks net.0 (one_more_look (get_or looks net.0 Nobody)) in omega arith)
        ∙ ap looks_for (sym stays)

-- ---- one more of a list

pub nets_more : (seen nets : List NetId) (i : ℕ) (d : NetId) → i < length nets → (seen ++ take i nets) ++ get_or nets i d ∷ [] ≡ seen ++ take (i + 1) nets
nets_more seen nets i d lt = append_assoc seen (take i nets) (get_or nets i d ∷ []) ∙ ap (λ (xs : List NetId). seen ++ xs) (sym (take_more nets i d lt))

pub parts_more : {X : Type 0} (f : X → List NetId) (seen : List NetId) (xs : List X) (i : ℕ) (d : X) → i < length xs
    → (seen ++ flat_map f (take i xs)) ++ f (get_or xs i d) ≡ seen ++ flat_map f (take (i + 1) xs)
parts_more {X} f seen xs i d lt = flat_map_more f seen (take i xs) (get_or xs i d) ∙ ap (λ (ys : List X). seen ++ flat_map f ys) (sym (take_more xs i d lt))

pub each_more : {X : Type 0} (f : X → NetId) (seen : List NetId) (xs : List X) (i : ℕ) (d : X) → i < length xs
    → (seen ++ map f (take i xs)) ++ f (get_or xs i d) ∷ [] ≡ seen ++ map f (take (i + 1) xs)
each_more {X} f seen xs i d lt =
    append_assoc seen (map f (take i xs)) (f (get_or xs i d) ∷ [])
    ∙ ap (λ (ys : List NetId). seen ++ ys) (sym (map-append f (take i xs) (get_or xs i d ∷ [])))
    ∙ ap (λ (ys : List X). seen ++ map f ys) (sym (take_more xs i d lt))

-- ---- the number of tables

-- the nets of a table are nets
pub table_nets : (c : Circuit) → IsNetlist c → (k : ℕ) → k < length c.tables → (ins : List NetId) → ins ≡ (table_at c.tables k).ins → All (IsNet c) ins
table_nets c sound k lt ins e = subst (All (IsNet c)) (sym e) (sound.tables k lt).ins

-- the observation points of a goal are among those of all goals
pub goal_nets : (n i : ℕ) (goals : List Goal) (d : Goal) (nets : List NetId) → i < length goals → nets ≡ (get_or goals i d).observe
    → All (λ net. net.0 < n) (flat_map (λ goal. goal.observe) goals) → All (λ net. net.0 < n) nets
goal_nets n i [] d nets lt e all = absurd (omega arith)
goal_nets n zero (goal ∷ goals) d nets lt e all =
    subst (All (λ net. net.0 < n)) (sym e) (all_left (λ net. net.0 < n) goal.observe (flat_map (λ g. g.observe) goals) all)
goal_nets n (suc i) (goal ∷ goals) d nets lt e all =
    goal_nets n i goals d nets (omega arith) e (all_right (λ net. net.0 < n) goal.observe (flat_map (λ g. g.observe) goals) all)

-- the observation points of all goals are nets
goals_nets : (P : NetId → Type 0) (goals : List Goal) → All (λ (goal : Goal). All P goal.observe) goals → All P (flat_map (λ goal. goal.observe) goals)
goals_nets P [] all = λ k d lt. absurd (omega arith)
goals_nets P (goal ∷ goals) all =
    All-append P goal.observe (flat_map (λ g. g.observe) goals) (All-head (λ (g : Goal). All P g.observe) goal goals all)
    (goals_nets P goals (All-tail (λ (g : Goal). All P g.observe) goal goals all))

pub observed_nets : (c : Circuit) (points : Points) → ArePointsFor c points → All (IsNet c) (observed points)
observed_nets c points fit = goals_nets (IsNet c) points.goals (λ k d lt. (fit.goals k d lt).nets)

-- so are all that are watched
pub watched_nets : (c : Circuit) (points : Points) → ArePointsFor c points → All (IsNet c) (watched points)
watched_nets c points fit = All-append (IsNet c) (observed points) points.alarm (observed_nets c points fit) fit.alarm

-- nobody has looked
pub nobody : (looks : List Looks) → ((k : ℕ) → k < length looks → get_or looks k Nobody ≡ Nobody) → AreLooks [] looks
nobody looks each n lt = each n lt
