-- Marks of names.
use Rattle.std.proofs.Common.{◌≡◌, ℕ, zero, suc, ◌+◌, ◌<◌, Bool, true, false, ◌||◌, List, [], ◌∷◌, ◌++◌, length, map, take, get_or, refl, ap, sym, ◌∙◌, append_assoc, arith}
use Rattle.std.specs.Prelude.{bytes_eq, flat_map, replicate, slice_index_or, slice_set}
use Rattle.std.proofs.lemmas.List.{append-nil, map_more}
use Rattle.std.proofs.lemmas.List.Elements.{All-head, All-tail, All-get_or}
use Rattle.std.proofs.lemmas.Bool.Decides.{nat_tests}
use Rattle.std.proofs.lemmas.Grind.{flat_map-append}
use Rattle.std.proofs.Math.Bool.{or-false, or-true}
use Rattle.fm_base.specs.Names.{Name, is_one_of, has_repeat}
use Rattle.fm_base.proofs.Tests.{or_false}
use Rattle.fm_base.proofs.Distinct.{distinct-apart, is_one_of-snoc, is_same, bytes_eq-sym}
use Rattle.blif_model.specs.Walk.{Step}
use Rattle.blif_flatten.specs.declared.flat.NameId.{NameId}
use Rattle.blif_flatten.specs.declared.flat.NumberedStep.{NumberedStep}
use Rattle.blif_flatten.specs.declared.sorts.Sort.{Sort}
use Rattle.blif_flatten.specs.Flat.{AreBelow, name_at, all_names, act_by, ids_in, step_by, steps_by, IsFlat}
use Rattle.blif_flatten.specs.Sorts.{named, names_by}
use Rattle.blif_flatten.specs.Marks.{marked}

-- the names of steps stand once each
pub names_apart : (steps : List Step) → has_repeat (all_names steps) ≡ false
unfolding all_names
names_apart steps = distinct-apart (flat_map _ steps)

-- ---- one mark

pub either_left : (a b : Bool) → (a || b) ≡ false → a ≡ false
either_left a b e = (or_false a b e).0

pub either_right : (a b : Bool) → (a || b) ≡ false → b ≡ false
either_right a b e = (or_false a b e).1

-- one more name that these lack
others_stay : (xs names : List Name) (x : Name) → is_one_of names x ≡ false
    → map (is_one_of xs) names ≡ map (is_one_of (xs ++ x ∷ [])) names
others_stay xs [] x lacks = refl
others_stay xs (name ∷ names) x lacks = grind (arith, nat_tests, others_stay xs names x, is_one_of-snoc xs x name, bytes_eq-sym x name, or-false)

-- a name that isn't among these isn't the one at a place
pub not_there : (names : List Name) (x : Name) (k : ℕ) → is_one_of names x ≡ false → k < length names
    → bytes_eq x (slice_index_or names k []) ≡ false
not_there [] x k lacks lt = absurd (omega arith)
not_there (name ∷ names) x zero lacks lt = either_left (bytes_eq x name) (is_one_of names x) lacks
not_there (name ∷ names) x (suc k) lacks lt = not_there names x k (either_right (bytes_eq x name) (is_one_of names x) lacks) (omega arith)

pub mark_one : (xs names : List Name) (k : ℕ) → has_repeat names ≡ false → k < length names
    → slice_set (map (is_one_of xs) names) k true ≡ map (is_one_of (xs ++ slice_index_or names k [] ∷ [])) names
mark_one xs [] k apart lt = absurd (omega arith)
mark_one xs (name ∷ names) zero apart lt = grind (arith, nat_tests, others_stay xs names name, is_one_of-snoc xs name name, is_same name, or-true)
mark_one xs (name ∷ names) (suc k) apart lt =
    grind (arith, nat_tests, mark_one xs names k, is_one_of-snoc xs (slice_index_or names k []) name, not_there names name k, or-false)

-- ---- marks of numbers

pub mark_names : (xs names : List Name) (ids : List NameId) → has_repeat names ≡ false → AreBelow (length names) ids
    → marked (map (is_one_of xs) names) ids ≡ map (is_one_of (xs ++ map (name_at names) ids)) names
mark_names xs names [] apart below = ap (λ (all : List Name). map (is_one_of all) names) (sym (append-nil xs))
mark_names xs names (id ∷ ids) apart below =
    ap (λ (ms : List Bool). marked ms ids) (mark_one xs names id.0 apart (All-head (λ (i : NameId). i.0 < length names) id ids below))
    ∙ mark_names (xs ++ name_at names id ∷ []) names ids apart (All-tail (λ (i : NameId). i.0 < length names) id ids below)
    ∙ ap (λ (all : List Name). map (is_one_of all) names) (append_assoc xs (name_at names id ∷ []) (map (name_at names) ids))

pub mark_none : (names : List Name) → replicate (length names) false ≡ map (is_one_of []) names
mark_none [] = refl
mark_none (name ∷ names) = ap (λ (bs : List Bool). false ∷ bs) (mark_none names)

names_by-snoc : (sort : Sort) (steps : List Step) (s : Step) → names_by sort (steps ++ s ∷ []) ≡ names_by sort steps ++ named sort s.act
unfolding names_by
names_by-snoc sort steps s =
    rw (flat_map-append (λ (x : Step). named sort x.act) steps (s ∷ []), append-nil (named sort s.act))

-- a step's numbers have names
pub step_within : (names : List Name) (steps : List NumberedStep) (i : ℕ) (s : NumberedStep) → IsFlat names steps
    → i < length steps → s ≡ get_or steps i s → AreBelow (length names) (ids_in s.act)
step_within names steps i s flat lt is =
    rw is (All-get_or (λ (x : NumberedStep). AreBelow (length names) (ids_in x.act)) steps i s lt flat.within)

-- the marks of one step more
pub mark_step : (sort : Sort) (names : List Name) (steps : List NumberedStep) (i : ℕ) (s : NumberedStep) (ids : List NameId)
    (old new : List Bool) → IsFlat names steps → i < length steps → s ≡ get_or steps i s
    → map (name_at names) ids ≡ named sort (act_by (name_at names) s.act)
    → (AreBelow (length names) (ids_in s.act) → AreBelow (length names) ids)
    → old ≡ map (is_one_of (names_by sort (steps_by names (take i steps)))) names → new ≡ marked old ids
    → new ≡ map (is_one_of (names_by sort (steps_by names (take (i + 1) steps)))) names
mark_step sort names steps i s ids old new flat lt is texts below was e =
    let done = steps_by names (take i steps) in
    let apart : has_repeat names ≡ false = rw flat.first (names_apart (steps_by names steps)) in
    rw (map_more (step_by (name_at names)) steps i s lt, ← is, names_by-snoc sort done (step_by (name_at names) s), ← texts)
    (rw (e, was) (mark_names (names_by sort done) names ids apart (below (step_within names steps i s flat lt is))))
