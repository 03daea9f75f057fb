-- The first net that isn't driven, at its first line.
use Rattle.std.proofs.Common.{◌≡◌, ℕ, suc, ◌+◌, ◌<◌, Bool, true, false, cond, not, List, [], ◌∷◌, refl, ap, sym, ◌∙◌, length, get_or, map, arith}
use Rattle.std.specs.Prelude.{Option, Some, None, bytes_eq, filter, find, position}
use Rattle.std.specs.List.{position_from, slice_get}
use Rattle.std.specs.Option.{option_map, option_or}
use Rattle.std.proofs.lemmas.List.{length-map, same_lists}
use Rattle.std.proofs.lemmas.List.Folds.{find-append}
use Rattle.std.proofs.lemmas.Iterator.Adapters.{position_from-zero}
use Rattle.std.proofs.lemmas.Option.{slice_get-get_or, get_or_from_slice_get, slice_get-map}
use Rattle.fm_base.specs.Firsts.{first_where, given}
use Rattle.fm_base.specs.Lists.{firsts}
use Rattle.fm_base.specs.Names.{Name, is_one_of, distinct, has_repeat}
use Rattle.fm_base.proofs.Distinct.{distinct-apart, is_same, same_name}
use Rattle.fm_base.proofs.Tests.{clash, false_of}
use Rattle.net_names.proofs.Times.{at-found, place-at}
use Rattle.bench_reader.specs.declared.BenchFault.{BenchFault}
use Rattle.bench_reader.specs.declared.BenchKind.TheVariants.{Undriven}
use Rattle.bench_reader.specs.declared.nets.Mark.{Mark}
use Rattle.bench_reader.specs.LineFault.{Said, at_line}
use Rattle.bench_reader.specs.Marks.{NetMarks, first_loose, name_in_place}
use Rattle.bench_reader.specs.Net.{driven_of, nets_at}
use Rattle.bench_reader.specs.NetFault.{undriven}
use Rattle.bench_reader.proofs.Marked.{IsMarked, Visit, blank, first_line, is_visit, line_from, mark_of, name_of, names_of, visits_at}
use Rattle.bench_reader.proofs.Gathering.{visits_in, visits_of}
use Rattle.fm_base.proofs.Finding.{find-map, find-filter}
use Rattle.fm_base.proofs.Options.{or_mapped}

-- ---- first places and first elements

-- what the first place that passes gives
from_gives : {X Y : Type 0} (p : X → Bool) (xs : List X) (i : ℕ) (f : ℕ → Y) (g : X → Y) → ((k : ℕ) (x : X) → slice_get xs k ≡ Some x → f (i + k) ≡ g x)
    → option_map f (position_from p i xs) ≡ option_map g (find p xs)
from_gives p [] i f g each = refl
from_gives {X} {Y} p (x ∷ xs) i f g each =
    by_cases (p x) (from_gives p xs (i + 1) f g (λ k y e. let next : i + 1 + k ≡ i + suc k = omega arith in ap f next ∙ each (suc k) y e))
  where
    by_cases : (b : Bool) → option_map f (position_from p (i + 1) xs) ≡ option_map g (find p xs) → option_map f (cond b (Some i) (position_from p (i + 1) xs)) ≡ option_map g (cond b (Some x) (find p xs))
    by_cases true more = let first : i ≡ i + 0 = omega arith in ap (λ (y : Y). Some y) (ap f first ∙ each 0 x refl)
    by_cases false more = more

from_map : {X Y : Type 0} (p : Y → Bool) (f : X → Y) (i : ℕ) (xs : List X) → position_from p i (map f xs) ≡ position_from (λ x. p (f x)) i xs
from_map p f i [] = refl
from_map p f i (x ∷ xs) = ap (λ (o : Option ℕ). cond (p (f x)) (Some i) o) (from_map p f (i + 1) xs)

find_distinct : (p : Name → Bool) (names : List Name) → find p (distinct names) ≡ find p names
unfolding firsts
find_distinct p [] = refl
find_distinct p (x ∷ names) = by_cases (p x) refl (find_distinct p names)
  where
    by_cases : (b : Bool) → p x ≡ b → find p (distinct names) ≡ find p names → cond b (Some x) (find p (filter (λ other. not (bytes_eq other x)) (distinct names))) ≡ cond b (Some x) (find p names)
    by_cases true e more = refl
    by_cases false e more =
        find-filter p (λ (other : Name). not (bytes_eq other x)) (distinct names)
        (λ y f. ap not (false_of (bytes_eq y x) (λ s. clash (p x) (ap p (sym (same_name y x s)) ∙ f) e))) ∙ more

-- what is found passes
found_passes : {X : Type 0} (p : X → Bool) (xs : List X) (v : X) → find p xs ≡ Some v → p v ≡ true
found_passes p [] v e = cc
found_passes {X} p (x ∷ xs) v e = by_cases (p x) refl e (found_passes p xs v)
  where
    by_cases : (b : Bool) → p x ≡ b → cond b (Some x) (find p xs) ≡ Some v → (find p xs ≡ Some v → p v ≡ true) → p v ≡ true
    by_cases true f g more = let same : x ≡ v = cc in ap p (sym same) ∙ f
    by_cases false f g more = more g

-- the first visit of a name that passes is the first of that name
first_of_name : (bad : Name → Bool) (visits : List Visit) (v : Visit) → find (λ (w : Visit). bad w.0) visits ≡ Some v → bad v.0 ≡ true → find (is_visit v.0) visits ≡ Some v
first_of_name bad [] v e f = cc
first_of_name bad (w ∷ visits) v e f = by_cases (bad w.0) refl e (λ g. first_of_name bad visits v g f)
  where
    by_cases : (b : Bool) → bad w.0 ≡ b → cond b (Some w) (find (λ (x : Visit). bad x.0) visits) ≡ Some v → (find (λ (x : Visit). bad x.0) visits ≡ Some v → find (is_visit v.0) visits ≡ Some v)
        → cond (bytes_eq w.0 v.0) (Some w) (find (is_visit v.0) visits) ≡ Some v
    by_cases true g h more = let same : w ≡ v = cc in rw (ap (λ (x : Visit). bytes_eq x.0 v.0) same ∙ is_same v.0) h
    by_cases false g h more =
        let other : bytes_eq w.0 v.0 ≡ false = false_of (bytes_eq w.0 v.0) (λ s. clash (bad w.0) (ap bad (same_name w.0 v.0 s) ∙ f) g) in
        rw other (more h)

-- ---- loose nets

abbrev told_at : Visit → BenchFault
told_at v = at_line v.1 (Undriven v.0)

module _ (visits : List Visit) (driven outs : List Name) (t : NetMarks) (m : IsMarked visits driven outs t) where
  abbrev bad : Name → Bool
  bad name = not (is_one_of driven name)

  apart : has_repeat t.names ≡ false
  apart = ap has_repeat m.names ∙ distinct-apart (names_of visits)

  -- what the mark at a place says
  mark_there : (k : ℕ) (name : Name) → slice_get t.names k ≡ Some name → get_or t.marks k blank ≡ mark_of visits driven outs name
  mark_there k name e = ap (λ j. get_or t.marks j blank) (sym (place-at t.names k name apart e)) ∙ m.each name (at-found t.names k name e)

  driven_there : map (λ (mark : Mark). mark.driven) t.marks ≡ map (is_one_of driven) t.names
  driven_there = same_lists _ _ (length-map t.marks (λ (mark : Mark). mark.driven) ∙ m.size ∙ sym (length-map t.names (is_one_of driven))) at
    where
      at : (k : ℕ) (d : Bool) → k < length (map (λ (mark : Mark). mark.driven) t.marks) → get_or (map (λ (mark : Mark). mark.driven) t.marks) k d ≡ get_or (map (is_one_of driven) t.names) k d
      at k d h =
          let size = length-map t.marks (λ (mark : Mark). mark.driven) in
          let same = m.size in
          let inside : k < length t.marks = omega arith in
          let name : Name = get_or t.names k [] in
          let there : slice_get t.names k ≡ Some name = slice_get-get_or t.names k [] (omega arith) in
          get_or_from_slice_get (map (λ (mark : Mark). mark.driven) t.marks) k (is_one_of driven name) d
          (slice_get-map (λ (mark : Mark). mark.driven) t.marks k ∙ ap (option_map (λ (mark : Mark). mark.driven)) (slice_get-get_or t.marks k blank inside)
          ∙ ap (λ (mark : Mark). Some mark.driven) (mark_there k name there))
          ∙ sym (get_or_from_slice_get (map (is_one_of driven) t.names) k (is_one_of driven name) d (slice_get-map (is_one_of driven) t.names k ∙ ap (option_map (is_one_of driven)) there))

  abbrev loose_at : ℕ → BenchFault
  loose_at k = at_line (get_or t.marks k blank).line (Undriven (name_in_place t.names k))

  abbrev loose_named : Name → BenchFault
  loose_named name = at_line (first_line visits name) (Undriven name)

  place_is : position (λ (mark : Mark). not mark.driven) t.marks ≡ position_from bad 0 t.names
  place_is =
      position_from-zero (λ (mark : Mark). not mark.driven) t.marks ∙ sym (from_map not (λ (mark : Mark). mark.driven) 0 t.marks)
      ∙ ap (position_from not 0) driven_there ∙ from_map not (is_one_of driven) 0 t.names

  at_name : (k : ℕ) (name : Name) → slice_get t.names k ≡ Some name → loose_at (0 + k) ≡ loose_named name
  at_name k name e =
      let first : 0 + k ≡ k = omega arith in
      ap loose_at first ∙ ap (λ (mark : Mark). at_line mark.line (Undriven (name_in_place t.names k))) (mark_there k name e)
      ∙ ap (λ (n : Name). at_line (first_line visits name) (Undriven n)) (get_or_from_slice_get t.names k name [] e)

  line_is : (o : Option Visit) → find (λ (v : Visit). bad v.0) visits ≡ o → option_map (λ (v : Visit). loose_named v.0) o ≡ option_map told_at o
  line_is None e = refl
  line_is (Some v) e =
      let found = first_of_name bad visits v e (found_passes (λ (w : Visit). bad w.0) visits v e) in
      ap (λ (line : ℕ). Some (at_line line (Undriven v.0))) (ap line_from found)

  pub loose_found : first_loose t ≡ option_map told_at (find (λ (v : Visit). bad v.0) visits)
  loose_found =
      ap (option_map loose_at) place_is ∙ from_gives bad t.names 0 loose_at loose_named at_name
      ∙ ap (option_map loose_named) (ap (find bad) m.names ∙ find_distinct bad (names_of visits) ∙ find-map bad name_of visits)
      ∙ twice (find (λ (v : Visit). bad v.0) visits) ∙ line_is (find (λ (v : Visit). bad v.0) visits) refl
    where
      twice : (o : Option Visit) → option_map loose_named (option_map name_of o) ≡ option_map (λ (v : Visit). loose_named v.0) o
      twice None = refl
      twice (Some v) = refl

-- ---- undriven nets

undriven_names : (bad : Name → Bool) (n : ℕ) (names : List Name)
    → first_where (λ name. given (bad name) (at_line n (Undriven name))) names ≡ option_map told_at (find (λ (v : Visit). bad v.0) (visits_at n names))
unfolding first_where
undriven_names bad n [] = refl
undriven_names bad n (name ∷ names) = by_cases (bad name) (undriven_names bad n names)
  where
    by_cases : (b : Bool) → first_where (λ x. given (bad x) (at_line n (Undriven x))) names ≡ option_map told_at (find (λ (v : Visit). bad v.0) (visits_at n names))
        → option_or (given b (at_line n (Undriven name))) (first_where (λ x. given (bad x) (at_line n (Undriven x))) names)
        ≡ option_map told_at (cond b (Some (name, n)) (find (λ (v : Visit). bad v.0) (visits_at n names)))
    by_cases true more = refl
    by_cases false more = more

undriven_lines : (bad : Name → Bool) (lines : List Said)
    → first_where (λ line. first_where (λ name. given (bad name) (at_line line.number (Undriven name))) (nets_at line.says)) lines ≡ option_map told_at (find (λ (v : Visit). bad v.0) (visits_of lines))
unfolding first_where
undriven_lines bad [] = refl
undriven_lines bad (line ∷ lines) =
    ap (λ (o : Option BenchFault). option_or o (first_where (λ l. first_where (λ name. given (bad name) (at_line l.number (Undriven name))) (nets_at l.says)) lines))
    (undriven_names bad line.number (nets_at line.says))
    ∙ ap (option_or (option_map told_at (find (λ (v : Visit). bad v.0) (visits_in line)))) (undriven_lines bad lines)
    ∙ sym (ap (option_map told_at) (find-append (λ (v : Visit). bad v.0) (visits_in line) (visits_of lines))
    ∙ or_mapped told_at (find (λ (v : Visit). bad v.0) (visits_in line)) (find (λ (v : Visit). bad v.0) (visits_of lines)))

pub undriven_found : (lines : List Said) → undriven lines ≡ option_map told_at (find (λ (v : Visit). not (is_one_of (driven_of lines) v.0)) (visits_of lines))
unfolding undriven
undriven_found lines = undriven_lines (λ (name : Name). not (is_one_of (driven_of lines) name)) lines
