-- What the marks of nets say, after some visits.
use Rattle.std.proofs.Common.{◌≡◌, ◌≢◌, ℕ, suc, ◌+◌, ◌<◌, Bool, true, false, cond, not, ◌||◌, inl, inr, List, [], ◌∷◌, ◌++◌, refl, ap, sym, subst, ◌∙◌, append_assoc, length, get_or, set, map, arith}
use Rattle.std.specs.Prelude.{bytes_eq, find, Option, Some, None}
use Rattle.std.specs.List.{slice_get}
use Rattle.std.specs.Option.{option_map_or}
use Rattle.std.proofs.Math.ListN.{get_or-append}
use Rattle.std.proofs.Math.Seq.{get_or-append_seam}
use Rattle.std.proofs.lemmas.List.{append-nil, map-append, length-append, get_or-set_other, get_or-set_same, length-set}
use Rattle.std.proofs.lemmas.List.Folds.{find-append}
use Rattle.std.proofs.lemmas.Option.{slice_get_within, same_Some}
use Rattle.circuit.specs.declared.parts.NetId.{NetId}
use Rattle.fm_base.specs.Names.{Name, is_one_of, distinct}
use Rattle.fm_base.proofs.Tests.{or_cases, or_false, or_second, false_of, clash}
use Rattle.fm_base.proofs.Distinct.{distinct-snoc, distinct-found, is_same, same_name, bytes_eq-sym}
use Rattle.net_names.specs.Nets.{net_id}
use Rattle.net_names.proofs.Times.{one_of_both, place, place-found}
use Rattle.bench_reader.specs.declared.nets.Mark.{Mark}
use Rattle.bench_reader.specs.Marks.{NetMarks, newly_named, ids_from, is_driven, is_given, mention, mention_all, with_driven, with_given}
use Rattle.std.proofs.lemmas.Bool.{or_left}
use Rattle.std.proofs.Math.Bool.{or-false}

-- a name and the line that names it
abbrev pub Visit : Type 0
Visit = Name × ℕ

abbrev pub name_of : Visit → Name
name_of v = v.0

abbrev pub names_of : List Visit → List Name
names_of visits = map name_of visits

abbrev pub is_visit : Name → Visit → Bool
is_visit name v = bytes_eq v.0 name

abbrev pub line_from : Option Visit → ℕ
line_from o = option_map_or (λ (v : Visit). v.1) o 0

-- the line of a name's first visit
abbrev pub first_line : List Visit → Name → ℕ
first_line visits name = line_from (find (is_visit name) visits)

abbrev pub mark_of : List Visit → List Name → List Name → Name → Mark
mark_of visits driven outs name = record { line = first_line visits name; driven = is_one_of driven name; output = is_one_of outs name }

abbrev pub blank : Mark
blank = newly_named 0

-- the nets are those of the visits, and each has the mark of its name
pub record IsMarked (visits : List Visit) (driven outs : List Name) (t : NetMarks) : Type 0 where
  pub names : t.names ≡ distinct (names_of visits)
  pub size : length t.marks ≡ length t.names
  pub each : (name : Name) → is_one_of t.names name ≡ true → get_or t.marks (place t.names name) blank ≡ mark_of visits driven outs name
  pub driven_in : (name : Name) → is_one_of driven name ≡ true → is_one_of t.names name ≡ true
  pub outs_in : (name : Name) → is_one_of outs name ≡ true → is_one_of t.names name ≡ true

-- ---- places

-- the place of a name is below the number of names
pub place_within : (names : List Name) (name : Name) → is_one_of names name ≡ true → place names name < length names
place_within names name e = slice_get_within names (place names name) name (place-found names name e)

-- names at one place are one
pub one_place : (names : List Name) (a b : Name) → is_one_of names a ≡ true → is_one_of names b ≡ true → place names a ≡ place names b → a ≡ b
one_place names a b e f same = same_Some a b (sym (place-found names a e) ∙ ap (slice_get names) same ∙ place-found names b f)

-- the place of a name stays where names come behind
pub place_stays : (names more : List Name) (name : Name) → is_one_of names name ≡ true → place (names ++ more) name ≡ place names name
place_stays [] more name e = cc
place_stays (x ∷ xs) more name e = by_cases (bytes_eq x name) refl (ap (λ b. b || is_one_of xs name) (bytes_eq-sym x name) ∙ e) (place_stays xs more name)
  where
    by_cases : (b : Bool) → bytes_eq x name ≡ b → (b || is_one_of xs name) ≡ true → (is_one_of xs name ≡ true → place (xs ++ more) name ≡ place xs name)
        → cond (not b) (1 + place (xs ++ more) name) 0 ≡ cond (not b) (1 + place xs name) 0
    by_cases true f e more = refl
    by_cases false f e more = ap (λ n. 1 + n) (more e)

-- a new name comes behind all others
pub place_new : (names : List Name) (name : Name) → is_one_of names name ≡ false → place (names ++ name ∷ []) name ≡ length names
place_new [] name e = rw (is_same name) refl
place_new (x ∷ xs) name e =
    let parts = or_false (bytes_eq name x) (is_one_of xs name) e in
    rw (bytes_eq-sym x name ∙ parts.0) (let more = place_new xs name parts.1 in omega arith)

abbrev pub numbered : ℕ → NetId
numbered k = record { 0 = k }

pub id_stays : (names more : List Name) (name : Name) → is_one_of names name ≡ true → net_id (names ++ more) name ≡ net_id names name
id_stays names more name e = ap numbered (place_stays names more name e)

-- a name among names is among more
pub among_more : (names more : List Name) (name : Name) → is_one_of names name ≡ true → is_one_of (names ++ more) name ≡ true
among_more names more name e = one_of_both names more name ∙ or_left (is_one_of names name) (is_one_of more name) e

-- ---- one more visit

found_visit : (visits : List Visit) (name : Name) → is_one_of (names_of visits) name ≡ true → (v : Visit) × (find (is_visit name) visits ≡ Some v)
found_visit [] name e = cc
found_visit (v ∷ vs) name e = by_cases (bytes_eq v.0 name) refl (ap (λ b. b || is_one_of (names_of vs) name) (bytes_eq-sym v.0 name) ∙ e) (found_visit vs name)
  where
    by_cases : (b : Bool) → bytes_eq v.0 name ≡ b → (b || is_one_of (names_of vs) name) ≡ true
        → (is_one_of (names_of vs) name ≡ true → (w : Visit) × (find (is_visit name) vs ≡ Some w)) → (w : Visit) × (cond b (Some v) (find (is_visit name) vs) ≡ Some w)
    by_cases true f e more = (v, refl)
    by_cases false f e more = more e

no_visit : (visits : List Visit) (name : Name) → is_one_of (names_of visits) name ≡ false → find (is_visit name) visits ≡ None
no_visit [] name e = refl
no_visit (v ∷ vs) name e =
    let parts = or_false (bytes_eq name v.0) (is_one_of (names_of vs) name) e in
    rw (bytes_eq-sym v.0 name ∙ parts.0) (no_visit vs name parts.1)

-- a name that was visited keeps its first line
line_stays : (visits : List Visit) (v : Visit) (name : Name) → is_one_of (names_of visits) name ≡ true → first_line (visits ++ v ∷ []) name ≡ first_line visits name
line_stays visits v name e =
    let found = found_visit visits name e in
    let came : find (is_visit name) (visits ++ v ∷ []) ≡ Some found.0 = find-append (is_visit name) visits (v ∷ []) ∙ rw found.1 refl in
    ap line_from (came ∙ sym found.1)

line_comes : (visits : List Visit) (name : Name) (line : ℕ) → is_one_of (names_of visits) name ≡ false → first_line (visits ++ (name, line) ∷ []) name ≡ line
line_comes visits name line e =
    let came : find (is_visit name) (visits ++ (name, line) ∷ []) ≡ Some (name, line) = find-append (is_visit name) visits ((name, line) ∷ []) ∙ rw (no_visit visits name e, is_same name) refl in
    ap line_from came

abbrev made_mark : ℕ → Bool → Bool → Mark
made_mark line driven output = record { line = line; driven = driven; output = output }

mark_equal : (l m : ℕ) (a b c d : Bool) → l ≡ m → a ≡ b → c ≡ d → made_mark l a c ≡ made_mark m b d
mark_equal l m a b c d e f g = rw (e, f, g) refl

-- a net is a name that was visited
net_visited : (visits : List Visit) (driven outs : List Name) (t : NetMarks) → IsMarked visits driven outs t → (name : Name) → is_one_of (names_of visits) name ≡ is_one_of t.names name
net_visited visits driven outs t m name = sym (distinct-found (names_of visits) name) ∙ ap (λ (names : List Name). is_one_of names name) (sym m.names)

-- the names of the nets after one more visit
pub names_mentioned : (visits : List Visit) (line : ℕ) (t : NetMarks) (name : Name) → t.names ≡ distinct (names_of visits)
    → (mention line t name).names ≡ distinct (names_of (visits ++ (name, line) ∷ []))
names_mentioned visits line t name e =
    by_cases (is_one_of t.names name) refl
    ∙ sym (ap distinct (map-append name_of visits ((name, line) ∷ [])) ∙ distinct-snoc (names_of visits) name
    ∙ ap (λ b. cond b (distinct (names_of visits)) (distinct (names_of visits) ++ name ∷ [])) (sym (distinct-found (names_of visits) name) ∙ ap (λ (names : List Name). is_one_of names name) (sym e))
    ∙ ap (λ (names : List Name). cond (is_one_of t.names name) names (names ++ name ∷ [])) (sym e))
  where
    by_cases : (b : Bool) → is_one_of t.names name ≡ b → (mention line t name).names ≡ cond (is_one_of t.names name) t.names (t.names ++ name ∷ [])
    by_cases true f = rw f refl
    by_cases false f = rw f refl

-- a known name changes nothing
mention_known : (line : ℕ) (t : NetMarks) (name : Name) → is_one_of t.names name ≡ true → mention line t name ≡ t
mention_known line t name e = rw e refl

mention_new : (line : ℕ) (t : NetMarks) (name : Name) → is_one_of t.names name ≡ false
    → mention line t name ≡ record { names = t.names ++ name ∷ []; marks = t.marks ++ newly_named line ∷ [] }
mention_new line t name e = rw e refl

module _ (visits : List Visit) (driven outs : List Name) (t : NetMarks) (m : IsMarked visits driven outs t) (line : ℕ) (name : Name) where
  known_marked : is_one_of t.names name ≡ true → IsMarked (visits ++ (name, line) ∷ []) driven outs t
  known_marked e = record {
    names = ap (λ (nets : NetMarks). nets.names) (sym (mention_known line t name e)) ∙ names_mentioned visits line t name m.names;
    size = m.size;
    each = λ other f. m.each other f ∙ mark_equal _ _ _ _ _ _ (sym (line_stays visits (name, line) other (net_visited visits driven outs t m other ∙ f))) refl refl;
    driven_in = m.driven_in;
    outs_in = m.outs_in;
  }

  abbrev more : NetMarks
  more = record { names = t.names ++ name ∷ []; marks = t.marks ++ newly_named line ∷ [] }

  -- the name is no net before
  module _ (e : is_one_of t.names name ≡ false) where
    old_each : (other : Name) → is_one_of t.names other ≡ true → get_or more.marks (place more.names other) blank ≡ mark_of (visits ++ (name, line) ∷ []) driven outs other
    old_each other f =
        let within = place_within t.names other f in
        let size = m.size in
        let inside : place t.names other < length t.marks = omega arith in
        ap (λ k. get_or more.marks k blank) (place_stays t.names (name ∷ []) other f)
        ∙ get_or-append t.marks (newly_named line ∷ []) blank (place t.names other) inside
        ∙ m.each other f ∙ mark_equal _ _ _ _ _ _ (sym (line_stays visits (name, line) other (net_visited visits driven outs t m other ∙ f))) refl refl

    new_each : get_or more.marks (place more.names name) blank ≡ mark_of (visits ++ (name, line) ∷ []) driven outs name
    new_each =
        ap (λ k. get_or more.marks k blank) (place_new t.names name e ∙ sym m.size)
        ∙ get_or-append_seam t.marks (newly_named line) [] blank
        ∙ mark_equal _ _ _ _ _ _ (sym (line_comes visits name line (net_visited visits driven outs t m name ∙ e)))
        (sym (false_of (is_one_of driven name) (λ f. clash (is_one_of t.names name) (m.driven_in name f) e)))
        (sym (false_of (is_one_of outs name) (λ f. clash (is_one_of t.names name) (m.outs_in name f) e)))

    new_marked : IsMarked (visits ++ (name, line) ∷ []) driven outs more
    new_marked = record {
      names = ap (λ (nets : NetMarks). nets.names) (sym (mention_new line t name e)) ∙ names_mentioned visits line t name m.names;
      size = length-append t.marks (newly_named line ∷ []) ∙ ap (λ n. n + 1) m.size ∙ sym (length-append t.names (name ∷ []));
      each = λ other f. elim (or_cases (is_one_of t.names other) (bytes_eq other name || false) (sym (one_of_both t.names (name ∷ []) other) ∙ f))
          as (λ _. get_or more.marks (place more.names other) blank ≡ mark_of (visits ++ (name, line) ∷ []) driven outs other) [
            | inl old ↦ old_each other old
            | inr new ↦ subst (λ (n : Name). get_or more.marks (place more.names n) blank ≡ mark_of (visits ++ (name, line) ∷ []) driven outs n)
                (sym (same_name other name (sym (or-false (bytes_eq other name)) ∙ new))) new_each
          ];
      driven_in = λ other f. among_more t.names (name ∷ []) other (m.driven_in other f);
      outs_in = λ other f. among_more t.names (name ∷ []) other (m.outs_in other f);
    }

  -- one more visit
  pub mention_marked : IsMarked (visits ++ (name, line) ∷ []) driven outs (mention line t name)
  mention_marked = by_cases (is_one_of t.names name) refl
    where
      by_cases : (b : Bool) → is_one_of t.names name ≡ b → IsMarked (visits ++ (name, line) ∷ []) driven outs (mention line t name)
      by_cases true e = subst (IsMarked (visits ++ (name, line) ∷ []) driven outs) (sym (mention_known line t name e)) (known_marked e)
      by_cases false e = subst (IsMarked (visits ++ (name, line) ∷ []) driven outs) (sym (mention_new line t name e)) (new_marked e)

-- ---- a mark that changes

-- one name's mark changes, and so do the names that are driven or are outputs
module _ (visits : List Visit) (driven outs driven' outs' : List Name) (t : NetMarks) (m : IsMarked visits driven outs t) (name : Name) (e : is_one_of t.names name ≡ true) (now : Mark) where
  set_marked : now ≡ mark_of visits driven' outs' name
      → ((other : Name) → bytes_eq other name ≡ false → is_one_of driven' other ≡ is_one_of driven other)
      → ((other : Name) → bytes_eq other name ≡ false → is_one_of outs' other ≡ is_one_of outs other)
      → IsMarked visits driven' outs' (record { names = t.names; marks = set t.marks (place t.names name) now })
  set_marked is others_driven others_out = record {
    names = m.names;
    size = length-set t.marks (place t.names name) now ∙ m.size;
    each = λ other f. by_cases other f (bytes_eq other name) refl;
    driven_in = λ other f. found other (bytes_eq other name) refl (λ ne. m.driven_in other (sym (others_driven other ne) ∙ f));
    outs_in = λ other f. found other (bytes_eq other name) refl (λ ne. m.outs_in other (sym (others_out other ne) ∙ f));
  }
    where
      inside : place t.names name < length t.marks
      inside = let within = place_within t.names name e in let size = m.size in omega arith

      found : (other : Name) (b : Bool) → bytes_eq other name ≡ b → (bytes_eq other name ≡ false → is_one_of t.names other ≡ true) → is_one_of t.names other ≡ true
      found other true g more = ap (is_one_of t.names) (same_name other name g) ∙ e
      found other false g more = more g

      by_cases : (other : Name) → is_one_of t.names other ≡ true → (b : Bool) → bytes_eq other name ≡ b
          → get_or (set t.marks (place t.names name) now) (place t.names other) blank ≡ mark_of visits driven' outs' other
      by_cases other f true g =
          let same = same_name other name g in
          ap (λ (n : Name). get_or (set t.marks (place t.names name) now) (place t.names n) blank) same
          ∙ get_or-set_same t.marks (place t.names name) now blank inside ∙ is ∙ ap (mark_of visits driven' outs') (sym same)
      by_cases other f false g =
          let apart : place t.names other ≢ place t.names name =
          λ same. clash (bytes_eq other name) (ap (bytes_eq other) (sym (one_place t.names other name f e same)) ∙ is_same other) g in
          get_or-set_other t.marks (place t.names name) (place t.names other) now blank apart
          ∙ m.each other f ∙ mark_equal _ _ _ _ _ _ refl (sym (others_driven other g)) (sym (others_out other g))

module _ (visits : List Visit) (driven outs : List Name) (t : NetMarks) (m : IsMarked visits driven outs t) (name : Name) (e : is_one_of t.names name ≡ true) where
  last_other : (names : List Name) (other : Name) → bytes_eq other name ≡ false → is_one_of (names ++ name ∷ []) other ≡ is_one_of names other
  last_other names other f = one_of_both names (name ∷ []) other ∙ rw f (or-false (is_one_of names other))

  last_found : (names : List Name) → is_one_of (names ++ name ∷ []) name ≡ true
  last_found names = one_of_both names (name ∷ []) name ∙ or_second (is_one_of names name) _ (ap (λ b. b || false) (is_same name))

  -- what the mark of the net says
  pub is_driven_marked : is_driven t (net_id t.names name) ≡ is_one_of driven name
  is_driven_marked = ap (λ (mark : Mark). mark.driven) (m.each name e)

  pub is_given_marked : is_given t (net_id t.names name) ≡ is_one_of outs name
  is_given_marked = ap (λ (mark : Mark). mark.output) (m.each name e)

  -- one more name is driven
  pub drive_marked : IsMarked visits (driven ++ name ∷ []) outs (with_driven t (net_id t.names name))
  drive_marked = set_marked visits driven outs (driven ++ name ∷ []) outs t m name e _
      (ap (λ (mark : Mark). made_mark mark.line true mark.output) (m.each name e) ∙ mark_equal _ _ _ _ _ _ refl (sym (last_found driven)) refl)
      (last_other driven) (λ other f. refl)

  -- one more name is an output
  pub give_marked : IsMarked visits driven (outs ++ name ∷ []) (with_given t (net_id t.names name))
  give_marked = set_marked visits driven outs driven (outs ++ name ∷ []) t m name e _
      (ap (λ (mark : Mark). made_mark mark.line mark.driven true) (m.each name e) ∙ mark_equal _ _ _ _ _ _ refl refl (sym (last_found outs)))
      (λ other f. refl) (last_other outs)

-- ---- names, one after the other

abbrev pub visits_at : ℕ → List Name → List Visit
visits_at line names = map (λ name. (name, line)) names

pub all_marked : (visits : List Visit) (driven outs : List Name) (t : NetMarks) (line : ℕ) (names : List Name) → IsMarked visits driven outs t
    → IsMarked (visits ++ visits_at line names) driven outs (mention_all line t names)
all_marked visits driven outs t line [] m = subst (λ (vs : List Visit). IsMarked vs driven outs t) (sym (append-nil visits)) m
all_marked visits driven outs t line (name ∷ names) m =
    subst (λ (vs : List Visit). IsMarked vs driven outs (mention_all line (mention line t name) names)) (append_assoc visits ((name, line) ∷ []) (visits_at line names))
    (all_marked (visits ++ (name, line) ∷ []) driven outs (mention line t name) line names (mention_marked visits driven outs t m line name))

-- the name that is named is a net
pub mentioned : (line : ℕ) (t : NetMarks) (name : Name) → is_one_of (mention line t name).names name ≡ true
mentioned line t name = by_cases (is_one_of t.names name) refl
  where
    by_cases : (b : Bool) → is_one_of t.names name ≡ b → is_one_of (mention line t name).names name ≡ true
    by_cases true e = ap (λ (nets : NetMarks). is_one_of nets.names name) (mention_known line t name e) ∙ e
    by_cases false e =
        ap (λ (nets : NetMarks). is_one_of nets.names name) (mention_new line t name e)
        ∙ one_of_both t.names (name ∷ []) name ∙ or_second (is_one_of t.names name) _ (ap (λ b. b || false) (is_same name))

-- nets come behind those that are there
pub grows : (line : ℕ) (t : NetMarks) (name : Name) → (more : List Name) × ((mention line t name).names ≡ t.names ++ more)
grows line t name = by_cases (is_one_of t.names name) refl
  where
    by_cases : (b : Bool) → is_one_of t.names name ≡ b → (more : List Name) × ((mention line t name).names ≡ t.names ++ more)
    by_cases true e = ([], ap (λ (nets : NetMarks). nets.names) (mention_known line t name e) ∙ sym (append-nil t.names))
    by_cases false e = (name ∷ [], ap (λ (nets : NetMarks). nets.names) (mention_new line t name e))

pub all_grows : (line : ℕ) (t : NetMarks) (names : List Name) → (more : List Name) × ((mention_all line t names).names ≡ t.names ++ more)
all_grows line t [] = ([], sym (append-nil t.names))
all_grows line t (name ∷ names) =
    let here = grows line t name in
    let later = all_grows line (mention line t name) names in
    (here.0 ++ later.0, later.1 ∙ ap (λ (ns : List Name). ns ++ later.0) here.1 ∙ append_assoc t.names here.0 later.0)

-- the numbers of the nets, whatever comes behind them
pub ids_all : (line : ℕ) (t : NetMarks) (names more : List Name) → ids_from line t names ≡ map (net_id ((mention_all line t names).names ++ more)) names
ids_all line t [] more = refl
ids_all line t (name ∷ names) more =
    let next : NetMarks = mention line t name in
    let later = all_grows line next names in
    let here : net_id next.names name ≡ net_id ((mention_all line next names).names ++ more) name =
    sym (id_stays next.names (later.0 ++ more) name (mentioned line t name))
    ∙ ap (λ (ns : List Name). net_id ns name) (sym (append_assoc next.names later.0 more) ∙ ap (λ (ns : List Name). ns ++ more) (sym later.1)) in
    ap (λ (id : NetId). id ∷ ids_from line next names) here
    ∙ ap (λ (ids : List NetId). net_id ((mention_all line next names).names ++ more) name ∷ ids) (ids_all line next names more)

-- as many ids as names
pub length_ids : (line : ℕ) (t : NetMarks) (names : List Name) → length (ids_from line t names) ≡ length names
length_ids line t [] = refl
length_ids line t (name ∷ names) = ap (λ n. suc n) (length_ids line (mention line t name) names)
