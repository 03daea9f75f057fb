-- TwoClocks is found by the first type of latch and the first clock name.
use Rattle.std.proofs.Common.{◌≡◌, Bool, true, false, not, cond, ◌||◌, List, [], ◌∷◌, ◌++◌, refl, ap, sym, ◌∙◌, append_assoc, arith, fold, length, map}
use Rattle.std.specs.Prelude.{Option, Some, None, bytes_eq, flat_map, nat_lt}
use Rattle.std.specs.Option.{option_or, option_to_list}
use Rattle.std.proofs.lemmas.Bool.Decides.{nat_tests}
use Rattle.std.proofs.lemmas.Grind.{flat_map-append}
use Rattle.std.proofs.lemmas.List.{append-nil, length-append}
use Rattle.fm_base.specs.Names.{Name, distinct, is_one_of}
use Rattle.fm_base.specs.Firsts.{given}
use Rattle.fm_base.proofs.Tests.{or_false}
use Rattle.fm_base.proofs.Distinct.{bytes_eq-sym, distinct-found, distinct-snoc}
use Rattle.blif_text.specs.declared.NetlistKind.TheVariants.{TwoClocks}
use Rattle.blif_text.specs.declared.NetlistFault.{NetlistFault}
use Rattle.blif_model.specs.LineFault.{at_line}
use Rattle.blif_model.specs.Walk.{Step, clock_names}
use Rattle.blif_model.specs.WalkSteps.{clocked, edge_of}
use Rattle.blif_reader.specs.Clocks.{Mark, edge, control, Firsts, any_apart, firsts_with, is_other, marks_in}

abbrev pub has_two : List Name → Bool
has_two names = nat_lt 1 (length (distinct names))

-- the types of the latches of these steps
abbrev pub types_of : List Step → List Name
types_of steps = flat_map (λ s. edge_of s.act) steps

abbrev pub clock_fault : List Step → Step → Option NetlistFault
clock_fault before s =
    given (has_two (types_of (before ++ s ∷ [])) || has_two (clock_names (before ++ s ∷ []))) (at_line s.line TwoClocks)

-- ---- names of one sort

-- the names are the first one, as often as they stand
abbrev pub Keeps : List Name → Option Name → Type 0
Keeps names first = distinct names ≡ option_to_list first

-- one of the names isn't the first
abbrev any_other : Option Name → List Name → Bool
any_other first [] = false
any_other first (name ∷ names) = is_other first name || any_other (option_or first (Some name)) names

-- the first one, where more names come
abbrev first_with : Option Name → List Name → Option Name
first_with first names = fold (λ known name. option_or known (Some name)) first names

-- two names stay two
two_stay : (names more : List Name) → has_two names ≡ true → has_two (names ++ more) ≡ true
two_stay names [] e = ap has_two (append-nil names) ∙ e
two_stay names (name ∷ more) e =
    ap has_two (sym (append_assoc names (name ∷ []) more))
    ∙ two_stay (names ++ name ∷ []) more (still (is_one_of names name) (distinct-snoc names name))
  where
    still : (b : Bool) → distinct (names ++ name ∷ []) ≡ cond b (distinct names) (distinct names ++ name ∷ [])
        → has_two (names ++ name ∷ []) ≡ true
    still true f = ap (λ (ds : List Name). nat_lt 1 (length ds)) f ∙ e
    still false f =
        let more : nat_lt 1 (length (distinct names ++ name ∷ [])) ≡ true =
        grind (arith, nat_tests, length-append (distinct names) (name ∷ [])) in
        ap (λ (ds : List Name). nat_lt 1 (length ds)) f ∙ more

-- one more name
name_more : (names : List Name) (first : Option Name) (name : Name) → Keeps names first
    → (has_two (names ++ name ∷ []) ≡ is_other first name)
    × (is_other first name ≡ false → Keeps (names ++ name ∷ []) (option_or first (Some name)))
name_more names None name keeps =
    let found : is_one_of names name ≡ false = sym (distinct-found names name) ∙ ap (λ (ds : List Name). is_one_of ds name) keeps in
    let all : distinct (names ++ name ∷ []) ≡ name ∷ [] = distinct-snoc names name ∙ rw (found, keeps) refl in
    (ap (λ (ds : List Name). nat_lt 1 (length ds)) all, λ e. all)
name_more names (Some known) name keeps =
    by_cases (bytes_eq known name)
    (sym (distinct-found names name) ∙ ap (λ (ds : List Name). is_one_of ds name) keeps ∙ ap (λ b. b || false) (bytes_eq-sym name known))
  where
    by_cases : (b : Bool) → is_one_of names name ≡ (b || false)
        → (has_two (names ++ name ∷ []) ≡ not b) × (not b ≡ false → Keeps (names ++ name ∷ []) (Some known))
    by_cases true found =
        let all : distinct (names ++ name ∷ []) ≡ known ∷ [] = distinct-snoc names name ∙ rw (found, keeps) refl in
        (ap (λ (ds : List Name). nat_lt 1 (length ds)) all, λ e. all)
    by_cases false found =
        let all : distinct (names ++ name ∷ []) ≡ known ∷ name ∷ [] = distinct-snoc names name ∙ rw (found, keeps) refl in
        (ap (λ (ds : List Name). nat_lt 1 (length ds)) all, λ e. cc)

-- more names
names_more : (first : Option Name) (names more : List Name) → Keeps names first
    → (has_two (names ++ more) ≡ any_other first more) × (any_other first more ≡ false → Keeps (names ++ more) (first_with first more))
names_more first names [] keeps = (ap has_two (append-nil names) ∙ none first keeps, λ e. ap distinct (append-nil names) ∙ keeps)
  where
    none : (known : Option Name) → Keeps names known → has_two names ≡ false
    none None e = ap (λ (ds : List Name). nat_lt 1 (length ds)) e
    none (Some known) e = ap (λ (ds : List Name). nat_lt 1 (length ds)) e
names_more first names (name ∷ more) keeps =
    by_cases (is_other first name) here.0 here.1 (names_more (option_or first (Some name)) (names ++ name ∷ []) more)
  where
    here : (has_two (names ++ name ∷ []) ≡ is_other first name)
        × (is_other first name ≡ false → Keeps (names ++ name ∷ []) (option_or first (Some name)))
    here = name_more names first name keeps

    whole : names ++ (name ∷ more) ≡ (names ++ name ∷ []) ++ more
    whole = sym (append_assoc names (name ∷ []) more)

    by_cases : (b : Bool) → has_two (names ++ name ∷ []) ≡ b → (b ≡ false → Keeps (names ++ name ∷ []) (option_or first (Some name)))
        → (Keeps (names ++ name ∷ []) (option_or first (Some name))
        → (has_two ((names ++ name ∷ []) ++ more) ≡ any_other (option_or first (Some name)) more)
        × (any_other (option_or first (Some name)) more ≡ false
        → Keeps ((names ++ name ∷ []) ++ more) (first_with (option_or first (Some name)) more)))
        → (has_two (names ++ (name ∷ more)) ≡ (b || any_other (option_or first (Some name)) more))
        × ((b || any_other (option_or first (Some name)) more) ≡ false
        → Keeps (names ++ (name ∷ more)) (first_with (option_or first (Some name)) more))
    by_cases true e kept rest = (ap has_two whole ∙ two_stay (names ++ name ∷ []) more e, λ f. cc)
    by_cases false e kept rest =
        let told = rest (kept refl) in
        (ap has_two whole ∙ told.0, λ f. ap distinct whole ∙ told.1 f)

-- ---- the marks of a line

or_assoc : (a b c : Bool) → (a || (b || c)) ≡ ((a || b) || c)
or_assoc true b c = refl
or_assoc false b c = refl

edges_apart : (firsts : Firsts) (names : List Name) (rest : List Mark)
    → any_apart firsts (map edge names ++ rest)
    ≡ (any_other firsts.edge names || any_apart (record { edge = first_with firsts.edge names; control = firsts.control }) rest)
edges_apart firsts [] rest = refl
edges_apart firsts (name ∷ names) rest =
    ap (λ b. is_other firsts.edge name || b) (edges_apart (firsts_with firsts (edge name)) names rest)
    ∙ or_assoc (is_other firsts.edge name) (any_other (option_or firsts.edge (Some name)) names) _

controls_apart : (firsts : Firsts) (names : List Name) → any_apart firsts (map control names) ≡ any_other firsts.control names
controls_apart firsts [] = refl
controls_apart firsts (name ∷ names) = ap (λ b. is_other firsts.control name || b) (controls_apart (firsts_with firsts (control name)) names)

edges_first : (firsts : Firsts) (names : List Name) (rest : List Mark)
    → fold firsts_with firsts (map edge names ++ rest)
    ≡ fold firsts_with (record { edge = first_with firsts.edge names; control = firsts.control }) rest
edges_first firsts [] rest = refl
edges_first firsts (name ∷ names) rest = edges_first (firsts_with firsts (edge name)) names rest

controls_first : (firsts : Firsts) (names : List Name)
    → fold firsts_with firsts (map control names) ≡ record { edge = firsts.edge; control = first_with firsts.control names }
controls_first firsts [] = refl
controls_first firsts (name ∷ names) = controls_first (firsts_with firsts (control name)) names

-- ---- a line

-- the first type and the first clock name are all that stand up to here
pub record KeepsFirsts (before : List Step) (firsts : Firsts) : Type 0 where
  pub types : Keeps (types_of before) firsts.edge
  pub clocks : Keeps (clock_names before) firsts.control

pub step_clocks : (s : Step) (before : List Step) (firsts : Firsts) → KeepsFirsts before firsts
    → (clock_fault before s ≡ given (any_apart firsts (marks_in s.act)) (at_line s.line TwoClocks))
    × (any_apart firsts (marks_in s.act) ≡ false → KeepsFirsts (before ++ s ∷ []) (fold firsts_with firsts (marks_in s.act)))
unfolding clock_names
step_clocks s before firsts keeps =
    let edges : List Name = edge_of s.act in
    let names : List Name = clocked s.act in
    let types_here : types_of (before ++ s ∷ []) ≡ types_of before ++ edges =
    flat_map-append (λ (x : Step). edge_of x.act) before (s ∷ []) ∙ ap (λ (more : List Name). types_of before ++ more) (append-nil edges) in
    let clocks_here : clock_names (before ++ s ∷ []) ≡ clock_names before ++ names =
    flat_map-append (λ (x : Step). clocked x.act) before (s ∷ []) ∙ ap (λ (more : List Name). clock_names before ++ more) (append-nil names) in
    let types = names_more firsts.edge (types_of before) edges keeps.types in
    let clocks = names_more firsts.control (clock_names before) names keeps.clocks in
    let apart : any_apart firsts (marks_in s.act) ≡ (any_other firsts.edge edges || any_other firsts.control names) =
    edges_apart firsts edges (map control names)
    ∙ ap (λ b. any_other firsts.edge edges || b)
    (controls_apart (record { edge = first_with firsts.edge edges; control = firsts.control }) names) in
    let all : fold firsts_with firsts (marks_in s.act)
    ≡ record { edge = first_with firsts.edge edges; control = first_with firsts.control names } =
    edges_first firsts edges (map control names)
    ∙ controls_first (record { edge = first_with firsts.edge edges; control = firsts.control }) names in
    let found : (has_two (types_of (before ++ s ∷ [])) || has_two (clock_names (before ++ s ∷ []))) ≡ any_apart firsts (marks_in s.act) =
    ap (λ (ns : List Name). has_two ns || has_two (clock_names (before ++ s ∷ []))) types_here
    ∙ ap (λ b. b || has_two (clock_names (before ++ s ∷ []))) types.0
    ∙ ap (λ (ns : List Name). any_other firsts.edge edges || has_two ns) clocks_here
    ∙ ap (λ b. any_other firsts.edge edges || b) clocks.0 ∙ sym apart in (
      ap (λ b. given b (at_line s.line TwoClocks)) found,
      λ f. let parts = or_false (any_other firsts.edge edges) (any_other firsts.control names) (sym apart ∙ f) in
          rw all (record { types = ap distinct types_here ∙ types.1 parts.0; clocks = ap distinct clocks_here ∙ clocks.1 parts.1 }),
    )
