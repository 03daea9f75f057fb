-- What a walk gives, it gives without the visits of nets that were mentioned before.
use Rattle.std.proofs.Common.{◌≡◌, ℕ, Bool, true, false, cond, not, ◌||◌, ◌&&◌, List, [], ◌∷◌, ◌++◌, inl, inr, refl, ap, sym, ◌∙◌, append_assoc, fold, map}
use Rattle.std.specs.Prelude.{Option, Some, None, Ok, bytes_eq, filter, filter_map, find, flat_map}
use Rattle.std.specs.List.{cons_option, list_any}
use Rattle.std.specs.Option.{option_map, option_or}
use Rattle.std.proofs.lemmas.Grind.{flat_map-append}
use Rattle.std.proofs.lemmas.List.{append-nil}
use Rattle.std.proofs.lemmas.List.Elements.{filter-append}
use Rattle.std.proofs.lemmas.List.Folds.{find-append}
use Rattle.fm_base.specs.Firsts.{first_after, first_answer, first_where, given}
use Rattle.fm_base.specs.Index.{with_name}
use Rattle.fm_base.specs.Lists.{firsts}
use Rattle.fm_base.specs.Names.{Name, is_one_of}
use Rattle.fm_base.proofs.Distinct.{is_one_of-snoc, same_name}
use Rattle.fm_base.proofs.Tests.{or_cases, or_second}
use Rattle.net_names.proofs.Times.{one_of_both}
use Rattle.blif_text.specs.declared.NetlistFault.{NetlistFault}
use Rattle.blif_text.specs.declared.NetlistKind.TheVariants.{BadClock, ClockRead, TwoClocks, TwoDrivers, Undriven}
use Rattle.blif_model.specs.LineFault.{at_line}
use Rattle.blif_model.specs.Net.{circuit_of}
use Rattle.blif_model.specs.Walk.{Act, takes, flat_table, flat_latch, visits, Step, Visit, clock_names, drives_of, nets_of, visited, visits_of}
use Rattle.blif_model.specs.WalkFault.{bad_clock, clock_read, has_visit, two_clocks, two_drivers, undriven, walk_fault}
use Rattle.blif_model.specs.WalkSteps.{clocked, control_of, edge_of, input_nets, latch_net, latch_of, names_at, netlist_unless, outputs_at, read, table_net, table_of}
use Rattle.blif_flatten.specs.Flat.{all_names, mentioned}
use Rattle.blif_flatten.specs.Thinned.{kept_of, some_visits, thinned, unseen, with_step, with_steps}
use Rattle.blif_flatten.proofs.NameSets.{taken_found}
use Rattle.blif_flatten.proofs.Numbering.{names_thinned, names_with}
use Rattle.blif_reader.specs.Stages.{flat_fault, walk_gives}
use Rattle.blif_reader.proofs.ClockMarks.{clock_fault, has_two, types_of}
use Rattle.blif_reader.proofs.Faults.{given_found}
use Rattle.blif_reader.proofs.FlatNets.{control_clocked, nets-named}

-- ---- the lines that do more than to visit nets

abbrev is_visit : Act → Bool
is_visit (visits names) = true
is_visit act = false

abbrev others : List Step → List Step
others steps = filter (λ s. not (is_visit s.act)) steps

abbrev at : ℕ → Act → Step
at line act = record { line = line; act = act }

others_kept : (seen : List Name) (line : ℕ) (act : Act) → others (map (at line) (kept_of seen act)) ≡ others (at line act ∷ [])
others_kept seen line (visits names) = by_cases (unseen seen names)
  where
    by_cases : (new : List Name) → others (map (at line) (some_visits new)) ≡ []
    by_cases [] = refl
    by_cases (name ∷ new) = refl
others_kept seen line act = refl

others_with : (before steps : List Step) → others (with_steps before steps) ≡ others before ++ others steps
unfolding with_steps
others_with before [] = sym (append-nil (others before))
others_with before (s ∷ steps) =
    let test : Step → Bool = λ x. not (is_visit x.act) in
    others_with (with_step before s) steps
    ∙ ap (λ (first : List Step). first ++ others steps) (filter-append test before (map (at s.line) (kept_of (all_names before) s.act))
    ∙ ap (λ (own : List Step). others before ++ own) (others_kept (all_names before) s.line s.act))
    ∙ append_assoc (others before) (others (s ∷ [])) (others steps)
    ∙ ap (λ (rest : List Step). others before ++ rest) (sym (filter-append test (s ∷ []) steps))

others_thinned : (steps : List Step) → others (thinned steps) ≡ others steps
unfolding thinned
others_thinned steps = others_with [] steps

-- ---- what such lines alone give

module _ {X : Type 0} where
  flat_others : (g : Step → List X) → ((line : ℕ) (names : List Name) → g (at line (visits names)) ≡ []) → (steps : List Step)
      → flat_map g (others steps) ≡ flat_map g steps
  flat_others g none [] = refl
  flat_others g none (s ∷ steps) = by_act s.line s.act (flat_others g none steps)
    where
      by_act : (line : ℕ) (act : Act) → flat_map g (others steps) ≡ flat_map g steps
          → flat_map g (others (at line act ∷ steps)) ≡ g (at line act) ++ flat_map g steps
      by_act line (visits names) rest = rest ∙ ap (λ (own : List X). own ++ flat_map g steps) (sym (none line names))
      by_act line act rest = ap (λ (more : List X). g (at line act) ++ more) rest

  flat_same : (g : Step → List X) → ((line : ℕ) (names : List Name) → g (at line (visits names)) ≡ []) → (steps : List Step)
      → flat_map g (thinned steps) ≡ flat_map g steps
  flat_same g none steps = sym (flat_others g none (thinned steps)) ∙ ap (flat_map g) (others_thinned steps) ∙ flat_others g none steps

  filter_others : (h : Step → Option X) → ((line : ℕ) (names : List Name) → h (at line (visits names)) ≡ None) → (steps : List Step)
      → filter_map h (others steps) ≡ filter_map h steps
  filter_others h none [] = refl
  filter_others h none (s ∷ steps) = by_act s.line s.act (filter_others h none steps)
    where
      by_act : (line : ℕ) (act : Act) → filter_map h (others steps) ≡ filter_map h steps
          → filter_map h (others (at line act ∷ steps)) ≡ cons_option (h (at line act)) (filter_map h steps)
      by_act line (visits names) rest = rest ∙ ap (λ (o : Option X). cons_option o (filter_map h steps)) (sym (none line names))
      by_act line act rest = ap (cons_option (h (at line act))) rest

  filter_same : (h : Step → Option X) → ((line : ℕ) (names : List Name) → h (at line (visits names)) ≡ None) → (steps : List Step)
      → filter_map h (thinned steps) ≡ filter_map h steps
  filter_same h none steps = sym (filter_others h none (thinned steps)) ∙ ap (filter_map h) (others_thinned steps) ∙ filter_others h none steps

  where_others : (h : Step → Option X) → ((line : ℕ) (names : List Name) → h (at line (visits names)) ≡ None) → (steps : List Step)
      → first_where h (others steps) ≡ first_where h steps
  unfolding first_where
  where_others h none [] = refl
  where_others h none (s ∷ steps) = by_act s.line s.act (where_others h none steps)
    where
      by_act : (line : ℕ) (act : Act) → first_where h (others steps) ≡ first_where h steps
          → first_where h (others (at line act ∷ steps)) ≡ option_or (h (at line act)) (first_where h steps)
      by_act line (visits names) rest = rest ∙ ap (λ (o : Option X). option_or o (first_where h steps)) (sym (none line names))
      by_act line act rest = ap (option_or (h (at line act))) rest

  where_same : (h : Step → Option X) → ((line : ℕ) (names : List Name) → h (at line (visits names)) ≡ None) → (steps : List Step)
      → first_where h (thinned steps) ≡ first_where h steps
  where_same h none steps = sym (where_others h none (thinned steps)) ∙ ap (first_where h) (others_thinned steps) ∙ where_others h none steps

-- ---- TwoClocks: a line of visits brings no type of latch and no clock name

abbrev is_mixed : List Step → Bool
is_mixed steps = has_two (types_of steps) || has_two (clock_names steps)

types_more : (steps : List Step) (s : Step) → types_of (steps ++ s ∷ []) ≡ types_of steps ++ edge_of s.act
types_more steps s =
    flat_map-append (λ (x : Step). edge_of x.act) steps (s ∷ []) ∙ ap (λ (own : List Name). types_of steps ++ own) (append-nil (edge_of s.act))

clocks_more : (steps : List Step) (s : Step) → clock_names (steps ++ s ∷ []) ≡ clock_names steps ++ clocked s.act
unfolding clock_names
clocks_more steps s =
    flat_map-append (λ (x : Step). clocked x.act) steps (s ∷ []) ∙ ap (λ (own : List Name). clock_names steps ++ own) (append-nil (clocked s.act))

clocks_others : (steps before kept : List Step) → types_of kept ≡ types_of before → clock_names kept ≡ clock_names before
    → is_mixed before ≡ false → first_after clock_fault kept (others steps) ≡ first_after clock_fault before steps
unfolding first_after
clocks_others [] before kept types clocks same = refl
clocks_others (s ∷ steps) before kept types clocks same = by_act s.line s.act (clocks_others steps)
  where
    by_act : (line : ℕ) (act : Act)
        → ((b k : List Step) → types_of k ≡ types_of b → clock_names k ≡ clock_names b → is_mixed b ≡ false → first_after clock_fault k (others steps) ≡ first_after clock_fault b steps)
        → first_after clock_fault kept (others (at line act ∷ steps))
        ≡ option_or (clock_fault before (at line act)) (first_after clock_fault (before ++ at line act ∷ []) steps)
    by_act line (visits names) more =
        let s : Step = at line (visits names) in
        let types_here = types_more before s ∙ append-nil (types_of before) in
        let clocks_here = clocks_more before s ∙ append-nil (clock_names before) in
        let none : is_mixed (before ++ s ∷ []) ≡ false = rw (types_here, clocks_here) same in
        let rest = more (before ++ s ∷ []) kept (types ∙ sym types_here) (clocks ∙ sym clocks_here) none in
        rest ∙ ap (λ b. option_or (given b (at_line line TwoClocks)) (first_after clock_fault (before ++ s ∷ []) steps)) (sym none)
    by_act line act more =
        let s : Step = at line act in
        let types_same = types_more kept s ∙ ap (λ (ts : List Name). ts ++ edge_of act) types ∙ sym (types_more before s) in
        let clocks_same = clocks_more kept s ∙ ap (λ (cs : List Name). cs ++ clocked act) clocks ∙ sym (clocks_more before s) in
        let mixed_same : is_mixed (kept ++ s ∷ []) ≡ is_mixed (before ++ s ∷ []) =
        ap (λ (ts : List Name). has_two ts || has_two (clock_names (kept ++ s ∷ []))) types_same
        ∙ ap (λ (cs : List Name). has_two (types_of (before ++ s ∷ [])) || has_two cs) clocks_same in
        ap (λ b. option_or (given b (at_line line TwoClocks)) (first_after clock_fault (kept ++ s ∷ []) (others steps))) mixed_same
        ∙ by_cases (is_mixed (before ++ s ∷ [])) _ _ (more (before ++ s ∷ []) (kept ++ s ∷ []) types_same clocks_same)
      where
        by_cases : (b : Bool) (x y : Option NetlistFault) → (b ≡ false → x ≡ y)
            → option_or (given b (at_line line TwoClocks)) x ≡ option_or (given b (at_line line TwoClocks)) y
        by_cases true x y rest = refl
        by_cases false x y rest = rest refl

clocks_same : (steps : List Step) → two_clocks (thinned steps) ≡ two_clocks steps
unfolding two_clocks clock_names firsts
clocks_same steps =
    sym (clocks_others (thinned steps) [] [] refl refl refl) ∙ ap (first_after clock_fault []) (others_thinned steps)
    ∙ clocks_others steps [] [] refl refl refl

-- ---- Undriven: where a name that was mentioned passes no test, a visit of it tells nothing

-- what is kept of lines where these names were seen
kept_behind : List Name → List Step → List Step
kept_behind seen [] = []
kept_behind seen (s ∷ steps) = map (at s.line) (kept_of seen s.act) ++ kept_behind (fold with_name seen (mentioned s.act)) steps

with_behind : (before steps : List Step) → with_steps before steps ≡ before ++ kept_behind (all_names before) steps
unfolding with_steps kept_behind
with_behind before [] = sym (append-nil before)
with_behind before (s ∷ steps) =
    let own = map (at s.line) (kept_of (all_names before) s.act) in
    with_behind (with_step before s) steps ∙ append_assoc before own (kept_behind (all_names (with_step before s)) steps)
    ∙ ap (λ (seen : List Name). before ++ (own ++ kept_behind seen steps)) (names_with before s)

module _ (test : Name → Bool) where
  abbrev Fails : List Name → Type 0
  Fails names = (q : Name) → is_one_of names q ≡ true → test q ≡ false

  abbrev found : List Visit → Option Visit
  found vs = find (λ v. test v.name) vs

  fails_more : (names : List Name) (name : Name) → Fails names → test name ≡ false → Fails (names ++ name ∷ [])
  fails_more names name fail none q there =
      elim (or_cases (is_one_of names q) (bytes_eq q name) (sym (is_one_of-snoc names name q) ∙ there)) [
        | inl here ↦ fail q here
        | inr same ↦ ap test (same_name q name same) ∙ none
      ]

  found_new : (line : ℕ) (names seen : List Name) → Fails seen → found (names_at line (unseen seen names)) ≡ found (names_at line names)
  unfolding unseen
  found_new line [] seen fail = refl
  found_new line (name ∷ names) seen fail =
      by_cases (is_one_of seen name) (test name) refl refl (found_new line names seen fail)
      (λ none. found_new line names (seen ++ name ∷ []) (fails_more seen name fail none))
    where
      by_cases : (there passes : Bool) → is_one_of seen name ≡ there → test name ≡ passes
          → found (names_at line (unseen seen names)) ≡ found (names_at line names)
          → (test name ≡ false → found (names_at line (unseen (seen ++ name ∷ []) names)) ≡ found (names_at line names))
          → found (names_at line (cond there (unseen seen names) (name ∷ unseen (seen ++ name ∷ []) names)))
          ≡ cond passes (Some (record { name = name; line = line })) (found (names_at line names))
      by_cases true true e f old new = absurd (true_false (sym f ∙ fail name e))
        where
          true_false : true ≡ false → ⊥
          true_false g = cc
      by_cases true false e f old new = old
      by_cases false true e f old new =
          ap (λ b. cond b (Some (record { name = name; line = line })) (found (names_at line (unseen (seen ++ name ∷ []) names)))) f
      by_cases false false e f old new =
          ap (λ b. cond b (Some (record { name = name; line = line })) (found (names_at line (unseen (seen ++ name ∷ []) names)))) f ∙ new f

  found_kept : (seen : List Name) (line : ℕ) (act : Act) → Fails seen → found (visits_of (map (at line) (kept_of seen act))) ≡ found (names_at line (visited act))
  unfolding visits_of
  found_kept seen line (visits names) fail = by_cases (unseen seen names) ∙ found_new line names seen fail
    where
      by_cases : (new : List Name) → found (visits_of (map (at line) (some_visits new))) ≡ found (names_at line new)
      by_cases [] = refl
      by_cases (name ∷ new) = ap found (append-nil (names_at line (name ∷ new)))
  found_kept seen line act fail = ap found (append-nil (names_at line (visited act)))

  none_found : (line : ℕ) (names : List Name) → found (names_at line names) ≡ None → Fails names
  none_found line [] e q there = cc
  none_found line (name ∷ names) e q there = by_cases (test name) refl e (λ more. none_found line names more)
    where
      by_cases : (b : Bool) → test name ≡ b → cond b (Some (record { name = name; line = line })) (found (names_at line names)) ≡ None
          → (found (names_at line names) ≡ None → Fails names) → test q ≡ false
      by_cases true f g rest = cc
      by_cases false f g rest =
          elim (or_cases (bytes_eq q name) (is_one_of names q) there) [
            | inl same ↦ ap test (same_name q name same) ∙ f
            | inr behind ↦ rest g q behind
          ]

  found_behind : (steps : List Step) (seen : List Name) → Fails seen → Fails (flat_map (λ s. clocked s.act) steps)
      → found (visits_of (kept_behind seen steps)) ≡ found (visits_of steps)
  unfolding visits_of kept_behind
  found_behind [] seen fail clocks = refl
  found_behind (s ∷ steps) seen fail clocks =
      let own = map (at s.line) (kept_of seen s.act) in
      let more = fold with_name seen (mentioned s.act) in
      let rest = kept_behind more steps in
      ap found (flat_map-append (λ (x : Step). names_at x.line (visited x.act)) own rest)
      ∙ find-append (λ (v : Visit). test v.name) (visits_of own) (visits_of rest)
      ∙ ap (λ (o : Option Visit). option_or o (found (visits_of rest))) (found_kept seen s.line s.act fail)
      ∙ by_cases (found (names_at s.line (visited s.act))) refl (λ quiet. found_behind steps more quiet behind)
      ∙ sym (find-append (λ (v : Visit). test v.name) (names_at s.line (visited s.act)) (visits_of steps))
    where
      clock : Fails (clocked s.act)
      clock q there = clocks q (one_of_both (clocked s.act) (flat_map (λ x. clocked x.act) steps) q ∙ ap (λ b. b || is_one_of (flat_map (λ x. clocked x.act) steps) q) there)

      behind : Fails (flat_map (λ x. clocked x.act) steps)
      behind q there = clocks q (one_of_both (clocked s.act) (flat_map (λ x. clocked x.act) steps) q ∙ or_second (is_one_of (clocked s.act) q) _ there)

      here : found (names_at s.line (visited s.act)) ≡ None → Fails (fold with_name seen (mentioned s.act))
      here none q there =
          elim (or_cases (is_one_of seen q) (is_one_of (mentioned s.act) q) (sym (taken_found seen (mentioned s.act) q) ∙ there)) [
            | inl before ↦ fail q before
            | inr now ↦ elim (or_cases (is_one_of (visited s.act) q) (is_one_of (control_of s.act) q) (sym (one_of_both (visited s.act) (control_of s.act) q) ∙ now)) [
              | inl visit ↦ none_found s.line (visited s.act) none q visit
              | inr control ↦ clock q (control_clocked s.act q control)
            ]
          ]

      by_cases : (o : Option Visit) → found (names_at s.line (visited s.act)) ≡ o
          → (Fails (fold with_name seen (mentioned s.act)) → found (visits_of (kept_behind (fold with_name seen (mentioned s.act)) steps)) ≡ found (visits_of steps))
          → option_or o (found (visits_of (kept_behind (fold with_name seen (mentioned s.act)) steps))) ≡ option_or o (found (visits_of steps))
      by_cases (Some v) e rest = refl
      by_cases None e rest = rest (here e)

  found_same : (steps : List Step) → Fails (clock_names steps) → found (visits_of (thinned steps)) ≡ found (visits_of steps)
  unfolding thinned clock_names all_names firsts
  found_same steps clocks = ap (λ (ss : List Step). found (visits_of ss)) (with_behind [] steps) ∙ found_behind steps [] (λ q there. cc) clocks

-- ---- all of the walk

module _ (steps : List Step) where
  clock_names_same : clock_names (thinned steps) ≡ clock_names steps
  unfolding clock_names
  clock_names_same = flat_same (λ s. clocked s.act) (λ line names. refl) steps

  abbrev outside : List Name → List Name → List Name
  outside clocks names = filter (λ name. not (is_one_of clocks name)) names

  nets_same : nets_of (thinned steps) ≡ nets_of steps
  nets_same =
      nets-named (thinned steps) ∙ ap (λ (clocks : List Name). outside clocks (all_names (thinned steps))) clock_names_same
      ∙ ap (outside (clock_names steps)) (names_thinned steps) ∙ sym (nets-named steps)

  abbrev driven_by : List Name → Act → List Name
  driven_by clocks = elim [ takes names ↦ outside clocks names | flat_table ins out rows ↦ out ∷ [] | flat_latch l ↦ l.to ∷ [] | _ ↦ [] ]

  drives_same : drives_of (thinned steps) ≡ drives_of steps
  unfolding drives_of
  drives_same =
      ap (λ (clocks : List Name). flat_map (λ s. names_at s.line (driven_by clocks s.act)) (thinned steps)) clock_names_same
      ∙ flat_same (λ s. names_at s.line (driven_by (clock_names steps) s.act)) (λ line names. refl) steps

  bad_clock_same : bad_clock (thinned steps) ≡ bad_clock steps
  unfolding bad_clock
  bad_clock_same =
      ap (λ (ins : List Name). first_where (λ s. given (list_any (λ name. not (is_one_of ins name)) (control_of s.act)) (at_line s.line BadClock)) (thinned steps))
      (flat_same (λ s. input_nets s.act) (λ line names. refl) steps)
      ∙ where_same (λ s. given (list_any (λ name. not (is_one_of (flat_map (λ x. input_nets x.act) steps) name)) (control_of s.act)) (at_line s.line BadClock)) (λ line names. refl) steps

  clock_read_same : clock_read (thinned steps) ≡ clock_read steps
  unfolding clock_read
  clock_read_same =
      ap (λ (clocks : List Name). first_where (λ s. given (list_any (is_one_of clocks) (read s.act)) (at_line s.line ClockRead)) (thinned steps)) clock_names_same
      ∙ where_same (λ s. given (list_any (is_one_of (clock_names steps)) (read s.act)) (at_line s.line ClockRead)) (λ line names. refl) steps

  two_drivers_same : two_drivers (thinned steps) ≡ two_drivers steps
  unfolding two_drivers
  two_drivers_same =
      ap (λ (clocks : List Name). first_after (λ before d. given (has_visit before d.name || is_one_of clocks d.name) (at_line d.line TwoDrivers)) [] (drives_of (thinned steps))) clock_names_same
      ∙ ap (first_after (λ before d. given (has_visit before d.name || is_one_of (clock_names steps) d.name) (at_line d.line TwoDrivers)) []) drives_same

  abbrev is_loose : List Name → List Visit → Name → Bool
  is_loose clocks drives name = not (is_one_of clocks name) && not (has_visit drives name)

  abbrev loose_at : Visit → NetlistFault
  loose_at v = at_line v.line (Undriven v.name)

  undriven_same : undriven (thinned steps) ≡ undriven steps
  unfolding undriven
  undriven_same =
      let test = is_loose (clock_names steps) (drives_of steps) in
      ap (λ (clocks : List Name). first_where (λ v. given (is_loose clocks (drives_of (thinned steps)) v.name) (loose_at v)) (visits_of (thinned steps))) clock_names_same
      ∙ ap (λ (drives : List Visit). first_where (λ v. given (is_loose (clock_names steps) drives v.name) (loose_at v)) (visits_of (thinned steps))) drives_same
      ∙ given_found (λ (v : Visit). test v.name) loose_at (visits_of (thinned steps))
      ∙ ap (option_map loose_at) (found_same test steps (λ q there. ap (λ b. not b && not (has_visit (drives_of steps) q)) there))
      ∙ sym (given_found (λ (v : Visit). test v.name) loose_at (visits_of steps))

  faults_by_kind : (some : List Step) → walk_fault some ≡ first_answer (two_clocks some ∷ bad_clock some ∷ clock_read some ∷ two_drivers some ∷ undriven some ∷ [])
  unfolding walk_fault two_clocks bad_clock clock_read two_drivers undriven
  faults_by_kind some = refl

  fault_same : walk_fault (thinned steps) ≡ walk_fault steps
  fault_same =
      faults_by_kind (thinned steps) ∙ rw (clocks_same steps, bad_clock_same, clock_read_same, two_drivers_same, undriven_same) (sym (faults_by_kind steps))

  abbrev taken_by : List Name → Act → List Name
  taken_by clocks = elim [ takes names ↦ outside clocks names | _ ↦ [] ]

  circuit_same : circuit_of (thinned steps) ≡ circuit_of steps
  unfolding circuit_of
  circuit_same =
      let ins =
      ap (λ (clocks : List Name). flat_map (λ s. taken_by clocks s.act) (thinned steps)) clock_names_same
      ∙ flat_same (λ s. taken_by (clock_names steps) s.act) (λ line names. refl) steps in
      let outs = flat_same (λ s. outputs_at s.act) (λ line names. refl) steps in
      let table_nets = flat_same (λ s. table_net s.act) (λ line names. refl) steps in
      let latch_nets = flat_same (λ s. latch_net s.act) (λ line names. refl) steps in
      let tables =
      ap (λ (nets : List Name). filter_map (λ s. table_of nets s.act) (thinned steps)) nets_same
      ∙ filter_same (λ s. table_of (nets_of steps) s.act) (λ line names. refl) steps in
      let latches =
      ap (λ (nets : List Name). filter_map (λ s. latch_of nets s.act) (thinned steps)) nets_same
      ∙ filter_same (λ s. latch_of (nets_of steps) s.act) (λ line names. refl) steps in
      rw (ins, outs, table_nets, latch_nets, tables, latches, nets_same) refl

  pub thinned-gives : (line : ℕ) → walk_gives (thinned steps) line ≡ walk_gives steps line
  thinned-gives line = rw (nets_same, fault_same) (by_cases (flat_fault steps line))
    where
      by_cases : (o : Option NetlistFault) → netlist_unless (thinned steps) o ≡ netlist_unless steps o
      by_cases (Some fault) = refl
      by_cases None = ap Ok circuit_same
