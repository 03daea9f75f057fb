-- The nets are the names of the flattened model without its clock names, and few more names than nets stand there.
use Rattle.std.proofs.Common.{◌≡◌, ◌+◌, ◌≤◌, Bool, true, false, not, ◌&&◌, List, [], ◌∷◌, refl, ap, sym, ◌∙◌, length, arith}
use Rattle.std.specs.Prelude.{bytes_eq, filter, flat_map, map}
use Rattle.std.proofs.lemmas.Bool.Decides.{nat_tests}
use Rattle.std.proofs.lemmas.List.{append-nil, map-append}
use Rattle.std.proofs.lemmas.List.Elements.{filter-append}
use Rattle.std.proofs.lemmas.List.Filters.{length-filter_both}
use Rattle.fm_base.specs.Lists.{firsts}
use Rattle.fm_base.specs.Names.{Name, is_one_of, distinct}
use Rattle.fm_base.proofs.Distinct.{same_name, is_same, filter-found, no_repeat_where}
use Rattle.net_names.proofs.Few.{no_more}
use Rattle.net_names.proofs.Times.{one_of_both}
use Rattle.blif_model.specs.Walk.{Act, flat_latch, Step, Visit, visited, visits_of, clock_names, unclocked, nets_of}
use Rattle.blif_model.specs.WalkSteps.{is_clock, names_at, clocked, control_of}
use Rattle.blif_model.proofs.Drivers.{names_at-names}
use Rattle.blif_flatten.proofs.Marking.{names_apart}
use Rattle.blif_flatten.specs.Flat.{all_names, mentioned}

-- ---- names that pass a test, each at its first place

module _ (test : Name → Bool) where
  abbrev differs : Name → Name → Bool
  differs first other = not (bytes_eq other first)

  -- where a name fails, nothing is lost with those that are the same
  gone : (x : Name) → test x ≡ false → (ys : List Name) → filter test (filter (differs x) ys) ≡ filter test ys
  gone x e [] = refl
  gone x e (y ∷ ys) = grind (arith, nat_tests, gone x e ys, same_name y x)

  swapped : (q : Name → Bool) (ys : List Name) → filter test (filter q ys) ≡ filter q (filter test ys)
  swapped q [] = refl
  swapped q (y ∷ ys) = grind (arith, nat_tests, swapped q ys)

  filter-distinct : (xs : List Name) → filter test (distinct xs) ≡ distinct (filter test xs)
  unfolding firsts
  filter-distinct [] = refl
  filter-distinct (x ∷ xs) =
      let more = filter-distinct xs in
      let swap = swapped (differs x) (distinct xs) in
      let less = λ (e : test x ≡ false). gone x e (distinct xs) in
      grind (arith, nat_tests, less)

  -- where all fail, none is left
  none_passes : (xs : List Name) → ((q : Name) → is_one_of xs q ≡ true → test q ≡ false) → filter test xs ≡ []
  none_passes [] out = refl
  none_passes (x ∷ xs) out = grind (arith, nat_tests, out x, is_same x, none_passes xs (λ q h. grind (arith, nat_tests, out q)))

-- ---- the nets among the names

visited_all : (steps : List Step) → map (λ (v : Visit). v.name) (visits_of steps) ≡ flat_map (λ s. visited s.act) steps
unfolding visits_of
visited_all [] = refl
visited_all (s ∷ steps) =
    map-append (λ (v : Visit). v.name) (names_at s.line (visited s.act)) (visits_of steps)
    ∙ rw (names_at-names s.line (visited s.act), visited_all steps) refl

-- a control is a clock name
pub control_clocked : (act : Act) (q : Name) → is_one_of (control_of act) q ≡ true → is_one_of (clocked act) q ≡ true
control_clocked (flat_latch s) q h = h
control_clocked act q h = cc

module _ (steps : List Step) where
  abbrev is_net : Name → Bool
  is_net name = not (is_clock steps name)

  controls_gone : (some : List Step) → ((q : Name) → is_one_of (flat_map (λ s. clocked s.act) some) q ≡ true → is_clock steps q ≡ true)
      → filter is_net (flat_map (λ s. mentioned s.act) some) ≡ filter is_net (flat_map (λ s. visited s.act) some)
  controls_gone [] all = refl
  controls_gone (s ∷ some) all =
      let own : filter is_net (control_of s.act) ≡ [] =
      none_passes is_net (control_of s.act) (λ q h. ap not (all q (grind (arith, nat_tests, one_of_both (clocked s.act) (flat_map (λ x. clocked x.act) some) q, control_clocked s.act q)))) in
      let rest = controls_gone some (λ q h. all q (grind (arith, nat_tests, one_of_both (clocked s.act) (flat_map (λ x. clocked x.act) some) q))) in
      filter-append is_net (mentioned s.act) (flat_map (λ x. mentioned x.act) some)
      ∙ rw (filter-append is_net (visited s.act) (control_of s.act), own, append-nil (filter is_net (visited s.act)), rest) (sym (filter-append is_net (visited s.act) (flat_map (λ x. visited x.act) some)))

  -- the nets are the names without the clock names
  pub nets-named : nets_of steps ≡ unclocked steps (all_names steps)
  unfolding nets_of all_names clock_names
  nets-named =
      ap (λ (names : List Name). unclocked steps (distinct names)) (visited_all steps)
      ∙ filter-distinct is_net (flat_map (λ s. visited s.act) steps)
      ∙ ap distinct (sym (controls_gone steps (λ q h. h)))
      ∙ sym (filter-distinct is_net (flat_map (λ s. mentioned s.act) steps))

  -- a clock name is no net
  pub clock-out : (q : Name) → is_clock steps q ≡ true → is_one_of (nets_of steps) q ≡ false
  clock-out q e = ap (λ (names : List Name). is_one_of names q) nets-named ∙ filter-found is_net (all_names steps) q ∙ ap (λ b. not b && is_one_of (all_names steps) q) e

  -- the names are no more than the nets and the clock names
  pub few_names : length (all_names steps) ≤ length (nets_of steps) + length (clock_names steps)
  few_names =
      let both = length-filter_both (is_clock steps) is_net (λ q. refl) (all_names steps) in
      let nets : length (nets_of steps) ≡ length (filter is_net (all_names steps)) = ap (λ (names : List Name). length names) nets-named in
      let few = no_more (filter (is_clock steps) (all_names steps)) (clock_names steps) (no_repeat_where (is_clock steps) (all_names steps) (names_apart steps))
      (λ q h. grind (arith, nat_tests, filter-found (is_clock steps) (all_names steps) q)) in
      omega arith
