-- Without ClockRead, what is read is a net.
use Rattle.std.proofs.Common.{◌≡◌, true, false, inl, inr, ◌||◌, List, [], ◌∷◌, refl, ap, sym, ◌∙◌}
use Rattle.std.specs.Prelude.{flat_map, None}
use Rattle.std.specs.List.{AllByRecursion, list_any, list_all}
use Rattle.std.proofs.lemmas.List.Folds.{list_all-append}
use Rattle.blif_text.specs.declared.NetlistKind.TheVariants.{ClockRead}
use Rattle.fm_base.specs.Firsts.{first_where, given}
use Rattle.fm_base.specs.Names.{Name, is_one_of}
use Rattle.fm_base.proofs.Tests.{and_both, both_true, or_cases, or_false, or_second}
use Rattle.fm_base.proofs.Distinct.{distinct-found, is_same, same_name}
use Rattle.net_names.proofs.Answers.{none_given}
use Rattle.net_names.proofs.Times.{one_of_both}
use Rattle.blif_model.specs.LineFault.{at_line}
use Rattle.blif_model.specs.Walk.{Act, gives, flat_table, flat_latch, Step, visited, visits_of, nets_of}
use Rattle.blif_model.specs.WalkSteps.{is_clock, outputs_at, read}
use Rattle.blif_model.specs.WalkFault.{clock_read}
use Rattle.blif_model.specs.Net.{output_names_of}
use Rattle.blif_model.proofs.Nets.{nets-found}
use Rattle.blif_model.proofs.Drivers.{flat_names, names_of}

-- the names that these steps visit
abbrev seen : List Step → List Name
seen some = flat_map (λ s. visited s.act) some

-- a name that is read is visited
read_visits : (act : Act) (name : Name) → is_one_of (read act) name ≡ true → is_one_of (visited act) name ≡ true
read_visits (flat_table ins out rows) name e = one_of_both ins (out ∷ []) name ∙ rw e refl
read_visits (flat_latch s) name e = elim (or_cases _ false e) [ inl from ↦ rw from refl | inr none ↦ cc ]
read_visits (gives names) name e = e
read_visits _ name e = cc

-- names that are visited and are no clock names are nets
all_nets : (steps : List Step) (names : List Name) → list_any (is_clock steps) names ≡ false
    → ((name : Name) → is_one_of names name ≡ true → is_one_of (seen steps) name ≡ true) → list_all (is_one_of (nets_of steps)) names ≡ true
unfolding nets_of visits_of
all_nets steps [] e among = refl
all_nets steps (x ∷ xs) e among =
    let parts = or_false (is_clock steps x) (list_any (is_clock steps) xs) e in
    let there : is_one_of (names_of (visits_of steps)) x ≡ true =
    rw (flat_names (λ s. visited s.act) steps) (among x (ap (λ b. b || is_one_of xs x) (is_same x))) in
    let here : is_one_of (nets_of steps) x ≡ true = nets-found steps (names_of (visits_of steps)) x ∙ rw (parts.0, there) refl in
    both_true (is_one_of (nets_of steps) x) (list_all (is_one_of (nets_of steps)) xs) here
    (all_nets steps xs parts.1 (λ name h. among name (or_second _ (is_one_of xs name) h)))

reads_among : (steps some : List Step) → ((name : Name) → is_one_of (seen some) name ≡ true → is_one_of (seen steps) name ≡ true)
    → first_where (λ s. given (list_any (is_clock steps) (read s.act)) (at_line s.line ClockRead)) some ≡ None
    → AllByRecursion (λ s. list_all (is_one_of (nets_of steps)) (read s.act) ≡ true) some
unfolding first_where
reads_among steps [] among e = tt
reads_among steps (s ∷ some) among e =
    let here = none_given (list_any (is_clock steps) (read s.act)) (at_line s.line ClockRead) _ e in
    let both : (name : Name) → is_one_of (seen (s ∷ some)) name ≡ (is_one_of (visited s.act) name || is_one_of (seen some) name) =
    one_of_both (visited s.act) (seen some) in (
      all_nets steps (read s.act) here.0 (λ name h. among name (both name ∙ rw (read_visits s.act name h) refl)),
      reads_among steps some (λ name h. among name (both name ∙ or_second (is_one_of (visited s.act) name) _ h)) here.1,
    )

-- each name that a step reads is a net
pub reads-nets : (steps : List Step) → clock_read steps ≡ None
    → AllByRecursion (λ s. list_all (is_one_of (nets_of steps)) (read s.act) ≡ true) steps
unfolding clock_read
reads-nets steps e = reads_among steps steps (λ name h. h) e

outputs_among : (nets : List Name) (some : List Step) → AllByRecursion (λ s. list_all (is_one_of nets) (read s.act) ≡ true) some
    → list_all (is_one_of nets) (flat_map (λ s. outputs_at s.act) some) ≡ true
outputs_among nets [] all = refl
outputs_among nets (s ∷ some) all =
    list_all-append (is_one_of nets) (outputs_at s.act) (flat_map (λ x. outputs_at x.act) some)
    ∙ both_true _ _ (at s.act all.0) (outputs_among nets some all.1)
  where
    at : (act : Act) → list_all (is_one_of nets) (read act) ≡ true → list_all (is_one_of nets) (outputs_at act) ≡ true
    at (gives names) e = e
    at _ e = refl

-- a member of names that all pass
one_passes : (nets names : List Name) (name : Name) → list_all (is_one_of nets) names ≡ true → is_one_of names name ≡ true
    → is_one_of nets name ≡ true
one_passes nets [] name e f = cc
one_passes nets (x ∷ xs) name e f =
    let parts = and_both (is_one_of nets x) _ e in
    elim (or_cases _ (is_one_of xs name) f)
    [ inl same ↦ ap (is_one_of nets) (same_name name x same) ∙ parts.0 | inr there ↦ one_passes nets xs name parts.1 there ]

-- each output is a net
pub outputs-nets : (steps : List Step) → clock_read steps ≡ None → (name : Name) → is_one_of (output_names_of steps) name ≡ true
    → is_one_of (nets_of steps) name ≡ true
unfolding output_names_of
outputs-nets steps e name f =
    let outputs : List Name = flat_map (λ s. outputs_at s.act) steps in
    one_passes (nets_of steps) outputs name (outputs_among (nets_of steps) steps (reads-nets steps e))
    (sym (distinct-found outputs name) ∙ f)
