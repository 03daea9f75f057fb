-- Without TwoDrivers and Undriven each net is driven once, and what is driven is visited.
use Rattle.std.proofs.Common.{◌≡◌, ℕ, arith, true, false, not, ◌||◌, ◌&&◌, List, [], ◌∷◌, ◌++◌, inl, inr, refl, ap, sym, subst, ◌∙◌}
use Rattle.std.specs.Prelude.{None, bytes_eq, map, flat_map}
use Rattle.std.specs.List.{list_any}
use Rattle.std.proofs.lemmas.List.{map-append}
use Rattle.std.proofs.lemmas.List.Folds.{list_any-append}
use Rattle.blif_text.specs.declared.NetlistKind.TheVariants.{TwoDrivers, Undriven}
use Rattle.blif_model.specs.LineFault.{at_line}
use Rattle.fm_base.specs.Firsts.{first_where, first_after, given}
use Rattle.fm_base.specs.Names.{Name, is_one_of, has_repeat}
use Rattle.fm_base.proofs.Tests.{and_both, and_not, both_false, clash, false_of, not_not, or_cases, or_false, or_second, or_true}
use Rattle.fm_base.proofs.Distinct.{bytes_eq-sym, same_name, is_same, filter-found}
use Rattle.net_names.specs.Driven.{drives, name_count}
use Rattle.net_names.proofs.Answers.{none_given}
use Rattle.net_names.proofs.Driven.{drives-of-lines}
use Rattle.net_names.proofs.Times.{one_of_both}
use Rattle.blif_model.specs.Walk.{Step, Visit, nets_of, visits_of, drives_of, Act, takes, flat_table, flat_latch, visited}
use Rattle.blif_model.specs.WalkSteps.{is_clock, names_at, driven_nets, taken, table_net, latch_net}
use Rattle.blif_model.specs.WalkFault.{has_visit, two_drivers, undriven}
use Rattle.blif_model.proofs.Nets.{nets-found}

abbrev pub names_of : List Visit → List Name
names_of visits = map (λ v. v.name) visits

-- a name is among visits where it is one of their names
pub visit-found : (visits : List Visit) (name : Name) → has_visit visits name ≡ is_one_of (map (λ (v : Visit). v.name) visits) name
visit-found [] name = refl
visit-found (v ∷ vs) name = rw (bytes_eq-sym v.name name) (ap (λ b. bytes_eq name v.name || b) (visit-found vs name))

-- no drive comes after one of its name, and none is a clock name
pub record IsOnce (steps : List Step) (before ds : List Visit) : Type 0 where
  pub fresh : (name : Name) → has_visit before name ≡ true → is_one_of (names_of ds) name ≡ false
  pub apart : has_repeat (names_of ds) ≡ false
  pub clock : list_any (λ d. is_clock steps d.name) ds ≡ false

once_from : (steps : List Step) (before ds : List Visit)
    → first_after (λ seen d. given (has_visit seen d.name || is_clock steps d.name) (at_line d.line TwoDrivers)) before ds ≡ None
    → IsOnce steps before ds
unfolding first_after
once_from steps before [] e = record { fresh = λ name there. refl; apart = refl; clock = refl }
once_from steps before (d ∷ ds) e =
    let here = none_given (has_visit before d.name || is_clock steps d.name) (at_line d.line TwoDrivers) _ e in
    let parts = or_false (has_visit before d.name) (is_clock steps d.name) here.0 in
    let more = once_from steps (before ++ d ∷ []) ds here.1 in
    let both : (name : Name) → has_visit (before ++ d ∷ []) name ≡ (has_visit before name || (bytes_eq d.name name || false)) =
    λ name. list_any-append (λ other. bytes_eq other.name name) before (d ∷ []) in
    record {
      fresh = λ name there. both_false (bytes_eq name d.name) (is_one_of (names_of ds) name)
          (false_of (bytes_eq name d.name)
          (λ same. clash (has_visit before d.name) (ap (has_visit before) (sym (same_name name d.name same)) ∙ there) parts.0))
          (more.fresh name (both name ∙ rw there refl));
      apart =
          both_false (is_one_of (names_of ds) d.name) (has_repeat (names_of ds))
          (more.fresh d.name (both d.name ∙ rw (is_same d.name) (or_true (has_visit before d.name)))) more.apart;
      clock = both_false (is_clock steps d.name) (list_any (λ x. is_clock steps x.name) ds) parts.1 more.clock;
    }

-- with no second driver each net is driven once at most, and no clock name is driven
pub drives-once : (steps : List Step) → two_drivers steps ≡ None → IsOnce steps [] (drives_of steps)
unfolding two_drivers
drives-once steps e = once_from steps [] (drives_of steps) e

-- with no undriven net each net is driven
net_driven : (steps : List Step) (vs : List Visit)
    → first_where (λ v. given (not (is_clock steps v.name) && not (has_visit (drives_of steps) v.name))
    (at_line v.line (Undriven v.name))) vs ≡ None
    → (name : Name) → not (is_clock steps name) ≡ true → is_one_of (names_of vs) name ≡ true → has_visit (drives_of steps) name ≡ true
unfolding first_where
net_driven steps [] e name clock there = cc
net_driven steps (v ∷ vs) e name clock there =
    let here =
    none_given (not (is_clock steps v.name) && not (has_visit (drives_of steps) v.name)) (at_line v.line (Undriven v.name)) _ e in
    elim (or_cases (bytes_eq name v.name) (is_one_of (names_of vs) name) there) [
      | inl same ↦ not_not (has_visit (drives_of steps) name) (and_not (not (is_clock steps name)) _
          (subst (λ (n : Name). (not (is_clock steps n) && not (has_visit (drives_of steps) n)) ≡ false) (sym (same_name name v.name same))
          here.0) clock)
      | inr behind ↦ net_driven steps vs here.1 name clock behind
    ]

pub nets-driven : (steps : List Step) → undriven steps ≡ None → (name : Name) → is_one_of (nets_of steps) name ≡ true
    → has_visit (drives_of steps) name ≡ true
unfolding undriven nets_of
nets-driven steps e name there =
    let parts = and_both (not (is_clock steps name)) _ (sym (nets-found steps (names_of (visits_of steps)) name) ∙ there) in
    net_driven steps (visits_of steps) e name parts.0 parts.1

pub names_at-names : (line : ℕ) (names : List Name) → map (λ (v : Visit). v.name) (names_at line names) ≡ names
names_at-names line [] = refl
names_at-names line (name ∷ names) = ap (λ (more : List Name). name ∷ more) (names_at-names line names)

-- the names of a flat list
pub flat_names : (at : Step → List Name) (some : List Step) → names_of (flat_map (λ s. names_at s.line (at s)) some) ≡ flat_map at some
flat_names at [] = refl
flat_names at (s ∷ some) =
    map-append (λ (v : Visit). v.name) (names_at s.line (at s)) (flat_map (λ x. names_at x.line (at x)) some)
    ∙ rw (names_at-names s.line (at s), flat_names at some) refl

-- what a step drives it visits
step_visits : (steps : List Step) (act : Act) (name : Name) → is_one_of (driven_nets steps act) name ≡ true
    → is_one_of (visited act) name ≡ true
step_visits steps (takes names) name e =
    (and_both (not (is_clock steps name)) (is_one_of names name) (sym (filter-found (λ n. not (is_clock steps n)) names name) ∙ e)).1
step_visits steps (flat_table ins out rows) name e =
    one_of_both ins (out ∷ []) name ∙ or_second (is_one_of ins name) (bytes_eq name out || false) e
step_visits steps (flat_latch s) name e = or_second (bytes_eq name s.from) (bytes_eq name s.to || false) e
step_visits steps _ name e = cc

drives_among : (steps some : List Step) (name : Name) → is_one_of (flat_map (λ s. driven_nets steps s.act) some) name ≡ true
    → is_one_of (flat_map (λ s. visited s.act) some) name ≡ true
drives_among steps [] name e = e
drives_among steps (s ∷ some) name e =
    one_of_both (visited s.act) (flat_map (λ x. visited x.act) some) name
    ∙ elim (or_cases _ _ (sym (one_of_both (driven_nets steps s.act) _ name) ∙ e)) [
      | inl here ↦ rw (step_visits steps s.act name here) refl
      | inr behind ↦ or_second (is_one_of (visited s.act) name) _ (drives_among steps some name behind)
    ]

-- each net that is driven is visited
pub drives-visited : (steps : List Step) (name : Name) → is_one_of (names_of (drives_of steps)) name ≡ true
    → is_one_of (names_of (visits_of steps)) name ≡ true
unfolding drives_of visits_of
drives-visited steps name e =
    rw (flat_names (λ s. visited s.act) steps)
    (drives_among steps steps name (rw (flat_names (λ s. driven_nets steps s.act) steps) at e))

-- the drives of a line are those of its inputs, its table and its latch
act_drives : (name : Name) (steps : List Step) (act : Act)
    → name_count name (driven_nets steps act) ≡ drives (taken steps act) (table_net act) (latch_net act) name
act_drives name steps (takes names) = omega arith
act_drives name steps (flat_table ins out rows) = omega arith
act_drives name steps (flat_latch l) = omega arith
act_drives name steps _ = refl

-- the drives of a walk are those of its inputs, tables and latches
pub times-drives : (name : Name) (steps some : List Step)
    → name_count name (names_of (flat_map (λ s. names_at s.line (driven_nets steps s.act)) some))
    ≡ drives (flat_map (λ s. taken steps s.act) some) (flat_map (λ s. table_net s.act) some) (flat_map (λ s. latch_net s.act) some) name
times-drives name steps some =
    ap (name_count name) (flat_names (λ (s : Step). driven_nets steps s.act) some)
    ∙ drives-of-lines (λ (s : Step). driven_nets steps s.act) (λ (s : Step). taken steps s.act) (λ (s : Step). table_net s.act)
    (λ (s : Step). latch_net s.act) name (λ (s : Step). act_drives name steps s.act) some
