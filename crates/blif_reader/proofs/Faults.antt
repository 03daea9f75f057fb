-- The first name of a sort as the fault of its line.
use Rattle.std.proofs.Common.{◌≡◌, ℕ, Bool, true, false, cond, not, ◌||◌, ◌&&◌, List, [], ◌∷◌, refl, ap, sym, ◌∙◌, get_or, map}
use Rattle.std.specs.Prelude.{Option, Some, find}
use Rattle.std.specs.List.{list_any}
use Rattle.std.specs.Option.{option_map, option_or}
use Rattle.std.proofs.lemmas.List.Folds.{find-append}
use Rattle.fm_base.specs.Names.{Name, is_one_of}
use Rattle.fm_base.specs.Firsts.{first_where, given}
use Rattle.fm_base.specs.Lists.{same_bit}
use Rattle.fm_base.proofs.Options.{or_mapped}
use Rattle.net_names.proofs.Times.{one_of_both}
use Rattle.blif_text.specs.declared.NetlistKind.{NetlistKind}
use Rattle.blif_text.specs.declared.NetlistKind.TheVariants.{Undriven}
use Rattle.blif_text.specs.declared.NetlistFault.{NetlistFault}
use Rattle.blif_model.specs.LineFault.{at_line}
use Rattle.blif_model.specs.Walk.{Step, Visit, visits_of, clock_names, drives_of}
use Rattle.blif_model.specs.WalkSteps.{is_clock, names_at}
use Rattle.blif_model.specs.WalkFault.{has_visit, undriven}
use Rattle.blif_model.proofs.Drivers.{visit-found}
use Rattle.blif_flatten.specs.declared.sorts.Sort.{Sort}
use Rattle.blif_flatten.specs.declared.sorts.Sort.TheVariants.{Visited}
use Rattle.blif_flatten.specs.Sorts.{named}
use Rattle.blif_reader.specs.Found.{passes, visits_by}
use Rattle.blif_reader.specs.Passes.{settled}
use Rattle.blif_reader.proofs.Finding.{find_alike}

-- the answer of the first that passes
pub given_found : {X Y : Type 0} (p : X → Bool) (f : X → Y) (xs : List X) → first_where (λ x. given (p x) (f x)) xs ≡ option_map f (find p xs)
unfolding first_where
given_found p f [] = refl
given_found {X} {Y} p f (x ∷ xs) = by_cases (p x) (given_found p f xs)
  where
    by_cases : (b : Bool) → first_where (λ y. given (p y) (f y)) xs ≡ option_map f (find p xs)
        → option_or (given b (f x)) (first_where (λ y. given (p y) (f y)) xs) ≡ option_map f (cond b (Some x) (find p xs))
    by_cases true more = refl
    by_cases false more = more

abbrev pub fault_at : NetlistKind → Visit → NetlistFault
fault_at kind v = at_line v.line kind

module _ (kind : NetlistKind) (sort : Sort) (wanted : Bool) (test : Name → Bool) where
  on_line : (line : ℕ) (names : List Name)
      → given (list_any (λ name. same_bit wanted (test name)) names) (at_line line kind) ≡ option_map (fault_at kind) (find (passes wanted test) (names_at line names))
  on_line line [] = refl
  on_line line (name ∷ names) = by_cases (same_bit wanted (test name)) (on_line line names)
    where
      by_cases : (b : Bool) → given (list_any (λ n. same_bit wanted (test n)) names) (at_line line kind) ≡ option_map (fault_at kind) (find (passes wanted test) (names_at line names))
          → given (b || list_any (λ n. same_bit wanted (test n)) names) (at_line line kind)
          ≡ option_map (fault_at kind) (cond b (Some (record { name = name; line = line })) (find (passes wanted test) (names_at line names)))
      by_cases true more = refl
      by_cases false more = more

  -- the first line with a name that passes
  pub line_faults : (steps : List Step)
      → first_where (λ s. given (list_any (λ name. same_bit wanted (test name)) (named sort s.act)) (at_line s.line kind)) steps
      ≡ option_map (fault_at kind) (find (passes wanted test) (visits_by sort steps))
  unfolding first_where
  line_faults [] = refl
  line_faults (s ∷ steps) =
      rw (on_line s.line (named sort s.act), line_faults steps, find-append (passes wanted test) (names_at s.line (named sort s.act)) (visits_by sort steps))
      (sym (or_mapped (fault_at kind) (find (passes wanted test) (names_at s.line (named sort s.act))) (find (passes wanted test) (visits_by sort steps))))

-- ---- Undriven

neither : (a b : Bool) → not (a || b) ≡ (not a && not b)
neither true b = refl
neither false b = refl

pub undriven-net : (steps : List Step) (o : Option Visit) → o ≡ find (passes false (is_one_of (settled steps (drives_of steps)))) (visits_by Visited steps)
    → option_map (λ (v : Visit). at_line v.line (Undriven v.name)) o ≡ undriven steps
unfolding undriven visits_of
undriven-net steps o e =
    ap (option_map (λ (v : Visit). at_line v.line (Undriven v.name))) (e ∙ find_alike (passes false (is_one_of (settled steps (drives_of steps)))) loose (visits_by Visited steps) (λ k d lt. loose_alike (get_or (visits_by Visited steps) k d)))
    ∙ sym (given_found loose (λ (v : Visit). at_line v.line (Undriven v.name)) (visits_by Visited steps))
  where
    loose : Visit → Bool
    loose v = not (is_clock steps v.name) && not (has_visit (drives_of steps) v.name)

    loose_alike : (v : Visit) → not (is_one_of (settled steps (drives_of steps)) v.name) ≡ loose v
    loose_alike v =
        ap not (one_of_both (clock_names steps) (map (λ (d : Visit). d.name) (drives_of steps)) v.name ∙ ap (λ b. is_clock steps v.name || b) (sym (visit-found (drives_of steps) v.name)))
        ∙ neither (is_clock steps v.name) (has_visit (drives_of steps) v.name)
