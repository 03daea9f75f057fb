-- The faults that are found in the walk of the flattened main model: the kinds from TwoClocks to Undriven, in their order.
use Rattle.std.specs.Prelude.{Bool, not, ◌&&◌, ◌||◌, List, [], ◌∷◌, ◌++◌, flat_map, length, nat_lt, Option, None, bytes_eq, slice_index_or}
use Rattle.std.specs.List.{list_any}
use Rattle.std.specs.Option.{option_to_list}
use Rattle.blif_text.specs.declared.NetlistKind.TheVariants.{TwoClocks, BadClock, ClockRead, TwoDrivers, Undriven}
use Rattle.blif_text.specs.declared.NetlistFault.{NetlistFault}
use Rattle.fm_base.specs.Firsts.{first_after, first_where, first_answer, given}
use Rattle.blif_model.specs.LineFault.{at_line}
use Rattle.blif_model.specs.Walk.{Act, takes, gives, clocks, flat_table, flat_latch, Step, Visit, visits_of, clock_names, drives_of}
use Rattle.fm_base.specs.Names.{Name, distinct, is_one_of}

-- the faults that are found in the walk, kind by kind
unfoldable pub walk_faults : List Step → List (Option NetlistFault)
walk_faults steps =
    let is_clock = is_one_of (clock_names steps) in
    let types = λ (lines : List Step). flat_map (λ s. elim s.act [ flat_latch l ↦ option_to_list l.edge | _ ↦ [] ]) lines in
    let is_mixed = λ (lines : List Step). nat_lt 1 (length (distinct (types lines))) || nat_lt 1 (length (distinct (clock_names lines))) in
    let inputs = flat_map (λ s. elim s.act [ takes names ↦ names | clocks names ↦ names | _ ↦ [] ]) steps in
    let controls : Act → List Name = elim [ flat_latch l ↦ option_to_list l.control | _ ↦ [] ] in
    let read : Act → List Name = elim [ flat_table ins out rows ↦ ins | flat_latch l ↦ l.from ∷ [] | gives names ↦ names | _ ↦ [] ] in
    let is_among = λ (others : List Visit) (name : Name). list_any (λ other. bytes_eq other.name name) others in
    let is_loose = λ (name : Name). not (is_clock name) && not (is_among (drives_of steps) name) in
    -- TwoClocks: at the first line up to which the latches have two types, or there are two clock names
    first_after (λ before s. given (is_mixed (before ++ s ∷ [])) (at_line s.line TwoClocks)) [] steps
    -- BadClock: the control of a latch is no name on an `.inputs` or `.clock` line of the main model
    ∷ first_where (λ s. given (list_any (λ name. not (is_one_of inputs name)) (controls s.act)) (at_line s.line BadClock)) steps
    -- ClockRead: a clock name is read by a table or a latch, or is an output of the main model
    ∷ first_where (λ s. given (list_any is_clock (read s.act)) (at_line s.line ClockRead)) steps
    -- TwoDrivers: a net is driven that was driven before, or a clock name is driven
    ∷ first_after (λ before d. given (is_among before d.name || is_clock d.name) (at_line d.line TwoDrivers)) [] (drives_of steps)
    -- Undriven: a net is visited that has no driver
    ∷ first_where (λ v. given (is_loose v.name) (at_line v.line (Undriven v.name))) (visits_of steps) ∷ []

-- ---- shapes of private steps: the first of these faults, and each kind by itself

unfoldable pub walk_fault : List Step → Option NetlistFault
unfolding walk_faults
walk_fault steps = first_answer (walk_faults steps)

unfoldable pub two_clocks : List Step → Option NetlistFault
unfolding walk_faults
two_clocks steps = slice_index_or (walk_faults steps) 0 None

unfoldable pub bad_clock : List Step → Option NetlistFault
unfolding walk_faults
bad_clock steps = slice_index_or (walk_faults steps) 1 None

unfoldable pub clock_read : List Step → Option NetlistFault
unfolding walk_faults
clock_read steps = slice_index_or (walk_faults steps) 2 None

unfoldable pub two_drivers : List Step → Option NetlistFault
unfolding walk_faults
two_drivers steps = slice_index_or (walk_faults steps) 3 None

unfoldable pub undriven : List Step → Option NetlistFault
unfolding walk_faults
undriven steps = slice_index_or (walk_faults steps) 4 None

-- a visit of this name is among these
abbrev pub has_visit : List Visit → Name → Bool
has_visit others name = list_any (λ other. bytes_eq other.name name) others
