-- The walk of the generated netlist.
use Rattle.std.proofs.Common.{◌≡◌, ℕ, ◌+◌, false, List, [], ◌∷◌, ◌++◌, map, refl, ap, sym, ◌∙◌}
use Rattle.std.specs.Prelude.{None, codes, flat_map, filter, not}
use Rattle.std.proofs.lemmas.List.{map-append}
use Rattle.fm_base.specs.Lists.{below}
use Rattle.fm_base.specs.Names.{Bytes, Name, is_one_of}
use Rattle.blif_model.specs.Models.{items_of, rows_below}
use Rattle.blif_model.specs.Statement.{Statement, inputs, latch, outputs, row, table}
use Rattle.blif_model.specs.Walk.{Act, Scope, Step, Visit, acts_of, clock_names, drives_of, enter, flat_latch, flat_table, gives, net_of, steps_from, takes, top, unclocked, visits_of, walk}
use Rattle.campaign_laws.proofs.Stating.{body, both_says, ends, ports, says_from, source, word}
use Rattle.campaign_laws.proofs.Faultless.{the_model}

-- ---- the lines, by what they do

pub data Simple : Type 0 where
  Port : Name → Simple
  Ports : Name → Name → Simple
  Copy : Name → Name → Simple
  Pair : Name → Name → Name → Simple
  Rows : List Name → Simple
  Store : Name → Name → Simple

abbrev pub statement : Simple → Statement
statement (Port name) = inputs (name ∷ [])
statement (Ports first second) = outputs (first ∷ second ∷ [])
statement (Copy read out) = table (read ∷ []) out
statement (Pair one other out) = table (one ∷ other ∷ []) out
statement (Rows tokens) = row tokens
statement (Store from to) = latch (record { from = from; to = to; edge = None; control = None; start = false })

abbrev pub stage_lines : (read inverter stored : Bytes) → List Simple
stage_lines read inverter stored = Copy read inverter ∷ Rows (codes "0" ∷ codes "1" ∷ []) ∷ Store inverter stored ∷ []

abbrev pub both_lines : ℕ → List Simple
both_lines k =
    stage_lines (source (codes "a") (k + 1)) (word (codes "m") (k + 1)) (word (codes "a") (k + 1))
    ++ stage_lines (source (codes "b") (k + 1)) (word (codes "n") (k + 1)) (word (codes "b") (k + 1))

abbrev pub port_lines : List Simple
port_lines = Port (codes "d") ∷ Ports (codes "q") (codes "e") ∷ []

abbrev pub end_lines : ℕ → List Simple
end_lines n =
    Copy (word (codes "a") n) (codes "q") ∷ Rows (codes "1" ∷ codes "1" ∷ []) ∷ Pair (word (codes "a") n) (word (codes "b") n) (codes "e")
    ∷ Rows (codes "10" ∷ codes "1" ∷ []) ∷ Rows (codes "01" ∷ codes "1" ∷ []) ∷ []

abbrev pub lines : ℕ → List Simple
lines n = port_lines ++ flat_map both_lines (below n) ++ end_lines n

flat_lines : (ks : List ℕ) → map statement (flat_map both_lines ks) ≡ flat_map both_says ks
flat_lines [] = refl
flat_lines (k ∷ ks) = map-append statement (both_lines k) (flat_map both_lines ks) ∙ ap (λ rest. both_says k ++ rest) (flat_lines ks)

pub body_is : (n : ℕ) → map statement (lines n) ≡ body n
body_is n =
    map-append statement (port_lines ++ flat_map both_lines (below n)) (end_lines n)
    ∙ ap (λ rest. (ports ++ rest) ++ ends n) (flat_lines (below n))

-- ---- the steps

unfoldable pub steps_of : ℕ → List Simple → List Step
steps_of k [] = []
steps_of k (l ∷ ls) = map (λ act. record { line = k; act = act }) (acts_of top (statement l) (rows_below (says_from (k + 1) (map statement ls)))) ++ steps_of (k + 1) ls

steps_are : (inner : Scope → Name → List Step) (j k : ℕ) (ls : List Simple) → steps_from inner top j (items_of (says_from k (map statement ls))) ≡ steps_of k ls
unfolding steps_from items_of steps_of
steps_are inner j k [] = refl
steps_are inner j k (Port name ∷ ls) = ap (λ rest. record { line = k; act = takes (name ∷ []) } ∷ rest) (steps_are inner j (k + 1) ls)
steps_are inner j k (Ports first second ∷ ls) = ap (λ rest. record { line = k; act = gives (first ∷ second ∷ []) } ∷ rest) (steps_are inner j (k + 1) ls)
steps_are inner j k (Copy read out ∷ ls) =
    ap (λ rest. map (λ act. record { line = k; act = act }) (acts_of top (table (read ∷ []) out) (rows_below (says_from (k + 1) (map statement ls)))) ++ rest) (steps_are inner j (k + 1) ls)
steps_are inner j k (Pair one other out ∷ ls) =
    ap (λ rest. map (λ act. record { line = k; act = act }) (acts_of top (table (one ∷ other ∷ []) out) (rows_below (says_from (k + 1) (map statement ls)))) ++ rest) (steps_are inner j (k + 1) ls)
steps_are inner j k (Rows tokens ∷ ls) = steps_are inner j (k + 1) ls
steps_are inner j k (Store from to ∷ ls) =
    ap (λ rest. map (λ act. record { line = k; act = act }) (acts_of top (statement (Store from to)) (rows_below (says_from (k + 1) (map statement ls)))) ++ rest) (steps_are inner j (k + 1) ls)

-- the walk of the generated netlist
abbrev pub the_steps : ℕ → List Step
the_steps n = steps_of 2 (lines n)

pub walk_is : (n : ℕ) → walk (the_model n ∷ []) ≡ the_steps n
unfolding walk the_model
walk_is n =
    ap (λ says. steps_from (enter (the_model n ∷ []) 32) top 0 (items_of (says_from 2 says))) (sym (body_is n))
    ∙ steps_are (enter (the_model n ∷ []) 32) 0 2 (lines n)

-- ---- what the steps visit, drive and clock

abbrev pub visited_by : Simple → List Name
visited_by (Port name) = name ∷ []
visited_by (Ports first second) = first ∷ second ∷ []
visited_by (Copy read out) = read ∷ out ∷ []
visited_by (Pair one other out) = one ∷ other ∷ out ∷ []
visited_by (Rows tokens) = []
visited_by (Store from to) = from ∷ to ∷ []

abbrev pub driven_by : Simple → List Name
driven_by (Port name) = name ∷ []
driven_by (Ports first second) = []
driven_by (Copy read out) = out ∷ []
driven_by (Pair one other out) = out ∷ []
driven_by (Rows tokens) = []
driven_by (Store from to) = to ∷ []

unfoldable pub visited_names : List Simple → List Name
visited_names ls = flat_map visited_by ls

unfoldable pub driven_names : List Simple → List Name
driven_names ls = flat_map driven_by ls

pub no_clocks : (k : ℕ) (ls : List Simple) → clock_names (steps_of k ls) ≡ []
unfolding clock_names steps_of net_of
no_clocks k [] = refl
no_clocks k (Port name ∷ ls) = no_clocks (k + 1) ls
no_clocks k (Ports first second ∷ ls) = no_clocks (k + 1) ls
no_clocks k (Copy read out ∷ ls) = no_clocks (k + 1) ls
no_clocks k (Pair one other out ∷ ls) = no_clocks (k + 1) ls
no_clocks k (Rows tokens ∷ ls) = no_clocks (k + 1) ls
no_clocks k (Store from to ∷ ls) = no_clocks (k + 1) ls

abbrev pub name_of : Visit → Name
name_of v = v.name

pub visits_are : (k : ℕ) (ls : List Simple) → map name_of (visits_of (steps_of k ls)) ≡ visited_names ls
unfolding visits_of steps_of visited_names net_of
visits_are k [] = refl
visits_are k (Port name ∷ ls) = ap (λ rest. name ∷ rest) (visits_are (k + 1) ls)
visits_are k (Ports first second ∷ ls) = ap (λ rest. first ∷ second ∷ rest) (visits_are (k + 1) ls)
visits_are k (Copy read out ∷ ls) = ap (λ rest. read ∷ out ∷ rest) (visits_are (k + 1) ls)
visits_are k (Pair one other out ∷ ls) = ap (λ rest. one ∷ other ∷ out ∷ rest) (visits_are (k + 1) ls)
visits_are k (Rows tokens ∷ ls) = visits_are (k + 1) ls
visits_are k (Store from to ∷ ls) = ap (λ rest. from ∷ to ∷ rest) (visits_are (k + 1) ls)

-- the nets that steps drive, where `keep` says which inputs count
abbrev pub drives_by : (List Name → List Name) → List Step → List Visit
drives_by keep steps =
    let driven : Act → List Name = elim [ takes ns ↦ keep ns | flat_table _ o _ ↦ o ∷ [] | flat_latch l ↦ l.to ∷ [] | _ ↦ [] ] in
    flat_map (λ s. map (λ name. record { name = name; line = s.line }) (driven s.act)) steps

drives_by_names : (k : ℕ) (ls : List Simple) → map name_of (drives_by (λ names. names) (steps_of k ls)) ≡ driven_names ls
unfolding steps_of driven_names net_of
drives_by_names k [] = refl
drives_by_names k (Port name ∷ ls) = ap (λ rest. name ∷ rest) (drives_by_names (k + 1) ls)
drives_by_names k (Ports first second ∷ ls) = drives_by_names (k + 1) ls
drives_by_names k (Copy read out ∷ ls) = ap (λ rest. out ∷ rest) (drives_by_names (k + 1) ls)
drives_by_names k (Pair one other out ∷ ls) = ap (λ rest. out ∷ rest) (drives_by_names (k + 1) ls)
drives_by_names k (Rows tokens ∷ ls) = drives_by_names (k + 1) ls
drives_by_names k (Store from to ∷ ls) = ap (λ rest. to ∷ rest) (drives_by_names (k + 1) ls)

keep_all : (names : List Name) → filter (λ name. not (is_one_of [] name)) names ≡ names
keep_all [] = refl
keep_all (name ∷ names) = ap (λ rest. name ∷ rest) (keep_all names)

pub all_kept : (steps : List Step) → clock_names steps ≡ [] → (names : List Name) → unclocked steps names ≡ names
all_kept steps none names = ap (λ clock. filter (λ name. not (is_one_of clock name)) names) none ∙ keep_all names

pub drives_are : (k : ℕ) (ls : List Simple) → map name_of (drives_of (steps_of k ls)) ≡ driven_names ls
unfolding drives_of
drives_are k ls =
    (λ j. map name_of (drives_by (λ names. all_kept (steps_of k ls) (no_clocks k ls) names j) (steps_of k ls)))
    ∙ drives_by_names k ls
