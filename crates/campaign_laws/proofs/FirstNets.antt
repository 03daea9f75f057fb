-- The first nets, the input and the first latches of the generated netlist.
use Rattle.std.proofs.Common.{◌≡◌, ℕ, zero, suc, ◌+◌, ◌<◌, false, List, [], ◌∷◌, ◌++◌, map, refl, ap, ◌∙◌, arith}
use Rattle.std.specs.Prelude.{codes, decimal, flat_map, slice_index_or}
use Rattle.std.proofs.lemmas.Fmt.{decimal_digit}
use Rattle.std.specs.List.{range_with_len}
use Rattle.std.proofs.lemmas.List.Concat.{flat_map-append}
use Rattle.circuit.specs.declared.parts.Latch.{Latch}
use Rattle.circuit.specs.Circuit.{Circuit}
use Rattle.circuit.specs.Names.{net_name}
use Rattle.fm_base.specs.Lists.{below, firsts}
use Rattle.fm_base.specs.Names.{Bytes, Name, distinct}
use Rattle.net_names.specs.Nets.{net_id}
use Rattle.blif_model.specs.Net.{circuit_of}
use Rattle.blif_model.specs.Walk.{Step, net_of, nets_of, takes, unclocked, visits_of}
use Rattle.campaign_laws.proofs.Stepping.Simple.{Copy, Pair, Port, Ports, Rows, Store}
use Rattle.campaign_laws.proofs.Stepping.{Simple, all_kept, both_lines, end_lines, lines, name_of, no_clocks, port_lines, steps_of, the_steps, visited_by, visited_names, visits_are}

-- ---- the names of the nets

-- the names of the first stage, and behind them those of the others
abbrev pub first_stage : List Name → List Name
first_stage rest = codes "m1" ∷ codes "a1" ∷ codes "n1" ∷ codes "b1" ∷ rest

pub record HasFirstNets (names : List Name) : Type 0 where
  pub rest : List Name
  pub are : names ≡ codes "d" ∷ codes "q" ∷ codes "e" ∷ first_stage rest

one_digit : decimal 1 ≡ codes "1"
one_digit = decimal_digit 1 (omega arith)

-- the names that the ports and the first stage visit, where this is the number of the first
abbrev first_visits : Bytes → List Name → List Name
first_visits one more =
    codes "d" ∷ codes "q" ∷ codes "e" ∷ codes "d" ∷ (codes "m" ++ one) ∷ (codes "m" ++ one) ∷ (codes "a" ++ one)
    ∷ codes "d" ∷ (codes "n" ++ one) ∷ (codes "n" ++ one) ∷ (codes "b" ++ one) ∷ more

each_once : (more : List Name) → HasFirstNets (distinct (first_visits (codes "1") more))
unfolding firsts
each_once more = record { rest = _; are = refl }

-- the names that the other stages and the comparison visit
abbrev later_visits : ℕ → List Name
later_visits k = flat_map visited_by (flat_map both_lines (range_with_len 1 k) ++ end_lines (suc k))

visits_split : (k : ℕ) → visited_names (lines (suc k)) ≡ first_visits (decimal 1) (later_visits k)
unfolding visited_names below
visits_split k = refl

nets_are : (n : ℕ) → nets_of (the_steps n) ≡ distinct (visited_names (lines n))
unfolding nets_of
nets_are n = all_kept (the_steps n) (no_clocks 2 (lines n)) (distinct (map name_of (visits_of (the_steps n)))) ∙ ap distinct (visits_are 2 (lines n))

first_nets : (n : ℕ) → 0 < n → HasFirstNets (nets_of (the_steps n))
first_nets zero some = absurd (omega (arith, some))
first_nets (suc k) some =
    let nets = each_once (later_visits k) in
    let visits = visits_split k ∙ ap (λ (one : Bytes). first_visits one (later_visits k)) one_digit in
    record { rest = nets.rest; are = nets_are (suc k) ∙ ap distinct visits ∙ nets.are }

-- ---- the input

abbrev taken_by : Simple → List Name
taken_by (Port name) = name ∷ []
taken_by _ = []

taken_names : (k : ℕ) (ls : List Simple) → flat_map (λ (s : Step). elim s.act [ takes names ↦ names | _ ↦ [] ]) (steps_of k ls) ≡ flat_map taken_by ls
unfolding steps_of
taken_names k [] = refl
taken_names k (Port name ∷ ls) = ap (λ rest. name ∷ rest) (taken_names (k + 1) ls)
taken_names k (Ports first second ∷ ls) = taken_names (k + 1) ls
taken_names k (Copy read out ∷ ls) = taken_names (k + 1) ls
taken_names k (Pair one other out ∷ ls) = taken_names (k + 1) ls
taken_names k (Rows tokens ∷ ls) = taken_names (k + 1) ls
taken_names k (Store from to ∷ ls) = taken_names (k + 1) ls

none_taken : (ks : List ℕ) → flat_map taken_by (flat_map both_lines ks) ≡ []
none_taken [] = refl
none_taken (k ∷ ks) = flat_map-append taken_by (both_lines k) (flat_map both_lines ks) ∙ none_taken ks

one_taken : (n : ℕ) → flat_map taken_by (lines n) ≡ codes "d" ∷ []
one_taken n =
    flat_map-append taken_by (port_lines ++ flat_map both_lines (below n)) (end_lines n)
    ∙ ap (λ rest. (codes "d" ∷ rest) ++ []) (none_taken (below n))

inputs_are : (n : ℕ) → flat_map (λ (s : Step). elim s.act [ takes names ↦ unclocked (the_steps n) names | _ ↦ [] ]) (the_steps n) ≡ codes "d" ∷ []
inputs_are n =
    (λ j. flat_map (λ (s : Step). elim s.act [ takes names ↦ all_kept (the_steps n) (no_clocks 2 (lines n)) names j | _ ↦ [] ]) (the_steps n))
    ∙ taken_names 2 (lines n) ∙ one_taken n

first_name : (names rest : List Name) → names ≡ codes "d" ∷ rest → slice_index_or names (net_id names (codes "d")).0 [] ≡ codes "d"
first_name names rest e = ap (λ (all : List Name). slice_index_or all (net_id all (codes "d")).0 []) e

pub one_input : (n : ℕ) → 0 < n → map (λ net. net_name (circuit_of (the_steps n)) net.0) (circuit_of (the_steps n)).inputs ≡ codes "d" ∷ []
unfolding circuit_of
one_input n some =
    let nets = first_nets n some in
    ap (λ (names : List Name). map (λ net. slice_index_or (nets_of (the_steps n)) net.0 []) (map (net_id (nets_of (the_steps n))) names)) (inputs_are n)
    ∙ ap (λ (name : Name). name ∷ []) (first_name (nets_of (the_steps n)) (codes "q" ∷ codes "e" ∷ first_stage nets.rest) nets.are)

pub names_are : (n : ℕ) → 0 < n → HasFirstNets (circuit_of (the_steps n)).names
unfolding circuit_of
names_are n some = first_nets n some

-- ---- the first latches

-- a latch by the names of its nets
abbrev latch_on : List Name → Name → Name → Latch
latch_on nets from to = record { from = net_id nets from; to = net_id nets to; start = false }

-- the latches of the first stage
pub record HasFirstLatches (c : Circuit) : Type 0 where
  pub rest : List Latch
  pub are : c.latches ≡ latch_on c.names (codes "m1") (codes "a1") ∷ latch_on c.names (codes "n1") (codes "b1") ∷ rest

-- these, where this is the number of the first
abbrev stage_latches : Bytes → List Name → List Latch → List Latch
stage_latches one nets more = latch_on nets (codes "m" ++ one) (codes "a" ++ one) ∷ latch_on nets (codes "n" ++ one) (codes "b" ++ one) ∷ more

record HasStageLatches (c : Circuit) : Type 0 where
  rest : List Latch
  are : c.latches ≡ stage_latches (decimal 1) c.names rest

latches_split : (k : ℕ) → HasStageLatches (circuit_of (the_steps (suc k)))
unfolding circuit_of steps_of net_of below
latches_split k = record { rest = _; are = refl }

pub latches_are : (k : ℕ) → HasFirstLatches (circuit_of (the_steps (suc k)))
latches_are k =
    let split = latches_split k in
    record { rest = split.rest; are = split.are ∙ ap (λ (one : Bytes). stage_latches one (circuit_of (the_steps (suc k))).names split.rest) one_digit }
