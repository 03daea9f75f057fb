-- The generated netlist's one model has no fault.
use Rattle.std.proofs.Common.{◌≡◌, ℕ, ◌+◌, ◌*◌, ◌≤◌, ◌^◌, Bool, false, List, [], ◌∷◌, ◌++◌, length, map, refl, ap, sym, ◌∙◌, append_assoc, length-append, arith}
use Rattle.std.specs.Prelude.{Option, Some, None, codes, flat_map, filter_map, not, ◌||◌, bytes_eq, nat_lt, max, sum_by}
use Rattle.std.proofs.lemmas.List.Concat.{flat_map-append}
use Rattle.std.proofs.lemmas.List.FromFn.{length-range_with_len}
use Rattle.std.proofs.lemmas.List.Sums.{count_by-le-length, length-filter, sum_by-cons}
use Rattle.fm_base.specs.Firsts.{first_after, first_answer, first_where, given}
use Rattle.fm_base.specs.Lists.{below, firsts}
use Rattle.fm_base.specs.Names.{Bytes, Name, distinct}
use Rattle.blif_text.specs.declared.NetlistFault.{NetlistFault}
use Rattle.blif_text.specs.declared.NetlistKind.TheVariants.{TooLarge}
use Rattle.blif_model.specs.LineFault.{at_line}
use Rattle.blif_model.specs.ModelFault.{bad_formal, model_faults, recursive, too_deep, too_large, two_models, unbound, unknown_model}
use Rattle.blif_model.specs.Models.{Instance, Item, Model, instances, items_of, rows_below, sum_over_instances}
use Rattle.blif_model.specs.Statement.{instance, table}
use Rattle.blif_model.specs.Walk.{nets_of, visits_of, walk}
use Rattle.campaign_laws.proofs.Stating.{says_from, source, word}
use Rattle.campaign_laws.proofs.Faultless.{the_model}
use Rattle.campaign_laws.proofs.Stepping.Simple.{Copy, Pair, Port, Ports, Rows, Store}
use Rattle.campaign_laws.proofs.Stepping.{Simple, all_kept, body_is, both_lines, end_lines, lines, name_of, no_clocks, port_lines, stage_lines, statement, steps_of, the_steps, visited_by, visited_names, visits_are, walk_is}

-- ---- a model without instances

module _ (m : Model) (none : instances m ≡ []) where
  one_model : two_models (m ∷ []) ≡ None
  unfolding two_models model_faults first_after
  one_model = refl

  all_known : unknown_model (m ∷ []) ≡ None
  unfolding unknown_model model_faults first_where
  all_known = rw none refl

  all_formal : bad_formal (m ∷ []) ≡ None
  unfolding bad_formal model_faults first_where
  all_formal = rw none refl

  all_bound : unbound (m ∷ []) ≡ None
  unfolding unbound model_faults first_where
  all_bound = rw none refl

  no_ring : recursive (m ∷ []) ≡ None
  unfolding recursive model_faults first_where
  no_ring = rw none refl

  not_deep : too_deep (m ∷ []) ≡ None
  unfolding too_deep model_faults first_where
  not_deep = rw none refl

  total_alone : (f : Model → ℕ) → sum_over_instances f (m ∷ []) 32 m ≡ f m
  unfolding sum_over_instances
  total_alone f = (let same : f m + 0 ≡ f m = omega arith in rw none same)

  few : (a b c : ℕ) → a ≤ 2 ^ 18 → b ≤ 2 ^ 24 → c ≤ 2 ^ 18 → (nat_lt (2 ^ 18) a || nat_lt (2 ^ 24) b || nat_lt (2 ^ 18) c) ≡ false
  few a b c x y z =
      let first : nat_lt (2 ^ 18) a ≡ false = grind (arith, x) in
      let second : nat_lt (2 ^ 24) b ≡ false = grind (arith, y) in
      let third : nat_lt (2 ^ 18) c ≡ false = grind (arith, z) in
      rw (first, second, third) refl

  abbrev cells : ℕ
  cells = sum_by (λ (i : Item). elim i.says [ table ins out ↦ max 1 (length i.rows) * max 1 (length ins) | _ ↦ 0 ]) m.items

  small : cells ≤ 2 ^ 24 → length (nets_of (walk (m ∷ []))) ≤ 2 ^ 18 → too_large (m ∷ []) ≡ None
  unfolding too_large model_faults
  small y z =
      let count : sum_over_instances (λ (m : Model). length (instances m)) (m ∷ []) 32 m ≡ 0 = total_alone (λ (m : Model). length (instances m)) ∙ ap length none in
      let weigh : sum_over_instances (λ (m : Model). sum_by (λ (i : Item). elim i.says [ table ins out ↦ max 1 (length i.rows) * max 1 (length ins) | _ ↦ 0 ]) m.items) (m ∷ []) 32 m ≡ cells =
      total_alone (λ (m : Model). sum_by (λ (i : Item). elim i.says [ table ins out ↦ max 1 (length i.rows) * max 1 (length ins) | _ ↦ 0 ]) m.items) in
      ap (λ (b : Bool). given b (at_line m.line TooLarge))
      (few (sum_over_instances (λ (m : Model). length (instances m)) (m ∷ []) 32 m)
      (sum_over_instances (λ (m : Model). sum_by (λ (i : Item). elim i.says [ table ins out ↦ max 1 (length i.rows) * max 1 (length ins) | _ ↦ 0 ]) m.items) (m ∷ []) 32 m)
      (length (nets_of (walk (m ∷ [])))) (omega (arith, count)) (omega (arith, weigh, y)) z)

  first_of_seven : (a b c d e f g : Option NetlistFault) → a ≡ None → b ≡ None → c ≡ None → d ≡ None → e ≡ None → f ≡ None → g ≡ None
      → first_answer (a ∷ b ∷ c ∷ d ∷ e ∷ f ∷ g ∷ []) ≡ None
  first_of_seven a b c d e f g p q r s t u v = rw (p, q, r, s, t, u, v) refl

  model_alone : cells ≤ 2 ^ 24 → length (nets_of (walk (m ∷ []))) ≤ 2 ^ 18 → first_answer (model_faults (m ∷ [])) ≡ None
  unfolding two_models unknown_model bad_formal unbound recursive too_deep too_large model_faults
  model_alone y z =
      first_of_seven (two_models (m ∷ [])) (unknown_model (m ∷ [])) (bad_formal (m ∷ [])) (unbound (m ∷ [])) (recursive (m ∷ [])) (too_deep (m ∷ [])) (too_large (m ∷ []))
      one_model all_known all_formal all_bound no_ring not_deep (small y z)

-- ---- the generated one

abbrev instance_on : Item → Option Instance
instance_on i = elim i.says [ instance n bs ↦ Some (record { line = i.line; name = n; bindings = bs }) | _ ↦ None ]

none_instanced : (k : ℕ) (ls : List Simple)
    → filter_map instance_on (items_of (says_from k (map statement ls))) ≡ []
unfolding items_of
none_instanced k [] = refl
none_instanced k (Port name ∷ ls) = none_instanced (k + 1) ls
none_instanced k (Ports first second ∷ ls) = none_instanced (k + 1) ls
none_instanced k (Copy read out ∷ ls) = none_instanced (k + 1) ls
none_instanced k (Pair one other out ∷ ls) = none_instanced (k + 1) ls
none_instanced k (Rows tokens ∷ ls) = none_instanced (k + 1) ls
none_instanced k (Store from to ∷ ls) = none_instanced (k + 1) ls

no_instances : (n : ℕ) → instances (the_model n) ≡ []
unfolding instances the_model
no_instances n =
    ap (λ says. filter_map instance_on (items_of (says_from 2 says))) (sym (body_is n))
    ∙ none_instanced 2 (lines n)

-- ---- its size

abbrev cell : Item → ℕ
cell i = elim i.says [ table ins out ↦ max 1 (length i.rows) * max 1 (length ins) | _ ↦ 0 ]

abbrev cells_from : ℕ → List Simple → ℕ
cells_from k ls = sum_by cell (items_of (says_from k (map statement ls)))

abbrev items_from : ℕ → List Simple → List Item
items_from k ls = items_of (says_from k (map statement ls))

stage_cells : (k : ℕ) (read inverter stored : Bytes) (rest : List Simple) → cells_from k (stage_lines read inverter stored ++ rest) ≡ 1 + cells_from (k + 1 + 1 + 1) rest
unfolding items_of rows_below
stage_cells k read inverter stored rest =
    let first = sum_by-cons cell (record { line = k; says = statement (Copy read inverter); rows = (codes "0" ∷ codes "1" ∷ []) ∷ [] }) (items_from (k + 1) (Rows (codes "0" ∷ codes "1" ∷ []) ∷ Store inverter stored ∷ rest)) in
    let second = sum_by-cons cell (record { line = k + 1; says = statement (Rows (codes "0" ∷ codes "1" ∷ [])); rows = [] }) (items_from (k + 1 + 1) (Store inverter stored ∷ rest)) in
    let third = sum_by-cons cell (record { line = k + 1 + 1; says = statement (Store inverter stored); rows = rows_below (says_from (k + 1 + 1 + 1) (map statement rest)) }) (items_from (k + 1 + 1 + 1) rest) in
    omega (arith, first, second, third)

both_cells : (k i : ℕ) (rest : List Simple) (most : ℕ) → ((j : ℕ) → cells_from j rest ≤ most) → cells_from k (both_lines i ++ rest) ≤ 2 + most
both_cells k i rest most each =
    let first = stage_cells k (source (codes "a") (i + 1)) (word (codes "m") (i + 1)) (word (codes "a") (i + 1))
    (stage_lines (source (codes "b") (i + 1)) (word (codes "n") (i + 1)) (word (codes "b") (i + 1)) ++ rest) in
    let second = stage_cells (k + 1 + 1 + 1) (source (codes "b") (i + 1)) (word (codes "n") (i + 1)) (word (codes "b") (i + 1)) rest in
    omega (arith, first, second, each (k + 1 + 1 + 1 + 1 + 1 + 1))

stages_cells : (k : ℕ) (ks : List ℕ) (rest : List Simple) (most : ℕ) → ((j : ℕ) → cells_from j rest ≤ most) → cells_from k (flat_map both_lines ks ++ rest) ≤ 2 * length ks + most
stages_cells k [] rest most each = omega (arith, each k)
stages_cells k (i ∷ ks) rest most each =
    let same : cells_from k (flat_map both_lines (i ∷ ks) ++ rest) ≡ cells_from k (both_lines i ++ (flat_map both_lines ks ++ rest)) =
    ap (cells_from k) (append_assoc (both_lines i) (flat_map both_lines ks) rest) in
    let here = both_cells k i (flat_map both_lines ks ++ rest) (2 * length ks + most) (λ j. stages_cells j ks rest most each) in
    omega (arith, same, here)

-- ---- nets

firsts_few : (xs : List Name) → length (distinct xs) ≤ length xs
unfolding firsts
firsts_few [] = omega arith
firsts_few (x ∷ xs) =
    let rest = firsts_few xs in
    omega (arith, length-filter (λ (other : Name). not (bytes_eq other x)) (distinct xs), count_by-le-length (λ (other : Name). not (bytes_eq other x)) (distinct xs), rest)

nets_few : (k : ℕ) (ls : List Simple) → length (nets_of (steps_of k ls)) ≤ length (visited_names ls)
unfolding nets_of
nets_few k ls =
    let kept : nets_of (steps_of k ls) ≡ distinct (map name_of (visits_of (steps_of k ls))) = all_kept (steps_of k ls) (no_clocks k ls) (distinct (map name_of (visits_of (steps_of k ls)))) in
    let few = firsts_few (map name_of (visits_of (steps_of k ls))) in
    let same : length (map name_of (visits_of (steps_of k ls))) ≡ length (visited_names ls) = ap length (visits_are k ls) in
    omega (arith, ap length kept, few, same)

length-both : (ks : List ℕ) → length (visited_names (flat_map both_lines ks)) ≡ 8 * length ks
unfolding visited_names
length-both [] = refl
length-both (k ∷ ks) =
    let rest = length-both ks in
    let split = flat_map-append visited_by (both_lines k) (flat_map both_lines ks) in
    let more : length (visited_names (both_lines k ++ flat_map both_lines ks)) ≡ length (visited_names (both_lines k) ++ visited_names (flat_map both_lines ks)) = ap length split in
    omega (arith, more, length-append (visited_names (both_lines k)) (visited_names (flat_map both_lines ks)), rest)

visits_few : (n : ℕ) → length (visited_names (lines n)) ≡ 8 * n + 8
unfolding visited_names below
visits_few n =
    let stages = flat_map both_lines (below n) in
    let first = flat_map-append visited_by (port_lines ++ stages) (end_lines n) in
    let second = flat_map-append visited_by port_lines stages in
    let whole : length (visited_names (lines n)) ≡ length ((visited_names port_lines ++ visited_names stages) ++ visited_names (end_lines n)) =
    ap length (first ∙ ap (λ front. front ++ visited_names (end_lines n)) second) in
    omega (
      arith,
      whole,
      length-append (visited_names port_lines ++ visited_names stages) (visited_names (end_lines n)),
      length-append (visited_names port_lines) (visited_names stages),
      length-both (below n),
      length-range_with_len 0 n,
    )

cells_few : (n : ℕ) → cells_from 2 (lines n) ≤ 2 * n + 5
unfolding items_of rows_below below
cells_few n =
    let stages = flat_map both_lines (below n) in
    let ends_five : (j : ℕ) → cells_from j (end_lines n) ≤ 5 = λ j. omega arith in
    let first = sum_by-cons cell (record { line = 2; says = statement (Port (codes "d")); rows = [] }) (items_from (2 + 1) (Ports (codes "q") (codes "e") ∷ (stages ++ end_lines n))) in
    let second = sum_by-cons cell (record { line = 2 + 1; says = statement (Ports (codes "q") (codes "e")); rows = rows_below (says_from (2 + 1 + 1) (map statement (stages ++ end_lines n))) })
    (items_from (2 + 1 + 1) (stages ++ end_lines n)) in
    let rest = stages_cells (2 + 1 + 1) (below n) (end_lines n) 5 ends_five in
    omega (arith, first, second, rest, length-range_with_len 0 n)

pub no_model_fault : (n : ℕ) → n ≤ 1000 → first_answer (model_faults (the_model n ∷ [])) ≡ None
unfolding the_model
no_model_fault n le =
    let nets : length (nets_of (walk (the_model n ∷ []))) ≡ length (nets_of (the_steps n)) = ap (λ steps. length (nets_of steps)) (walk_is n) in
    let cells_are : sum_by cell (the_model n).items ≡ cells_from 2 (lines n) = ap (λ says. sum_by cell (items_of (says_from 2 says))) (sym (body_is n)) in
    model_alone (the_model n) (no_instances n) (let few = cells_few n in omega (arith, cells_are, few, le))
    (let few = nets_few 2 (lines n) in let visits = visits_few n in omega (arith, nets, few, visits, le))
