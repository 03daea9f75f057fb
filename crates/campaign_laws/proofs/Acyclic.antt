-- The generated netlist has no loop: its tables read the input and latches alone.
use Rattle.std.proofs.Common.{◌≡◌, ℕ, zero, suc, ◌+◌, ◌-◌, ◌%◌, ◌<◌, ◌^◌, Bool, true, false, inl, inr, List, [], ◌∷◌, ◌++◌, length, map, refl, ap, sym, subst, ◌∙◌}
use Rattle.std.specs.Prelude.{All, ◌==◌, codes, flat_map, if◌then◌else◌}
use Rattle.std.specs.List.{AllByRecursion, cons_option, list_all, list_any}
use Rattle.std.specs.Option.{option_map}
use Rattle.std.proofs.Math.Nat.{mod-lt}
use Rattle.std.proofs.lemmas.List.Elements.{All-cons, All-contains, All-nil}
use Rattle.std.proofs.lemmas.Option.{get_or_from_slice_get, slice_get-map}
use Rattle.circuit.specs.declared.parts.Driver.TheVariants.{Input, Table as FromTable}
use Rattle.circuit.specs.declared.parts.NetId.{NetId}
use Rattle.circuit.specs.declared.parts.Table.{Table}
use Rattle.circuit.specs.Circuit.{Circuit}
use Rattle.circuit.specs.Loop.{HasNoLoop}
use Rattle.circuit.specs.Order.{net_at}
use Rattle.circuit.specs.Value.{driver_at, table_at}
use Rattle.fm_base.specs.Lists.{below}
use Rattle.fm_base.specs.Names.{Name, is_one_of}
use Rattle.fm_base.proofs.Distinct.{same_name}
use Rattle.fm_base.proofs.Tests.{and_both, both_false, both_true, clash, or_cases, or_false}
use Rattle.net_names.specs.Nets.{driver_of, net_id}
use Rattle.net_names.specs.Driven.{IsDrivenBy, all_drivers}
use Rattle.net_names.proofs.Brought.{all-brought}
use Rattle.net_names.proofs.Once.{driver-by}
use Rattle.net_names.proofs.Times.{at-found, place, place-found}
use Rattle.blif_model.specs.Net.{circuit_of, input_names_of, latch_names_of, table_names_of}
use Rattle.blif_model.specs.Walk.{Act, Step, flat_table, net_of, nets_of}
use Rattle.blif_model.specs.WalkSteps.{read, table_net, table_of}
use Rattle.blif_model.proofs.ReadNets.{reads-nets}
use Rattle.blif_model.proofs.Sound.{walk-driven}
use Rattle.campaign_laws.proofs.Stating.{source, word}
use Rattle.campaign_laws.proofs.Stepping.Simple.{Copy, Pair, Port, Ports, Rows, Store}
use Rattle.campaign_laws.proofs.Stepping.{Simple, both_lines, end_lines, lines, port_lines, steps_of, the_steps}
use Rattle.campaign_laws.proofs.Sounding.{no_clock_read, no_undriven, one_driver}

-- ---- the names that tables drive

-- the name begins as that of an inverter or of an output
abbrev is_logic : Name → Bool
is_logic name = elim name [ [] ↦ false | b ∷ more ↦ list_any (λ letter. b == letter) (codes "mnqe") ]

-- a line's table drives such a name, and reads none
abbrev IsStaged : Simple → Type 0
IsStaged (Copy read out) = (is_logic read ≡ false) × (is_logic out ≡ true)
IsStaged (Pair one other out) = (is_logic one ≡ false) × (is_logic other ≡ false) × (is_logic out ≡ true)
IsStaged _ = Unit {0}

staged_both : (xs ys : List Simple) → AllByRecursion IsStaged xs → AllByRecursion IsStaged ys → AllByRecursion IsStaged (xs ++ ys)
staged_both [] ys first second = second
staged_both (x ∷ xs) ys first second = (first.0, staged_both xs ys first.1 second)

source_stored : (letter i : ℕ) → is_logic (letter ∷ []) ≡ false → is_logic (source (letter ∷ []) i) ≡ false
source_stored letter i e = by_test (i == 1)
  where
    by_test : (first : Bool) → is_logic (if first then codes "d" else word (letter ∷ []) (i - 1)) ≡ false
    by_test true = refl
    by_test false = e

stages_staged : (ks : List ℕ) → AllByRecursion IsStaged (flat_map both_lines ks)
stages_staged [] = tt
stages_staged (k ∷ ks) =
    staged_both (both_lines k) (flat_map both_lines ks)
    ((source_stored 97 (k + 1) refl, refl), (tt, (tt, ((source_stored 98 (k + 1) refl, refl), (tt, (tt, tt)))))) (stages_staged ks)

lines_staged : (n : ℕ) → AllByRecursion IsStaged (lines n)
lines_staged n =
    staged_both (port_lines ++ flat_map both_lines (below n)) (end_lines n) (tt, (tt, stages_staged (below n)))
    ((refl, refl), (tt, ((refl, refl, refl), (tt, (tt, tt)))))

-- ---- the same of steps

-- the table of a step reads no such name
abbrev ReadsStored : Act → Type 0
ReadsStored (flat_table ins out rows) = list_any is_logic ins ≡ false
ReadsStored _ = Unit {0}

steps_stored : (k : ℕ) (ls : List Simple) → AllByRecursion IsStaged ls → AllByRecursion (λ (s : Step). ReadsStored s.act) (steps_of k ls)
unfolding steps_of net_of
steps_stored k [] all = tt
steps_stored k (Port name ∷ ls) all = (tt, steps_stored (k + 1) ls all.1)
steps_stored k (Ports first second ∷ ls) all = (tt, steps_stored (k + 1) ls all.1)
steps_stored k (Copy read out ∷ ls) all = (both_false (is_logic read) false all.0.0 refl, steps_stored (k + 1) ls all.1)
steps_stored k (Pair one other out ∷ ls) all =
    (both_false (is_logic one) _ all.0.0 (both_false (is_logic other) false all.0.1 refl), steps_stored (k + 1) ls all.1)
steps_stored k (Rows tokens ∷ ls) all = steps_stored (k + 1) ls all.1
steps_stored k (Store from to ∷ ls) all = (tt, steps_stored (k + 1) ls all.1)

tables_logic : (k : ℕ) (ls : List Simple) → AllByRecursion IsStaged ls → list_all is_logic (flat_map (λ (s : Step). table_net s.act) (steps_of k ls)) ≡ true
unfolding steps_of net_of
tables_logic k [] all = refl
tables_logic k (Port name ∷ ls) all = tables_logic (k + 1) ls all.1
tables_logic k (Ports first second ∷ ls) all = tables_logic (k + 1) ls all.1
tables_logic k (Copy read out ∷ ls) all = both_true (is_logic out) _ all.0.1 (tables_logic (k + 1) ls all.1)
tables_logic k (Pair one other out ∷ ls) all = both_true (is_logic out) _ all.0.2 (tables_logic (k + 1) ls all.1)
tables_logic k (Rows tokens ∷ ls) all = tables_logic (k + 1) ls all.1
tables_logic k (Store from to ∷ ls) all = tables_logic (k + 1) ls all.1

-- one of names that all pass
member_passes : (test : Name → Bool) (names : List Name) (name : Name) → list_all test names ≡ true → is_one_of names name ≡ true → test name ≡ true
member_passes test [] name all e = cc
member_passes test (x ∷ names) name all e =
    let both = and_both (test x) (list_all test names) all in
    elim (or_cases _ (is_one_of names name) e) as (λ _. test name ≡ true)
    [ inl same ↦ ap test (same_name name x same) ∙ both.0 | inr there ↦ member_passes test names name both.1 there ]

-- ---- no table reads what a table drives

module _ (n : ℕ) (some : 0 < n) (small : n < 2 ^ 32) where
  abbrev c : Circuit
  c = circuit_of (the_steps n)

  abbrev nets : List Name
  nets = nets_of (the_steps n)

  abbrev ins : List Name
  ins = input_names_of (the_steps n)

  abbrev tabs : List Name
  tabs = table_names_of (the_steps n)

  abbrev lats : List Name
  lats = latch_names_of (the_steps n)

  driver_is : (name : Name) → is_one_of nets name ≡ true → driver_at c (net_id nets name).0 ≡ driver_of (all_drivers ins tabs lats) name
  unfolding circuit_of input_names_of table_names_of latch_names_of
  driver_is name is =
      let driver = driver_of (all_drivers ins tabs lats) in
      get_or_from_slice_get c.drivers (place nets name) (driver name) (Input 0)
      (slice_get-map driver nets (place nets name) ∙ ap (option_map driver) (place-found nets name is))

  all_logic : list_all is_logic tabs ≡ true
  unfolding table_names_of
  all_logic = tables_logic 2 (lines n) (lines_staged n)

  -- no table drives the net
  abbrev IsStored : NetId → Type 0
  IsStored net = (k : ℕ) → ¬ (driver_at c net.0 ≡ FromTable k)

  stored : (name : Name) → is_one_of nets name ≡ true → is_logic name ≡ false → IsStored (net_id nets name)
  stored name is plain k e =
      let once = walk-driven (the_steps n) (one_driver n some small) (no_undriven n some small) in
      let by : IsDrivenBy ins tabs lats name (FromTable k) =
      subst (IsDrivenBy ins tabs lats name) (sym (driver_is name is) ∙ e) (driver-by nets ins tabs lats once name is) in
      clash (is_logic name) (member_passes is_logic tabs name all_logic (at-found tabs k name by)) plain

  all_stored : (names : List Name) → list_all (is_one_of nets) names ≡ true → list_any is_logic names ≡ false → All IsStored (map (net_id nets) names)
  all_stored [] there plain = All-nil IsStored
  all_stored (name ∷ names) there plain =
      let here = and_both (is_one_of nets name) (list_all (is_one_of nets) names) there in
      let parts = or_false (is_logic name) (list_any is_logic names) plain in
      All-cons IsStored (net_id nets name) (map (net_id nets) names) (stored name here.0 parts.0) (all_stored names here.1 parts.1)

  abbrev ReadsNoTable : Table → Type 0
  ReadsNoTable table = All IsStored table.ins

  tables_read : AllByRecursion ReadsNoTable c.tables
  unfolding circuit_of
  tables_read =
      all-brought ReadsNoTable (λ (s : Step). list_all (is_one_of nets) (read s.act) ≡ true) (λ (s : Step). ReadsStored s.act)
      (λ (s : Step). table_of nets s.act) (λ s q r. at s.act q r) (the_steps n) (reads-nets (the_steps n) (no_clock_read n some small))
      (steps_stored 2 (lines n) (lines_staged n))
    where
      at : (act : Act) → list_all (is_one_of nets) (read act) ≡ true → ReadsStored act → AllByRecursion ReadsNoTable (cons_option (table_of nets act) [])
      at (flat_table names out rows) there plain = (all_stored names there plain, tt)
      at act there plain = tt

  table_reads : (tables : List Table) → AllByRecursion ReadsNoTable tables → (k : ℕ) → ReadsNoTable (table_at tables k)
  table_reads [] all k = All-nil IsStored
  table_reads (table ∷ tables) all zero = all.0
  table_reads (table ∷ tables) all (suc k) = table_reads tables all.1 k

  pub no_loop : HasNoLoop c
  no_loop walk loop =
      let next : ℕ = (0 + 1) % length walk in
      let driven = loop.read 0 loop.some in
      let reads = loop.read next (mod-lt (0 + 1) loop.some) in
      All-contains IsStored (table_at c.tables reads.0).ins (net_at walk next) (table_reads c.tables tables_read reads.0) reads.2 driven.0 driven.1
