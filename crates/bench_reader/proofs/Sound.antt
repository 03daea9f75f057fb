-- The netlist of a `.bench` file is one: each net has one driver and is the net of it, and all numbers are in range.
use Rattle.std.proofs.Common.{◌≡◌, ◌≤◌, ◌^◌, true, ◌||◌, List, [], ◌∷◌, refl, sym, ◌∙◌, subst, length, arith}
use Rattle.std.specs.Prelude.{map, flat_map, filter_map, Option, Some, None, Ok, sum_by, nat_lt}
use Rattle.std.specs.List.{AllByRecursion, cons_option, list_all}
use Rattle.bench_reader.proofs.Numbered.{bench_told}
use Rattle.std.proofs.lemmas.Bool.{ltb-false}
use Rattle.circuit.specs.declared.parts.Latch.{Latch}
use Rattle.circuit.specs.declared.parts.Table.{Table}
use Rattle.circuit.specs.Circuit.{Circuit}
use Rattle.circuit.specs.Sound.{IsNet, IsTable, IsNetlist}
use Rattle.fm_base.specs.Names.{Bytes, Name, is_one_of}
use Rattle.fm_base.proofs.Tests.{or_false, and_both}
use Rattle.fm_base.proofs.Distinct.{distinct-apart}
use Rattle.net_names.specs.Nets.{net_id}
use Rattle.net_names.specs.Driven.{AreAligned, drives, name_count, IsDrivenOnce}
use Rattle.net_names.proofs.Answers.{not_given, same_answer}
use Rattle.net_names.proofs.Brought.{all-brought, as-many, in-order}
use Rattle.net_names.proofs.Driven.{drives-of-lines}
use Rattle.net_names.proofs.Once.{driven-once}
use Rattle.net_names.proofs.Sound.{is-net, is-table, netlist-of-names, size-of-drivers}
use Rattle.bench_reader.specs.declared.BenchFault.{BenchFault}
use Rattle.bench_reader.specs.Bench.{bench_of}
use Rattle.bench_reader.specs.LineFault.{Said, line_fault, numbered_lines}
use Rattle.bench_reader.specs.Net.{driven_at, driven_of, drivers_of, inputs_of, nets_at, nets_of}
use Rattle.bench_reader.specs.NetFault.{too_large, two_drivers, undriven}
use Rattle.bench_reader.specs.Steps.{bad_bench, bench_unless, cells_at, input_at, latch_net, latch_nets_of, latch_on_line, numbered_circuit, output_at, outputs_of, table_net, table_nets_of, table_on_line as line_table}
use Rattle.bench_reader.specs.Statement.{Statement, input, table, latch}
use Rattle.bench_reader.proofs.Drives.{driven_net, driven_once, names_nets, net_driven, output_net}
use Rattle.bench_reader.specs.Gather.{StatementFits}
use Rattle.bench_reader.proofs.Rows.{lines_fit}
use Rattle.fm_base.proofs.Options.{none_both}

-- ---- what a table and a latch keep

-- a list of names that all pass, without the first
rest_pass : (nets : List Name) (name : Name) (names : List Name) → list_all (is_one_of nets) (name ∷ names) ≡ true → list_all (is_one_of nets) names ≡ true
rest_pass nets name names e = (and_both (is_one_of nets name) (list_all (is_one_of nets) names) e).1

module _ (nets : List Name) (c : Circuit) (size : length c.drivers ≡ length nets) where
  tables_fit : (some : List Said) → AllByRecursion (λ line. list_all (is_one_of nets) (nets_at line.says) ≡ true) some → AllByRecursion (λ line. StatementFits line.says) some
      → AllByRecursion (IsTable c) (filter_map (λ line. line_table nets line.says) some)
  tables_fit some e f =
      all-brought (IsTable c) (λ (line : Said). list_all (is_one_of nets) (nets_at line.says) ≡ true) (λ (line : Said). StatementFits line.says) (λ (line : Said). line_table nets line.says)
      (λ line q r. at line.says q r) some e f
    where
      at : (says : Statement) → list_all (is_one_of nets) (nets_at says) ≡ true → StatementFits says → AllByRecursion (IsTable c) (cons_option (line_table nets says) [])
      at (table out gate ins) e f = (is-table nets c size ins (gate.rows (length ins)) gate.on (rest_pass nets out ins e) f.1, tt)
      at says e f = tt

  sources_fit : (some : List Said) → AllByRecursion (λ line. list_all (is_one_of nets) (nets_at line.says) ≡ true) some
      → AllByRecursion (λ (held : Latch). IsNet c held.from) (filter_map (λ line. latch_on_line nets line.says) some)
  sources_fit some e =
      all-brought (λ (held : Latch). IsNet c held.from) (λ (line : Said). list_all (is_one_of nets) (nets_at line.says) ≡ true) (λ (line : Said). list_all (is_one_of nets) (nets_at line.says) ≡ true)
      (λ (line : Said). latch_on_line nets line.says) (λ line q r. at line.says q) some e e
    where
      at : (says : Statement) → list_all (is_one_of nets) (nets_at says) ≡ true → AllByRecursion (λ (held : Latch). IsNet c held.from) (cons_option (latch_on_line nets says) [])
      at (latch out from) e = (is-net nets c size from (and_both (is_one_of nets from) true (rest_pass nets out (from ∷ []) e)).0, tt)
      at says e = tt

-- tables and latches stand beside the nets that they drive
beside : (nets : List Name) (some : List Said)
    → AreAligned nets (flat_map (λ line. table_net line.says) some) (flat_map (λ line. latch_net line.says) some) (filter_map (λ line. line_table nets line.says) some) (filter_map (λ line. latch_on_line nets line.says) some)
beside nets some = record {
  counted = as-many (λ (line : Said). line_table nets line.says) (λ (line : Said). table_net line.says) (λ line. one_table line.says) some;
  ordered = in-order (λ (held : Latch). held.to) (net_id nets) (λ (line : Said). latch_on_line nets line.says) (λ (line : Said). latch_net line.says) (λ line. one_latch line.says) some;
}
  where
    one_table : (says : Statement) → length (cons_option (line_table nets says) []) ≡ length (table_net says)
    one_table (table out gate ins) = refl
    one_table says = refl

    one_latch : (says : Statement) → map (λ (held : Latch). held.to) (cons_option (latch_on_line nets says) []) ≡ map (net_id nets) (latch_net says)
    one_latch (latch out from) = refl
    one_latch says = refl

-- what a line drives is what it has as an input, as the net of a table and as the net of a latch
one_driven : (name : Name) (says : Statement) → name_count name (driven_at says) ≡ drives (input_at says) (table_net says) (latch_net says) name
one_driven name (input net) = omega arith
one_driven name (table out gate ins) = omega arith
one_driven name (latch out from) = omega arith
one_driven name says = refl

-- ---- the netlist of lines without these faults

module _ (lines : List Said) (once : two_drivers lines ≡ None) (driven : undriven lines ≡ None) where
  abbrev nets : List Name
  nets = nets_of lines

  abbrev ins : List Name
  ins = inputs_of lines

  abbrev tabs : List Name
  tabs = table_nets_of lines

  abbrev lats : List Name
  lats = latch_nets_of lines

  drive_count : (name : Name) → name_count name (driven_of lines) ≡ drives ins tabs lats name
  unfolding driven_of inputs_of table_nets_of latch_nets_of
  drive_count name =
      drives-of-lines (λ (line : Said). driven_at line.says) (λ (line : Said). input_at line.says) (λ (line : Said). table_net line.says) (λ (line : Said). latch_net line.says) name
      (λ line. one_driven name line.says) lines

  -- EACH NET OF THE LINES is driven once
  pub lines_driven : IsDrivenOnce nets ins tabs lats
  unfolding nets_of
  lines_driven =
      driven-once nets ins tabs lats (driven_of lines) drive_count (distinct-apart (flat_map (λ (line : Said). nets_at line.says) lines)) (driven_once lines once)
      (λ name e. net_driven lines driven name e) (λ name e. driven_net lines name e)

  abbrev made : Circuit
  made = numbered_circuit lines

  abbrev tables : List Table
  tables = filter_map (λ (line : Said). line_table nets line.says) lines

  abbrev latches : List Latch
  latches = filter_map (λ (line : Said). latch_on_line nets line.says) lines

  -- the netlist of lines
  pub netlist_sound : AllByRecursion (λ line. StatementFits line.says) lines → length (nets_of lines) ≤ 2 ^ 18 → IsNetlist made
  unfolding drivers_of inputs_of outputs_of table_nets_of latch_nets_of
  netlist_sound fit small =
      let size : length made.drivers ≡ length nets = size-of-drivers nets ins tabs lats (outputs_of lines) tables latches lines_driven (beside nets lines) in
      netlist-of-names nets ins tabs lats (outputs_of lines) tables latches lines_driven (beside nets lines) small
      (tables_fit nets made size lines (names_nets lines) fit) (sources_fit nets made size lines (names_nets lines))
      (distinct-apart (flat_map (λ (line : Said). output_at line.says) lines)) (λ name e. output_net lines name e)

-- ---- the netlist of a file

-- at most 2^18 nets
few_nets : (lines : List Said) → too_large lines ≡ None → length (nets_of lines) ≤ 2 ^ 18
unfolding too_large
few_nets lines e =
    ltb-false (2 ^ 18) (length (nets_of lines)) (or_false _ _ (not_given (nat_lt (2 ^ 18) (length (nets_of lines)) || nat_lt (2 ^ 24) (sum_by (λ (line : Said). cells_at line.says) lines)) _ e)).0

unfaulted : (lines : List Said) → bad_bench lines ≡ None → (too_large lines ≡ None) × (two_drivers lines ≡ None) × (undriven lines ≡ None)
unfaulted lines e =
    let one = none_both (line_fault lines) _ e in
    let three = none_both (too_large lines) _ one.1 in
    let four = none_both (two_drivers lines) _ three.1 in
    let five = none_both (undriven lines) None four.1 in
    (three.0, four.0, five.0)

-- A NETLIST THAT A FILE GIVES is one
pub bench_is : (bytes : Bytes) (c : Circuit) → bench_of bytes ≡ Ok c → IsNetlist c
bench_is bytes c e = by_cases (bad_bench (numbered_lines bytes)) refl (sym (bench_told bytes) ∙ e)
  where
    by_cases : (o : Option BenchFault) → bad_bench (numbered_lines bytes) ≡ o → bench_unless o (numbered_lines bytes) ≡ Ok c → IsNetlist c
    by_cases None none e =
        let free = unfaulted (numbered_lines bytes) none in
        subst IsNetlist (same_answer (numbered_circuit (numbered_lines bytes)) c _ refl e)
        (netlist_sound (numbered_lines bytes) free.1 free.2 (lines_fit bytes) (few_nets (numbered_lines bytes) free.0))
    by_cases (Some fault) some e = cc
