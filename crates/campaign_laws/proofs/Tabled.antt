-- The generated workload, rates and points are read without refusal.
use Rattle.std.proofs.Common.{◌≡◌, ℕ, zero, suc, ◌+◌, ◌*◌, ◌%◌, ◌<◌, ◌≤◌, ◌^◌, Bool, true, false, List, [], ◌∷◌, ◌++◌, length, map, refl, ap, sym, ◌∙◌, length-append, arith}
use Rattle.std.specs.Prelude.{position, slice_index_or, ◌==◌, Option, Some, None, Result, Ok, codes, drop, filter, flat_map, not, ◌&&◌, ◌||◌, bytes_eq, nat_le, nat_lt, unwrap_or, if◌then◌else◌}
use Rattle.std.specs.List.{last_or, list_all}
use Rattle.std.specs.Option.{option_map, option_map_or, option_or}
use Rattle.std.proofs.lemmas.List.{map-append}
use Rattle.std.proofs.lemmas.List.FromFn.{length-range_with_len}
use Rattle.csv_rows.specs.declared.FaultyRow.{FaultyRow}
use Rattle.csv.specs.Machine.{next_record}
use Rattle.csv.specs.Reading.{default_config, records, records_from, strip_bom}
use Rattle.csv.specs.declared.parser.State.TheVariants.{StartRecord}
use Rattle.csv_rows.specs.Rows.{Fields, first_faulty_row, has_word, same_field, unless_faulty}
use Rattle.circuit.specs.Circuit.{Circuit}
use Rattle.circuit.specs.Names.{net_name, net_named}
use Rattle.fm_base.specs.Firsts.{first_after, first_where, given}
use Rattle.fm_base.specs.Lists.{below, firsts}
use Rattle.fm_base.specs.Names.{Bytes, Name, has_repeat, is_one_of}
use Rattle.fm_base.specs.Text.{is_bit}
use Rattle.metric_sums.specs.declared.Role.TheVariants.{Mechanism, Mission as MissionRole}
use Rattle.rate_table.specs.Rate.{units_of}
use Rattle.rate_table.specs.RatesFile.{row_fault as rates_row_fault, rates_of}
use Rattle.rate_table.specs.Table.{RateTable}
use Rattle.workload.specs.WorkloadFile.{row_fault, workload_of}
use Rattle.alarm_points.specs.PointsFile.{points_of, row_fault as points_row_fault}
use Rattle.alarm_points.specs.declared.Points.{Points}
use Rattle.workload.specs.declared.file.WorkloadKind.{WorkloadKind}
use Rattle.workload.specs.declared.file.WorkloadKind.TheVariants.{BadColumn, BadCsv, Empty, MissingInput}
use Rattle.workload.specs.declared.run.Kind.{Kind}
use Rattle.workload.specs.declared.run.Kind.TheVariants.{Mission, Test}
use Rattle.workload.specs.declared.run.Run.{Run}
use Rattle.sample_gen.specs.Sample.{points_text, rates_text, workload_text}

-- ---- rates

unfoldable pub sample_rates : RateTable
sample_rates = record {
  patterns = record { name = codes "d"; star = false; part = 0 } ∷ record { name = codes "q"; star = false; part = 1 }
      ∷ record { name = codes "m"; star = true; part = 1 } ∷ record { name = codes "a"; star = true; part = 1 } ∷ record { name = []; star = true; part = 2 } ∷ [];
  parts = record { name = codes "in"; role = MissionRole; covered = false; permanent = 1000000; transient = 0 }
      ∷ record { name = codes "main"; role = MissionRole; covered = true; permanent = 6000000; transient = 3000000 }
      ∷ record { name = codes "shadow"; role = Mechanism; covered = false; permanent = 6000000; transient = 3000000 } ∷ [];
}

pub rates_are : rates_of rates_text ≡ Ok sample_rates
unfolding sample_rates rates_of rates_text rates_row_fault units_of next_record records_from strip_bom firsts first_after first_where
rates_are = refl

pub rates_short : length rates_text ≤ 2 ^ 26
unfolding rates_text
rates_short = omega arith

-- ---- the rows of the workload

abbrev vector_line : ℕ → Bytes
vector_line t = if t % 3 == 0 then codes "w,mission,1\n" else codes "w,mission,0\n"

abbrev pub vector_row : ℕ → Fields
vector_row t = codes "w" ∷ codes "mission" ∷ (if t % 3 == 0 then codes "1" else codes "0") ∷ []

abbrev header : Fields
header = codes "workload" ∷ codes "kind" ∷ codes "d" ∷ []

one_record : (b : Bool) (fuel : ℕ) (rest : Bytes) → records_from default_config (suc fuel) StartRecord ((if b then codes "w,mission,1\n" else codes "w,mission,0\n") ++ rest)
    ≡ (codes "w" ∷ codes "mission" ∷ (if b then codes "1" else codes "0") ∷ []) ∷ records_from default_config fuel StartRecord rest
unfolding records_from next_record
one_record true fuel rest = refl
one_record false fuel rest = refl

all_records : (ts : List ℕ) (fuel : ℕ) → length ts < fuel → records_from default_config fuel StartRecord (flat_map vector_line ts) ≡ map vector_row ts
unfolding records_from next_record
all_records [] zero lt = absurd (omega arith)
all_records [] (suc fuel) lt = refl
all_records (t ∷ ts) zero lt = absurd (omega arith)
all_records (t ∷ ts) (suc fuel) lt =
    one_record (t % 3 == 0) fuel (flat_map vector_line ts) ∙ ap (λ rest. vector_row t ∷ rest) (all_records ts fuel (omega (arith, lt)))

line_long : (b : Bool) → length (if b then codes "w,mission,1\n" else codes "w,mission,0\n") ≡ 12
line_long true = refl
line_long false = refl

lines_long : (ts : List ℕ) → length (flat_map vector_line ts) ≡ 12 * length ts
lines_long [] = refl
lines_long (t ∷ ts) =
    let rest = lines_long ts in
    omega (arith, length-append (vector_line t) (flat_map vector_line ts), line_long (t % 3 == 0), rest)

head_record : (fuel : ℕ) (rest : Bytes) → records_from default_config (suc fuel) StartRecord (codes "workload,kind,d\n" ++ rest) ≡ header ∷ records_from default_config fuel StartRecord rest
unfolding records_from next_record
head_record fuel rest = refl

rows_are : (n : ℕ) → records default_config (strip_bom (workload_text n)) ≡ header ∷ map vector_row (below (n + 8))
unfolding workload_text strip_bom
rows_are n =
    let text : Bytes = flat_map vector_line (below (n + 8)) in
    let size : length (codes "workload,kind,d\n" ++ text) + 1 ≡ suc (length text + 16) = omega (arith, length-append (codes "workload,kind,d\n") text) in
    let long = lines_long (below (n + 8)) in
    ap (λ fuel. records_from default_config fuel StartRecord (codes "workload,kind,d\n" ++ text)) size
    ∙ head_record (length text + 16) text
    ∙ ap (λ rest. header ∷ rest) (all_records (below (n + 8)) (length text + 16) (omega (arith, long)))

pub workload_short : (n : ℕ) → n ≤ 1000 → length (workload_text n) ≤ 2 ^ 26
unfolding workload_text below
workload_short n few =
    let text : Bytes = flat_map vector_line (below (n + 8)) in
    omega (arith, few, length-append (codes "workload,kind,d\n") text, lines_long (below (n + 8)), length-range_with_len 0 (n + 8))

-- ---- no row is faulty

goes_on : (t x : ℕ) (ts : List ℕ) → option_map_or (same_field 0 (vector_row t)) (last_or (Some (vector_row x)) (map vector_row ts)) false ≡ true
goes_on t x [] = refl
goes_on t x (y ∷ ts) = goes_on t y ts

bit_there : (b : Bool) → list_all is_bit ((if b then codes "1" else codes "0") ∷ []) ≡ true
bit_there true = refl
bit_there false = refl

no_row_fault : (before : List ℕ) (t : ℕ) → length before < 65536 → row_fault header (map vector_row before) (vector_row t) ≡ None
unfolding row_fault
no_row_fault [] t few = rw (bit_there (t % 3 == 0)) refl
no_row_fault (x ∷ before) t few =
    let many : nat_le 65536 (length (map vector_row (x ∷ before))) ≡ false = (let size = length-rows (x ∷ before) in grind (arith, size, few)) in
    rw (goes_on t x before, bit_there (t % 3 == 0), many) refl
  where
    length-rows : (ts : List ℕ) → length (map vector_row ts) ≡ length ts
    length-rows [] = refl
    length-rows (y ∷ ts) = ap suc (length-rows ts)

abbrev at_first : WorkloadKind → ℕ × WorkloadKind
at_first kind = (1, kind)

length-mapped : (ts : List ℕ) → length (map vector_row ts) ≡ length ts
length-mapped [] = refl
length-mapped (t ∷ ts) = ap suc (length-mapped ts)

abbrev number_kind : ℕ → WorkloadKind → ℕ × WorkloadKind
number_kind number kind = (number, kind)

abbrev after_header : ℕ × WorkloadKind → ℕ × WorkloadKind
after_header found = (found.0 + 1, found.1)

many_cycles : (n : ℕ) → length (below (n + 8)) ≡ n + 8
unfolding below
many_cycles n = length-range_with_len 0 (n + 8)

abbrev numbered_fault : List Fields → Fields → Option (ℕ × WorkloadKind)
numbered_fault before x = option_map (λ (kind : WorkloadKind). (length before + 1, kind)) (row_fault header before x)

no_fault : (before ts : List ℕ) → length before + length ts ≤ 65536 → first_after numbered_fault (map vector_row before) (map vector_row ts) ≡ None
unfolding first_after
no_fault before [] few = refl
no_fault before (t ∷ ts) few =
    let here : row_fault header (map vector_row before) (vector_row t) ≡ None = no_row_fault before t (omega (arith, few)) in
    let pushed : map vector_row before ++ vector_row t ∷ [] ≡ map vector_row (before ++ t ∷ []) = sym (map-append vector_row before (t ∷ [])) in
    ap (λ (o : Option WorkloadKind). option_or (option_map (λ (kind : WorkloadKind). number_kind (length (map vector_row before) + 1) kind) o) (first_after numbered_fault (map vector_row before ++ vector_row t ∷ []) (map vector_row ts))) here
    ∙ ap (λ (rows : List Fields). first_after numbered_fault rows (map vector_row ts)) pushed
    ∙ no_fault (before ++ t ∷ []) ts (omega (arith, few, length-append before (t ∷ [])))

-- ---- the workload of a netlist with one input, `d`

module _ (c : Circuit) (one : map (λ net. net_name c net.0) c.inputs ≡ codes "d" ∷ []) (n : ℕ) (few : n ≤ 1000) where
  abbrev rows : List Fields
  rows = map vector_row (below (n + 8))

  faultless : first_faulty_row (row_fault header) rows ≡ None
  faultless = ap (option_map (λ (found : ℕ × WorkloadKind). after_header found)) (no_fault [] (below (n + 8)) (let size = many_cycles n in omega (arith, size, few)))

  inputs_of : List Name
  inputs_of = map (λ net. net_name c net.0) c.inputs

  -- what rows mean
  pub meaning : Fields → List Fields → List Run
  meaning head below_head =
      let columns = drop 2 head in
      let inputs = map (λ net. net_name c net.0) c.inputs in
      let bits = λ (row : Fields). map (λ name. has_word (codes "1") (unwrap_or (position (bytes_eq name) columns) 0 + 2) row) inputs in
      let kind : Fields → Kind = λ row. if has_word (codes "test") 1 row then Test else Mission in
      let run : Fields → Run = λ first. record { kind = kind first; vectors = map bits (filter (same_field 0 first) below_head) } in
      map run (firsts (same_field 0) below_head)

  answer : List Fields → Result (List Run) (FaultyRow WorkloadKind)
  answer all =
      let head = slice_index_or all 0 [] in
      let others = drop 1 all in
      let columns = drop 2 head in
      let inputs = map (λ net. net_name c net.0) c.inputs in
      unless_faulty (given (not (has_word (codes "workload") 0 head && has_word (codes "kind") 1 head)) (1, BadCsv)
      ∷ given (not (list_all (is_one_of inputs) columns) || has_repeat columns) (1, BadColumn)
      ∷ given (not (list_all (is_one_of columns) inputs)) (1, MissingInput)
      ∷ first_faulty_row (row_fault head) others
      ∷ given (length others == 0) (1, Empty) ∷ []) (meaning head others)

  none_of_five : (a b d e f : Option (ℕ × WorkloadKind)) (m : List Run) → a ≡ None → b ≡ None → d ≡ None → e ≡ None → f ≡ None
      → unless_faulty (a ∷ b ∷ d ∷ e ∷ f ∷ []) m ≡ Ok m
  none_of_five a b d e f m p q r s t = rw (p, q, r, s, t) refl

  columns_known : given (not (list_all (is_one_of (map (λ net. net_name c net.0) c.inputs)) (codes "d" ∷ [])) || has_repeat (codes "d" ∷ [])) (at_first BadColumn) ≡ None
  columns_known = ap (λ (inputs : List Name). given (not (list_all (is_one_of inputs) (codes "d" ∷ [])) || has_repeat (codes "d" ∷ [])) (at_first BadColumn)) one

  inputs_there : given (not (list_all (is_one_of (codes "d" ∷ [])) (map (λ net. net_name c net.0) c.inputs))) (at_first MissingInput) ≡ None
  inputs_there = ap (λ (inputs : List Name). given (not (list_all (is_one_of (codes "d" ∷ [])) inputs)) (at_first MissingInput)) one

  some_rows : given (length rows == 0) (at_first Empty) ≡ None
  some_rows =
      let size : length rows ≡ n + 8 = length-mapped (below (n + 8)) ∙ many_cycles n in
      let test : (length rows == 0) ≡ false = grind (arith, size) in
      ap (λ (b : Bool). given b (at_first Empty)) test

  pub workload_is : workload_of c (workload_text n) ≡ Ok (meaning header rows)
  unfolding workload_of answer meaning
  workload_is =
      ap answer (rows_are n)
      ∙ none_of_five None
      (given (not (list_all (is_one_of (map (λ net. net_name c net.0) c.inputs)) (codes "d" ∷ [])) || has_repeat (codes "d" ∷ [])) (at_first BadColumn))
      (given (not (list_all (is_one_of (codes "d" ∷ [])) (map (λ net. net_name c net.0) c.inputs))) (at_first MissingInput))
      (first_faulty_row (row_fault header) rows) (given (length rows == 0) (at_first Empty)) (meaning header rows)
      refl columns_known inputs_there faultless some_rows

-- ---- points

pub points_short : length points_text ≤ 2 ^ 26
unfolding points_text
points_short = omega arith

-- the two points of a netlist whose second and third nets are `q` and `e`
pub sample_points : Points
sample_points = record {
  goals = record { name = []; ftti = None; observe = record { 0 = 1 } ∷ [] } ∷ [];
  alarm = record { 0 = 2 } ∷ [];
}

pub points_are : (c : Circuit) → net_named c (codes "q") ≡ Some 1 → net_named c (codes "e") ≡ Some 2 → points_of c points_text ≡ Ok sample_points
unfolding sample_points points_of points_text points_row_fault next_record records_from strip_bom firsts first_after first_where
points_are c q e = rw (q, e) refl

pub q_named : (rest : List Name) → position (bytes_eq (codes "q")) (codes "d" ∷ codes "q" ∷ codes "e" ∷ rest) ≡ Some 1
q_named rest =
    let lt : nat_lt 1 (length (codes "d" ∷ codes "q" ∷ codes "e" ∷ rest)) ≡ true = grind arith in
    rw lt refl

pub e_named : (rest : List Name) → position (bytes_eq (codes "e")) (codes "d" ∷ codes "q" ∷ codes "e" ∷ rest) ≡ Some 2
e_named rest =
    let lt : nat_lt 2 (length (codes "d" ∷ codes "q" ∷ codes "e" ∷ rest)) ≡ true = grind arith in
    rw lt refl
