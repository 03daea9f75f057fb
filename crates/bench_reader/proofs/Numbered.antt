-- What the definitions say of the lines of a file is what they say of lines with their numbers.
use Rattle.std.proofs.Common.{◌≡◌, ℕ, ◌+◌, ◌*◌, ◌^◌, Bool, true, false, not, ◌||◌, List, [], ◌∷◌, ◌++◌, refl, ap, sym, subst, ◌∙◌, cond, length, map, arith}
use Rattle.std.specs.Prelude.{find, flat_map, filter_map, sum_by, nat_lt, Option, Some, None, Result, Ok, Err}
use Rattle.std.specs.List.{cons_option, enumerate_from, list_any, slice_split}
use Rattle.std.specs.Option.{option_map, option_or}
use Rattle.std.proofs.lemmas.List.{append-nil, length-map, map-append, length-append}
use Rattle.std.proofs.lemmas.List.Folds.{flat_map-map}
use Rattle.std.proofs.lemmas.List.Sums.{sum_by-cons}
use Rattle.blif_text.specs.Lines.{is_feed}
use Rattle.circuit.specs.declared.parts.Latch.{Latch}
use Rattle.circuit.specs.declared.parts.Table.{Table}
use Rattle.circuit.specs.Circuit.{Circuit}
use Rattle.fm_base.specs.Firsts.{first_after, first_fault, first_where, given, numbered_fault}
use Rattle.fm_base.specs.Names.{Bytes, Name, is_one_of, distinct}
use Rattle.fm_base.proofs.Options.{none_both, none_mapped, or_mapped}
use Rattle.net_names.specs.Driven.{circuit_with}
use Rattle.net_names.specs.Nets.{net_id}
use Rattle.bench_reader.specs.declared.BenchFault.{BenchFault}
use Rattle.bench_reader.specs.declared.BenchKind.{BenchKind}
use Rattle.bench_reader.specs.declared.BenchKind.TheVariants.{TooLarge, TooWide, TwoDrivers, Undriven}
use Rattle.bench_reader.specs.Bench.{bench_of}
use Rattle.bench_reader.specs.LineFault.{Said, at_line, line_fault, numbered_lines, said, said_lines, statement_on}
use Rattle.bench_reader.specs.Net.{circuit_of, driven_at, driven_of, drivers_of, inputs_of, nets_at, nets_of}
use Rattle.bench_reader.specs.NetFault.{too_large, two_drivers, undriven}
use Rattle.bench_reader.specs.Statement.{Statement, nothing, input, output, table, latch, wrong}
use Rattle.bench_reader.specs.Steps.{bad_bench, bench_unless, cells_at, fault_of, input_at, latch_net, latch_on_line, net_fault, numbered_circuit, output_at, outputs_of, table_net, table_on_line}

-- ---- lines

abbrev says_of : Said → Statement
says_of line = line.says

-- lines are numbered from a number on
abbrev AreNumbered : ℕ → List Said → Type 0
AreNumbered n [] = Unit {0}
AreNumbered n (line ∷ lines) = (line.number ≡ n) × AreNumbered (n + 1) lines

are_numbered : (n : ℕ) (pieces : List Bytes) → AreNumbered n (map said (enumerate_from n pieces))
are_numbered n [] = tt
are_numbered n (piece ∷ pieces) = (refl, are_numbered (n + 1) pieces)

file_numbered : (bytes : Bytes) → AreNumbered 1 (numbered_lines bytes)
unfolding numbered_lines
file_numbered bytes = are_numbered 1 (slice_split is_feed bytes)

pieces_told : (f : Bytes → Statement) → ((number : ℕ) (piece : Bytes) → f piece ≡ statement_on (said (number, piece))) → (n : ℕ) (pieces : List Bytes)
    → map f pieces ≡ map statement_on (map said (enumerate_from n pieces))
pieces_told f same n [] = refl
pieces_told f same n (piece ∷ pieces) = rw (same n piece, pieces_told f same (n + 1) pieces) refl

lines_told : (bytes : Bytes) → said_lines bytes ≡ map statement_on (numbered_lines bytes)
unfolding said_lines numbered_lines
lines_told bytes = pieces_told _ (λ number piece. refl) 1 (slice_split is_feed bytes)

-- ---- the netlist

filter_map-map : {A B C : Type 0} (h : B → Option C) (v : A → B) (xs : List A) → filter_map h (map v xs) ≡ filter_map (λ x. h (v x)) xs
filter_map-map h v [] = refl
filter_map-map h v (x ∷ xs) = ap (cons_option (h (v x))) (filter_map-map h v xs)

abbrev made_by : (nets inputs of_tables of_latches outputs : List Name) → List Table → List Latch → Circuit
made_by nets inputs of_tables of_latches outputs tables latches = circuit_with nets inputs of_tables of_latches outputs tables latches

circuit_told : (lines : List Said) → circuit_of (map says_of lines) ≡ numbered_circuit lines
unfolding circuit_of nets_of inputs_of drivers_of outputs_of
circuit_told lines =
    let nets : distinct (flat_map nets_at (map says_of lines)) ≡ distinct (flat_map (λ (line : Said). nets_at line.says) lines) = ap distinct (flat_map-map nets_at says_of lines) in
    let ns : List Name = distinct (flat_map (λ (line : Said). nets_at line.says) lines) in
    let tables = filter_map-map (table_on_line ns) says_of lines in
    let latches = filter_map-map (latch_on_line ns) says_of lines in
    ap (λ (names : List Name). made_by names (flat_map input_at (map says_of lines)) (flat_map table_net (map says_of lines)) (flat_map latch_net (map says_of lines))
    (distinct (flat_map output_at (map says_of lines))) (filter_map (table_on_line names) (map says_of lines)) (filter_map (latch_on_line names) (map says_of lines))) nets
    ∙ rw (flat_map-map input_at says_of lines, flat_map-map table_net says_of lines, flat_map-map latch_net says_of lines, flat_map-map output_at says_of lines, tables, latches) refl

-- the cells of a netlist's tables are those of its lines
cells_same : (nets : List Name) (lines : List Said)
    → sum_by (λ (t : Table). length t.rows * length t.ins) (filter_map (λ (line : Said). table_on_line nets line.says) lines) ≡ sum_by (λ (line : Said). cells_at line.says) lines
cells_same nets [] = refl
cells_same nets (line ∷ lines) =
    at line.says (filter_map (λ (l : Said). table_on_line nets l.says) lines) (cells_same nets lines) ∙ sym (sum_by-cons (λ (l : Said). cells_at l.says) line lines)
  where
    zero_first : (n : ℕ) → n ≡ 0 + n
    zero_first n = omega arith

    at : (says : Statement) (tables : List Table) → sum_by (λ (t : Table). length t.rows * length t.ins) tables ≡ sum_by (λ (l : Said). cells_at l.says) lines
        → sum_by (λ (t : Table). length t.rows * length t.ins) (cons_option (table_on_line nets says) tables) ≡ cells_at says + sum_by (λ (l : Said). cells_at l.says) lines
    at (table out gate ins) tables e =
        sum_by-cons (λ (t : Table). length t.rows * length t.ins) (record { ins = map (net_id nets) ins; rows = gate.rows (length ins); on = gate.on }) tables
        ∙ ap (λ n. length (gate.rows (length ins)) * n + sum_by (λ (t : Table). length t.rows * length t.ins) tables) (length-map ins (net_id nets))
        ∙ ap (λ n. length (gate.rows (length ins)) * length ins + n) e
    at says tables e = e ∙ zero_first (sum_by (λ (l : Said). cells_at l.says) lines)

-- ---- faults

abbrev fault_at : ℕ × BenchKind → BenchFault
fault_at p = record { line = p.0; kind = p.1 }

told_at : (n : ℕ) (line : Said) (o : Option BenchKind) → line.number ≡ n → option_map fault_at (option_map (λ kind. (n, kind)) o) ≡ option_map (at_line line.number) o
told_at n line None e = refl
told_at n line (Some kind) e = ap (λ k. Some (at_line k kind)) (sym e)

-- the first fault of lines by their places is that by their numbers
faults_told : (view : Said → Statement) (f : List Statement → Statement → Option BenchKind) (answer : List Said → Said → Option BenchFault)
    → ((before : List Said) (line : Said) → option_map (at_line line.number) (f (map view before) (view line)) ≡ answer before line)
    → (before lines : List Said) → AreNumbered (length before + 1) lines
    → option_map fault_at (first_after (numbered_fault f) (map view before) (map view lines)) ≡ first_after answer before lines
unfolding first_after
faults_told view f answer same before [] all = refl
faults_told view f answer same before (line ∷ lines) all =
    or_mapped fault_at (numbered_fault f (map view before) (view line)) (first_after (numbered_fault f) (map view before ++ view line ∷ []) (map view lines))
    ∙ ap (λ (o : Option BenchFault). option_or o (option_map fault_at (first_after (numbered_fault f) (map view before ++ view line ∷ []) (map view lines)))) here
    ∙ ap (λ (o : Option BenchFault). option_or (answer before line) o) (longer ∙ faults_told view f answer same (before ++ line ∷ []) lines (subst (λ n. AreNumbered n lines) next all.1))
  where
    size : line.number ≡ length (map view before) + 1
    size = let e = all.0 in let m = length-map before view in omega arith

    here : option_map fault_at (numbered_fault f (map view before) (view line)) ≡ answer before line
    here = told_at (length (map view before) + 1) line (f (map view before) (view line)) size ∙ same before line

    next : length before + 1 + 1 ≡ length (before ++ line ∷ []) + 1
    next = let m = length-append before (line ∷ []) in omega arith

    longer : option_map fault_at (first_after (numbered_fault f) (map view before ++ view line ∷ []) (map view lines))
        ≡ option_map fault_at (first_after (numbered_fault f) (map view (before ++ line ∷ [])) (map view lines))
    longer = ap (λ (b : List Statement). option_map fault_at (first_after (numbered_fault f) b (map view lines))) (sym (map-append view before (line ∷ [])))

first_each : (answer : Said → Option BenchFault) (before lines : List Said) → first_after (λ b line. answer line) before lines ≡ first_where answer lines
unfolding first_after first_where
first_each answer before [] = refl
first_each answer before (line ∷ lines) = ap (option_or (answer line)) (first_each answer (before ++ line ∷ []) lines)

given_mapped : {X Y : Type 0} (f : X → Y) (b : Bool) (x : X) → option_map f (given b x) ≡ given b (f x)
given_mapped f true x = refl
given_mapped f false x = refl

-- ---- lines that are wrong by themselves

abbrev wrong_kind : Statement → Option BenchKind
wrong_kind says = elim says [ wrong kind ↦ Some kind | _ ↦ None ]

abbrev checked : Bool → Statement → Statement
checked wide says = elim says [ wrong kind ↦ wrong kind | s ↦ cond wide (wrong TooWide) s ]

abbrev checked_kind : Bool → Statement → Option BenchKind
checked_kind wide says = elim says [ wrong kind ↦ Some kind | _ ↦ given wide TooWide ]

kind_told : (says : Statement) (wide : Bool) → wrong_kind (checked wide says) ≡ checked_kind wide says
kind_told (wrong kind) wide = refl
kind_told nothing true = refl
kind_told (input net) true = refl
kind_told (output net) true = refl
kind_told (table out gate ins) true = refl
kind_told (latch out from) true = refl
kind_told nothing false = refl
kind_told (input net) false = refl
kind_told (output net) false = refl
kind_told (table out gate ins) false = refl
kind_told (latch out from) false = refl

abbrev first_wrong : List Statement → Option (ℕ × BenchKind)
first_wrong lines = first_fault (λ before says. wrong_kind says) lines

wrong_told : (lines : List Said) → AreNumbered 1 lines → option_map fault_at (first_wrong (map statement_on lines)) ≡ line_fault lines
unfolding line_fault
wrong_told lines all =
    faults_told statement_on (λ before says. wrong_kind says) (λ before line. fault_of line) (λ before line. ap (option_map (at_line line.number)) (kind_told line.says line.wide)) [] lines all
    ∙ first_each fault_of [] lines

not_wrong : (says : Statement) (wide : Bool) → checked_kind wide says ≡ None → checked wide says ≡ says
not_wrong (wrong kind) wide e = refl
not_wrong nothing true e = cc
not_wrong (input net) true e = cc
not_wrong (output net) true e = cc
not_wrong (table out gate ins) true e = cc
not_wrong (latch out from) true e = cc
not_wrong nothing false e = refl
not_wrong (input net) false e = refl
not_wrong (output net) false e = refl
not_wrong (table out gate ins) false e = refl
not_wrong (latch out from) false e = refl

none_wrong : (lines : List Said) → line_fault lines ≡ None → map statement_on lines ≡ map says_of lines
unfolding line_fault first_where
none_wrong [] e = refl
none_wrong (line ∷ lines) e =
    let parts = none_both (fault_of line) (line_fault lines) e in
    let here : statement_on line ≡ line.says = not_wrong line.says line.wide (none_mapped (at_line line.number) (checked_kind line.wide line.says) parts.0) in
    ap (λ (s : Statement). s ∷ map statement_on lines) here ∙ ap (λ (ss : List Statement). line.says ∷ ss) (none_wrong lines parts.1)

-- ---- faults of all lines together

abbrev is_large : Circuit → Bool
is_large c = nat_lt (2 ^ 18) (length c.names) || nat_lt (2 ^ 24) (sum_by (λ (t : Table). length t.rows * length t.ins) c.tables)

abbrev drives_again : List Statement → Statement → Option BenchKind
drives_again before says = given (list_any (is_one_of (flat_map driven_at before)) (flat_map driven_at (says ∷ []))) TwoDrivers

abbrev first_loose_of : List Name → Statement → Option BenchKind
first_loose_of driven says = option_map Undriven (find (λ net. not (is_one_of driven net)) (nets_at says))

large_told : (lines : List Said) → option_map fault_at (given (is_large (circuit_of (map says_of lines))) (1, TooLarge)) ≡ too_large lines
unfolding too_large
large_told lines =
    ap (λ (c : Circuit). option_map fault_at (given (is_large c) (1, TooLarge))) (circuit_told lines) ∙ given_mapped fault_at (is_large (numbered_circuit lines)) (1, TooLarge)
    ∙ ap (λ cells. given (nat_lt (2 ^ 18) (length (nets_of lines)) || nat_lt (2 ^ 24) cells) (at_line 1 TooLarge)) (cells_same (nets_of lines) lines)

two_told : (lines : List Said) → AreNumbered 1 lines → option_map fault_at (first_fault drives_again (map says_of lines)) ≡ two_drivers lines
unfolding two_drivers driven_of
two_told lines all = faults_told says_of drives_again (λ before line. given (list_any (is_one_of (driven_of before)) (driven_at line.says)) (at_line line.number TwoDrivers)) same [] lines all
  where
    same : (before : List Said) (line : Said) → option_map (at_line line.number) (drives_again (map says_of before) line.says)
        ≡ given (list_any (is_one_of (driven_of before)) (driven_at line.says)) (at_line line.number TwoDrivers)
    same before line =
        ap (λ (names : List Name). option_map (at_line line.number) (given (list_any (is_one_of names) (driven_at line.says ++ [])) TwoDrivers)) (flat_map-map driven_at says_of before)
        ∙ ap (λ (names : List Name). option_map (at_line line.number) (given (list_any (is_one_of (driven_of before)) names) TwoDrivers)) (append-nil (driven_at line.says))
        ∙ given_mapped (at_line line.number) (list_any (is_one_of (driven_of before)) (driven_at line.says)) TwoDrivers

loose_told : (bad : Name → Bool) (n : ℕ) (names : List Name)
    → option_map (at_line n) (option_map Undriven (find bad names)) ≡ first_where (λ net. given (bad net) (at_line n (Undriven net))) names
unfolding first_where
loose_told bad n [] = refl
loose_told bad n (name ∷ names) = by_cases (bad name) (loose_told bad n names)
  where
    by_cases : (b : Bool) → option_map (at_line n) (option_map Undriven (find bad names)) ≡ first_where (λ net. given (bad net) (at_line n (Undriven net))) names
        → option_map (at_line n) (option_map Undriven (cond b (Some name) (find bad names)))
        ≡ option_or (given b (at_line n (Undriven name))) (first_where (λ net. given (bad net) (at_line n (Undriven net))) names)
    by_cases true more = refl
    by_cases false more = more

undriven_told : (lines : List Said) → AreNumbered 1 lines
    → option_map fault_at (first_fault (λ before says. first_loose_of (flat_map driven_at (map says_of lines)) says) (map says_of lines)) ≡ undriven lines
unfolding undriven driven_of
undriven_told lines all =
    ap (λ (driven : List Name). option_map fault_at (first_fault (λ before says. first_loose_of driven says) (map says_of lines))) (flat_map-map driven_at says_of lines)
    ∙ faults_told says_of (λ before says. first_loose_of (driven_of lines) says) (λ before line. loose_at line)
    (λ before line. loose_told (λ net. not (is_one_of (driven_of lines) net)) line.number (nets_at line.says)) [] lines all
    ∙ first_each loose_at [] lines
  where
    loose_at : Said → Option BenchFault
    loose_at line = first_where (λ net. given (not (is_one_of (driven_of lines) net)) (at_line line.number (Undriven net))) (nets_at line.says)

abbrev later_fault : List Statement → Option (ℕ × BenchKind)
later_fault lines =
    option_or (given (is_large (circuit_of lines)) (1, TooLarge))
    (option_or (first_fault drives_again lines) (option_or (first_fault (λ before says. first_loose_of (flat_map driven_at lines) says) lines) None))

later_told : (lines : List Said) → AreNumbered 1 lines → option_map fault_at (later_fault (map says_of lines)) ≡ net_fault lines
later_told lines all = three _ _ _ (large_told lines) (two_told lines all) (undriven_told lines all)
  where
    three : (a b c : Option (ℕ × BenchKind)) {x y z : Option BenchFault} → option_map fault_at a ≡ x → option_map fault_at b ≡ y → option_map fault_at c ≡ z
        → option_map fault_at (option_or a (option_or b (option_or c None))) ≡ option_or x (option_or y (option_or z None))
    three a b c e f g = rw (or_mapped fault_at a _, or_mapped fault_at b _, or_mapped fault_at c None, e, f, g) refl

-- ---- the answer

abbrev ended : Option (ℕ × BenchKind) → List Statement → Result Circuit BenchFault
ended fault lines = elim fault [ Some at ↦ Err (fault_at at) | None ↦ Ok (circuit_of lines) ]

abbrev as_answer : Circuit → Result Circuit BenchFault
as_answer c = Ok c

ended_told : (fault : Option (ℕ × BenchKind)) (lines : List Said) → ended fault (map says_of lines) ≡ bench_unless (option_map fault_at fault) lines
ended_told (Some at) lines = refl
ended_told None lines = ap as_answer (circuit_told lines)

answer_told : (lines : List Said) → AreNumbered 1 lines
    → ended (option_or (first_wrong (map statement_on lines)) (later_fault (map statement_on lines))) (map statement_on lines) ≡ bench_unless (bad_bench lines) lines
answer_told lines all = by_cases (first_wrong (map statement_on lines)) refl
  where
    told : (o : Option (ℕ × BenchKind)) → line_fault lines ≡ option_map fault_at o
        → ended (option_or o (later_fault (map statement_on lines))) (map statement_on lines) ≡ bench_unless (bad_bench lines) lines
    told (Some at) e = sym (ap (λ (p : Option BenchFault). bench_unless (option_or p (net_fault lines)) lines) e)
    told None e =
        ap (λ (s : List Statement). ended (later_fault s) s) (none_wrong lines e) ∙ ended_told (later_fault (map says_of lines)) lines
        ∙ ap (λ (p : Option BenchFault). bench_unless p lines) (later_told lines all)
        ∙ sym (ap (λ (p : Option BenchFault). bench_unless (option_or p (net_fault lines)) lines) e)

    by_cases : (o : Option (ℕ × BenchKind)) → first_wrong (map statement_on lines) ≡ o
        → ended (option_or (first_wrong (map statement_on lines)) (later_fault (map statement_on lines))) (map statement_on lines) ≡ bench_unless (bad_bench lines) lines
    by_cases o e = ap (λ (p : Option (ℕ × BenchKind)). ended (option_or p (later_fault (map statement_on lines))) (map statement_on lines)) e ∙ told o (sym (wrong_told lines all) ∙ ap (option_map fault_at) e)

-- the netlist of a file or its first fault, step by step
pub bench_told : (bytes : Bytes) → bench_of bytes ≡ bench_unless (bad_bench (numbered_lines bytes)) (numbered_lines bytes)
unfolding bench_of
bench_told bytes =
    ap (λ (s : List Statement). ended (option_or (first_wrong s) (later_fault s)) s) (lines_told bytes) ∙ answer_told (numbered_lines bytes) (file_numbered bytes)
