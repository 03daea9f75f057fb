-- The answer to what was gathered is that to the file.
use Rattle.std.proofs.Common.{◌≡◌, ℕ, ◌≤◌, ◌^◌, Bool, true, false, cond, inl, inr, List, [], refl, ap, sym, subst, ◌∙◌, length, map, arith}
use Rattle.std.specs.Prelude.{Option, Some, None, Result, Ok, Err, nat_lt}
use Rattle.std.specs.Option.{option_map, option_or}
use Rattle.std.specs.List.{AllByRecursion}
use Rattle.std.proofs.lemmas.Bool.{ltb-false}
use Rattle.std.proofs.lemmas.List.{append-nil, length-map}
use Rattle.circuit.specs.Circuit.{Circuit}
use Rattle.circuit.specs.Sound.{IsNetlist}
use Rattle.circuit.specs.declared.parts.Driver.{Driver}
use Rattle.fm_base.specs.Answers.{Gives}
use Rattle.fm_base.specs.Firsts.{given}
use Rattle.fm_base.specs.Names.{Bytes, Name}
use Rattle.fm_base.proofs.Tests.{or_false}
use Rattle.fm_base.specs.declared.refusal.Refusal.{Refusal}
use Rattle.fm_base.specs.declared.refusal.Refusal.TheVariants.{Fault, Memory}
use Rattle.net_names.specs.Drivers.{drivers_by}
use Rattle.net_names.specs.Nets.{driver_of, net_id}
use Rattle.net_names.proofs.Answers.{gives_same}
use Rattle.net_names.proofs.Once.{few-inputs, few-tables, few-latches}
use Rattle.net_names.proofs.Putting.{drivers-put}
use Rattle.bench_reader.specs.declared.BenchFault.{BenchFault}
use Rattle.bench_reader.specs.declared.BenchKind.TheVariants.{TooLarge}
use Rattle.bench_reader.specs.declared.gather.Gathered.{Gathered}
use Rattle.bench_reader.specs.declared.parts.Parts.{Parts}
use Rattle.bench_reader.specs.Answer.{IsSmallNetlist, answer_of, circuit_from, circuit_unless, fault_in, gathered_of, gathered_unless}
use Rattle.bench_reader.specs.Bench.{bench_of}
use Rattle.bench_reader.specs.Gather.{gathered_from, is_full, no_lines, StatementFits}
use Rattle.bench_reader.specs.LineFault.{Said, at_line, line_fault, numbered_lines}
use Rattle.bench_reader.specs.Marks.{first_loose}
use Rattle.bench_reader.specs.Net.{driven_of, drivers_of, inputs_of, nets_of}
use Rattle.bench_reader.specs.NetFault.{too_large, two_drivers, undriven}
use Rattle.bench_reader.specs.Steps.{bad_bench, bench_unless, latch_nets_of, net_fault, numbered_circuit, table_nets_of}
use Rattle.bench_reader.proofs.Gathering.{IsGathered, Outcome, full_large, lines_gathered, nets_gathered, outs_of, parts_of, second_at, too_large_is, visits_of}
use Rattle.bench_reader.proofs.Loose.{loose_found, undriven_found}
use Rattle.bench_reader.proofs.Rows.{lines_fit}
use Rattle.bench_reader.proofs.Numbered.{bench_told}
use Rattle.bench_reader.proofs.Sound.{lines_driven, netlist_sound}
use Rattle.fm_base.proofs.Options.{or_none}

-- ---- faults

loose_undriven : (lines : List Said) (g : Gathered) → IsGathered lines g → first_loose g.nets ≡ undriven lines
loose_undriven lines g h = loose_found (visits_of lines) (driven_of lines) (outs_of lines) g.nets h.marked ∙ sym (undriven_found lines)

-- the fault of what was gathered is that of the lines
fault_is : (lines : List Said) (g : Gathered) → Outcome lines g → fault_in g ≡ net_fault lines
fault_is lines g (inr full) =
    let large : too_large lines ≡ Some (at_line 1 TooLarge) = too_large_is lines true full.1 in
    rw (full.0, large) refl
fault_is lines g (inl h) = by_cases (is_full g) (too_large_is lines (is_full g) (full_large lines g h))
  where
    by_cases : (b : Bool) → too_large lines ≡ given b (at_line 1 TooLarge)
        → cond b (Some (at_line 1 TooLarge)) (option_or (option_map second_at g.second) (first_loose g.nets)) ≡ option_or (too_large lines) (option_or (two_drivers lines) (option_or (undriven lines) None))
    by_cases true e = rw e refl
    by_cases false e = rw (e, h.second, ← loose_undriven lines g h, or_none) refl

-- ---- the netlist

abbrev made_circuit : List Name → List Driver → Parts → Circuit
made_circuit names drivers p = record { names = names; drivers = drivers; tables = p.tables; latches = p.latches; inputs = p.inputs; outputs = p.outputs }

abbrev made_drivers : Parts → List Name → List Driver
made_drivers p names = drivers_by p.inputs p.table_nets p.latch_nets (length names)

abbrev circuit_from_parts : List Name → Parts → Circuit
circuit_from_parts names p = made_circuit names (made_drivers p names) p

module _ (lines : List Said) (once : two_drivers lines ≡ None) (driven : undriven lines ≡ None) where
  drivers_made : drivers_by (map (net_id (nets_of lines)) (inputs_of lines)) (map (net_id (nets_of lines)) (table_nets_of lines)) (map (net_id (nets_of lines)) (latch_nets_of lines)) (length (nets_of lines))
      ≡ map (driver_of (drivers_of lines)) (nets_of lines)
  unfolding drivers_of inputs_of table_nets_of latch_nets_of
  drivers_made =
      drivers-put (nets_of lines) (inputs_of lines) (table_nets_of lines) (latch_nets_of lines) (lines_driven lines once driven)

  circuit_made : circuit_from_parts (nets_of lines) (parts_of (nets_of lines) lines) ≡ numbered_circuit lines
  circuit_made = ap (λ (ds : List Driver). made_circuit (nets_of lines) ds (parts_of (nets_of lines) lines)) drivers_made

  circuit_is : (g : Gathered) → IsGathered lines g → g.second ≡ None → circuit_from g ≡ numbered_circuit lines
  circuit_is g h none =
      let parts = h.parts none [] ∙ ap (λ (ns : List Name). parts_of ns lines) (append-nil g.nets.names ∙ nets_gathered lines g h) in
      ap (circuit_from_parts g.nets.names) parts ∙ ap (λ (ns : List Name). circuit_from_parts ns (parts_of (nets_of lines) lines)) (nets_gathered lines g h) ∙ circuit_made

  ready_for : AllByRecursion (λ line. StatementFits line.says) lines → length (nets_of lines) ≤ 2 ^ 18 → (g : Gathered) → IsGathered lines g → g.second ≡ None → IsSmallNetlist g
  ready_for fit small g h none =
      let parts = h.parts none [] ∙ ap (λ (ns : List Name). parts_of ns lines) (append-nil g.nets.names ∙ nets_gathered lines g h) in
      record {
        inputs = let size = ap (λ (p : Parts). length p.inputs) parts in let same = length-map (inputs_of lines) (net_id (nets_of lines)) in let most = few-inputs (nets_of lines) (inputs_of lines) (table_nets_of lines) (latch_nets_of lines) (lines_driven lines once driven) in omega arith;
        tables = let size = ap (λ (p : Parts). length p.table_nets) parts in let same = length-map (table_nets_of lines) (net_id (nets_of lines)) in let most = few-tables (nets_of lines) (inputs_of lines) (table_nets_of lines) (latch_nets_of lines) (lines_driven lines once driven) in omega arith;
        latches = let size = ap (λ (p : Parts). length p.latch_nets) parts in let same = length-map (latch_nets_of lines) (net_id (nets_of lines)) in let most = few-latches (nets_of lines) (inputs_of lines) (table_nets_of lines) (latch_nets_of lines) (lines_driven lines once driven) in omega arith;
        sound = subst IsNetlist (sym (circuit_is g h none)) (netlist_sound lines once driven fit small);
      }

-- ---- the answer

-- what no fault of what was gathered says
module _ (lines : List Said) (g : Gathered) (outcome : Outcome lines g) (none : fault_in g ≡ None) where
  not_full : is_full g ≡ false
  not_full = by_cases (is_full g) none
    where
      by_cases : (b : Bool) → cond b (Some (at_line 1 TooLarge)) (option_or (option_map second_at g.second) (first_loose g.nets)) ≡ None → b ≡ false
      by_cases false e = refl
      by_cases true e = cc

  is_gathered : IsGathered lines g
  is_gathered = by_cases outcome
    where
      clash : is_full g ≡ true → is_full g ≡ false → ⊥
      clash e f = cc

      by_cases : Outcome lines g → IsGathered lines g
      by_cases (inl h) = h
      by_cases (inr full) = absurd (clash full.0 not_full)

  both_none : option_or (option_map second_at g.second) (first_loose g.nets) ≡ None
  both_none = sym (rw not_full refl) ∙ none

  second_none : g.second ≡ None
  second_none = by_cases g.second both_none
    where
      by_cases : (o : Option ℕ) → option_or (option_map second_at o) (first_loose g.nets) ≡ None → o ≡ None
      by_cases None e = refl
      by_cases (Some line) e = cc

  loose_none : first_loose g.nets ≡ None
  loose_none = by_cases g.second both_none
    where
      by_cases : (o : Option ℕ) → option_or (option_map second_at o) (first_loose g.nets) ≡ None → first_loose g.nets ≡ None
      by_cases None e = e
      by_cases (Some line) e = cc

  once_none : two_drivers lines ≡ None
  once_none = is_gathered.second ∙ ap (option_map second_at) second_none

  driven_none : undriven lines ≡ None
  driven_none = sym (loose_undriven lines g is_gathered) ∙ loose_none

  small_enough : length (nets_of lines) ≤ 2 ^ 18
  small_enough =
      let few = ltb-false (2 ^ 18) (length g.nets.names) (or_false (nat_lt (2 ^ 18) (length g.nets.names)) (nat_lt (2 ^ 24) g.cells) not_full).0 in
      let same = ap (λ (names : List Name). length names) (nets_gathered lines g is_gathered) in
      omega arith

  pub ready : AllByRecursion (λ line. StatementFits line.says) lines → IsSmallNetlist g
  ready fit = ready_for lines once_none driven_none fit small_enough g is_gathered second_none

  circuit_gathered : circuit_from g ≡ numbered_circuit lines
  circuit_gathered = circuit_is lines once_none driven_none g is_gathered second_none

abbrev as_circuit : Circuit → Result Circuit BenchFault
as_circuit c = Ok c

bad_is : (lines : List Said) (g : Gathered) → Outcome lines g → line_fault lines ≡ None → bad_bench lines ≡ fault_in g
bad_is lines g outcome free = ap (λ (o : Option BenchFault). option_or o (net_fault lines)) free ∙ sym (fault_is lines g outcome)

-- the answer of what was gathered is that of its lines, none of which has a fault of its own
answer_is : (lines : List Said) (g : Gathered) → Outcome lines g → line_fault lines ≡ None → answer_of g ≡ bench_unless (bad_bench lines) lines
answer_is lines g outcome free = by_cases (fault_in g) refl
  where
    by_cases : (o : Option BenchFault) → fault_in g ≡ o → answer_of g ≡ bench_unless (bad_bench lines) lines
    by_cases (Some fault) e = ap (λ (o : Option BenchFault). circuit_unless o g) e ∙ sym (ap (λ (o : Option BenchFault). bench_unless o lines) (bad_is lines g outcome free ∙ e))
    by_cases None e =
        ap (λ (o : Option BenchFault). circuit_unless o g) e ∙ ap as_circuit (circuit_gathered lines g outcome e)
        ∙ sym (ap (λ (o : Option BenchFault). bench_unless o lines) (bad_is lines g outcome free ∙ e))

split_gathered : (o : Option BenchFault) (lines : List Said) (g : Gathered) → gathered_unless o lines ≡ Ok g → (o ≡ None) × (gathered_from no_lines lines ≡ g)
split_gathered (Some fault) lines g e = (absurd_at e, absurd_from e)
  where
    absurd_at : gathered_unless (Some fault) lines ≡ Ok g → Some fault ≡ None
    absurd_at e = cc

    absurd_from : gathered_unless (Some fault) lines ≡ Ok g → gathered_from no_lines lines ≡ g
    absurd_from e = cc
split_gathered None lines g e = (refl, same e)
  where
    same : gathered_unless None lines ≡ Ok g → gathered_from no_lines lines ≡ g
    same e = cc

file_outcome : (bytes : Bytes) (g : Gathered) → gathered_of bytes ≡ Ok g → Outcome (numbered_lines bytes) g
file_outcome bytes g e =
    subst (Outcome (numbered_lines bytes)) (split_gathered (line_fault (numbered_lines bytes)) (numbered_lines bytes) g e).1 (lines_gathered (numbered_lines bytes))

-- what was gathered is ready where it has no fault
pub file_ready : (bytes : Bytes) (g : Gathered) → gathered_of bytes ≡ Ok g → fault_in g ≡ None → IsSmallNetlist g
file_ready bytes g e none = ready (numbered_lines bytes) g (file_outcome bytes g e) none (lines_fit bytes)

-- its answer is that of the file
pub file_answered : (bytes : Bytes) (g : Gathered) (r : Result Circuit (Refusal BenchFault)) → gathered_of bytes ≡ Ok g → Gives (answer_of g) r → Gives (bench_of bytes) r
file_answered bytes g r e gives =
    gives_same (bench_of bytes) (answer_of g) r
    (bench_told bytes ∙ sym (answer_is (numbered_lines bytes) g (file_outcome bytes g e) (split_gathered (line_fault (numbered_lines bytes)) (numbered_lines bytes) g e).0)) gives

fault_only : (o : Option BenchFault) (lines : List Said) (fault : BenchFault) → gathered_unless o lines ≡ Err fault → o ≡ Some fault
fault_only None lines fault e = cc
fault_only (Some found) lines fault e = let same : found ≡ fault = cc in ap (λ (x : BenchFault). Some x) same

refused_by : (bytes : Bytes) (why : Refusal BenchFault) → Gives (gathered_of bytes) (Err why) → Gives (bench_of bytes) (Err why)
refused_by bytes (Memory no_room) gives = tt
refused_by bytes (Fault fault) gives =
    let found = fault_only (line_fault (numbered_lines bytes)) (numbered_lines bytes) fault gives in
    bench_told bytes ∙ ap (λ (o : Option BenchFault). bench_unless (option_or o (net_fault (numbered_lines bytes))) (numbered_lines bytes)) found

-- a fault of a line is that of the file
pub file_refused : (bytes : Bytes) (why : Refusal BenchFault) (r : Result Circuit (Refusal BenchFault)) → Gives (gathered_of bytes) (Err why) → r ≡ Err why → Gives (bench_of bytes) r
file_refused bytes why r gives is = subst (λ (x : Result Circuit (Refusal BenchFault)). Gives (bench_of bytes) x) (sym is) (refused_by bytes why gives)
