-- What is gathered of lines is what the definitions of the netlist say of them.
use Rattle.std.proofs.Common.{◌≡◌, ℕ, ◌+◌, ◌*◌, ◌≤◌, ◌^◌, Bool, true, false, cond, ◌||◌, ◌⊎◌, inl, inr, List, [], ◌∷◌, ◌++◌, refl, ap, sym, subst, ◌∙◌, append_assoc, length, get_or, map, sum_by, fold, arith}
use Rattle.std.specs.Prelude.{Option, Some, None, flat_map, filter_map, is_none, nat_lt}
use Rattle.std.specs.List.{cons_option, list_any}
use Rattle.std.specs.Option.{option_map, option_or}
use Rattle.std.proofs.lemmas.List.{append-nil, map-append, length-map}
use Rattle.std.proofs.lemmas.List.Elements.{filter_map-append}
use Rattle.std.proofs.lemmas.List.Sums.{sum_by-append}
use Rattle.std.proofs.lemmas.Grind.{flat_map-append}
use Rattle.std.proofs.lemmas.Bool.{ltb-true, lt-ltb, or_left}
use Rattle.circuit.specs.declared.parts.Latch.{Latch}
use Rattle.circuit.specs.declared.parts.NetId.{NetId}
use Rattle.circuit.specs.declared.parts.Table.{Table}
use Rattle.fm_base.specs.Firsts.{first_after, given}
use Rattle.fm_base.specs.Lists.{firsts}
use Rattle.fm_base.specs.Names.{Name, is_one_of, distinct}
use Rattle.fm_base.proofs.Distinct.{distinct-snoc, distinct-found, distinct-apart}
use Rattle.fm_base.proofs.Tests.{or_cases, or_second}
use Rattle.net_names.specs.Nets.{net_id}
use Rattle.net_names.proofs.Few.{no_more}
use Rattle.net_names.proofs.Times.{place}
use Rattle.bench_reader.specs.Gates.{GateRule}
use Rattle.bench_reader.specs.declared.BenchFault.{BenchFault}
use Rattle.bench_reader.specs.declared.BenchKind.TheVariants.{TooLarge, TwoDrivers}
use Rattle.bench_reader.specs.declared.gather.Gathered.{Gathered}
use Rattle.bench_reader.specs.declared.parts.Parts.{Parts}
use Rattle.bench_reader.specs.Gather.{add_input, add_latch, add_output, add_said, add_statement, add_table, driven_at, gate_table, gathered_from, is_full, no_lines, with_nets, with_part}
use Rattle.bench_reader.specs.LineFault.{Said, at_line}
use Rattle.bench_reader.specs.Marks.{NetMarks, no_nets, ids_from, is_driven, is_given, mention, mention_all, with_driven, with_given}
use Rattle.bench_reader.specs.Net.{driven_at as drives_at, driven_of, inputs_of, nets_at, nets_of}
use Rattle.bench_reader.specs.NetFault.{too_large, two_drivers}
use Rattle.bench_reader.specs.Steps.{cells_at, input_at, latch_net, latch_nets_of, latch_on_line, output_at, outputs_of, table_net, table_nets_of, table_on_line}
use Rattle.bench_reader.specs.Statement.{Statement, nothing, input, output, table, latch, wrong}
use Rattle.bench_reader.proofs.Marked.{IsMarked, Visit, all_grows, all_marked, among_more, blank, drive_marked, give_marked, grows, id_stays, ids_all, is_driven_marked, is_given_marked, length_ids, mark_of, mention_marked, mentioned, names_of, visits_at}
use Rattle.fm_base.proofs.Options.{or_none}
use Rattle.fm_base.proofs.Firsts.{first_after-append}

-- ---- lists of lines, one line longer

abbrev pub says_of : Said → Statement
says_of line = line.says

-- the visits of a line, and of lines
abbrev pub visits_in : Said → List Visit
visits_in line = visits_at line.number (nets_at line.says)

abbrev pub visits_of : List Said → List Visit
visits_of lines = flat_map visits_in lines

abbrev pub outs_of : List Said → List Name
outs_of lines = flat_map (λ (line : Said). output_at line.says) lines

flat_snoc : {Y : Type 0} (f : Said → List Y) (lines : List Said) (line : Said) → flat_map f (lines ++ line ∷ []) ≡ flat_map f lines ++ f line
flat_snoc {Y} f lines line = flat_map-append f lines (line ∷ []) ∙ ap (λ (more : List Y). flat_map f lines ++ more) (append-nil (f line))

driven_snoc : (lines : List Said) (line : Said) → driven_of (lines ++ line ∷ []) ≡ driven_of lines ++ drives_at line.says
unfolding driven_of
driven_snoc lines line = flat_snoc (λ (l : Said). drives_at l.says) lines line

visits_snoc : (lines : List Said) (line : Said) → visits_of (lines ++ line ∷ []) ≡ visits_of lines ++ visits_in line
visits_snoc lines line = flat_snoc visits_in lines line

outs_snoc : (lines : List Said) (line : Said) → outs_of (lines ++ line ∷ []) ≡ outs_of lines ++ output_at line.says
outs_snoc lines line = flat_snoc (λ (l : Said). output_at l.says) lines line

abbrev pub cells_in : Said → ℕ
cells_in line = cells_at line.says

cells_snoc : (lines : List Said) (line : Said) → sum_by cells_in (lines ++ line ∷ []) ≡ sum_by cells_in lines + cells_at line.says
cells_snoc lines line =
    let one : sum_by cells_in (line ∷ []) ≡ cells_at line.says = omega arith in
    sum_by-append cells_in lines (line ∷ []) ∙ ap (λ n. sum_by cells_in lines + n) one

-- ---- parts

abbrev pub parts_by : List NetId → List NetId → List Table → List NetId → List Latch → List NetId → Parts
parts_by i o t tn l ln = record { inputs = i; outputs = o; tables = t; table_nets = tn; latches = l; latch_nets = ln }

-- the parts of lines, with numbers by these nets
abbrev pub parts_of : List Name → List Said → Parts
parts_of nets lines = record {
  inputs = map (net_id nets) (inputs_of lines);
  outputs = map (net_id nets) (outputs_of lines);
  tables = filter_map (λ (line : Said). table_on_line nets line.says) lines;
  table_nets = map (net_id nets) (table_nets_of lines);
  latches = filter_map (λ (line : Said). latch_on_line nets line.says) lines;
  latch_nets = map (net_id nets) (latch_nets_of lines);
}

ids_snoc : (nets : List Name) (f : Statement → List Name) (lines : List Said) (line : Said)
    → map (net_id nets) (flat_map (λ (l : Said). f l.says) (lines ++ line ∷ [])) ≡ map (net_id nets) (flat_map (λ (l : Said). f l.says) lines) ++ map (net_id nets) (f line.says)
ids_snoc nets f lines line = ap (map (net_id nets)) (flat_snoc (λ (l : Said). f l.says) lines line) ∙ map-append (net_id nets) (flat_map (λ (l : Said). f l.says) lines) (f line.says)

made_snoc : {Y : Type 0} (f : Statement → Option Y) (lines : List Said) (line : Said)
    → filter_map (λ (l : Said). f l.says) (lines ++ line ∷ []) ≡ filter_map (λ (l : Said). f l.says) lines ++ filter_map (λ (l : Said). f l.says) (line ∷ [])
made_snoc f lines line = filter_map-append (λ (l : Said). f l.says) lines (line ∷ [])

inputs_snoc : (nets : List Name) (lines : List Said) (line : Said) → map (net_id nets) (inputs_of (lines ++ line ∷ [])) ≡ map (net_id nets) (inputs_of lines) ++ map (net_id nets) (input_at line.says)
unfolding inputs_of
inputs_snoc nets lines line = ids_snoc nets input_at lines line

table_nets_snoc : (nets : List Name) (lines : List Said) (line : Said) → map (net_id nets) (table_nets_of (lines ++ line ∷ [])) ≡ map (net_id nets) (table_nets_of lines) ++ map (net_id nets) (table_net line.says)
unfolding table_nets_of
table_nets_snoc nets lines line = ids_snoc nets table_net lines line

latch_nets_snoc : (nets : List Name) (lines : List Said) (line : Said) → map (net_id nets) (latch_nets_of (lines ++ line ∷ [])) ≡ map (net_id nets) (latch_nets_of lines) ++ map (net_id nets) (latch_net line.says)
unfolding latch_nets_of
latch_nets_snoc nets lines line = ids_snoc nets latch_net lines line

-- the outputs, where a line gives none
outputs_same : (lines : List Said) (line : Said) → output_at line.says ≡ [] → outputs_of (lines ++ line ∷ []) ≡ outputs_of lines
unfolding outputs_of
outputs_same lines line e = ap distinct (outs_snoc lines line ∙ ap (λ (more : List Name). outs_of lines ++ more) e ∙ append-nil (outs_of lines))

-- and where it gives one
outputs_more : (lines : List Said) (line : Said) (name : Name) → output_at line.says ≡ name ∷ []
    → outputs_of (lines ++ line ∷ []) ≡ cond (is_one_of (outs_of lines) name) (outputs_of lines) (outputs_of lines ++ name ∷ [])
unfolding outputs_of
outputs_more lines line name e = ap distinct (outs_snoc lines line ∙ ap (λ (more : List Name). outs_of lines ++ more) e) ∙ distinct-snoc (outs_of lines) name

parts_equal : (i i2 o o2 : List NetId) (t t2 : List Table) (tn tn2 : List NetId) (l l2 : List Latch) (ln ln2 : List NetId)
    → i ≡ i2 → o ≡ o2 → t ≡ t2 → tn ≡ tn2 → l ≡ l2 → ln ≡ ln2 → parts_by i o t tn l ln ≡ parts_by i2 o2 t2 tn2 l2 ln2
parts_equal i i2 o o2 t t2 tn tn2 l l2 ln ln2 a b c d e f = rw (a, b, c, d, e, f) refl

-- ---- second drivers

abbrev answer_at : List Said → Said → Option BenchFault
answer_at before line = given (list_any (is_one_of (driven_of before)) (drives_at line.says)) (at_line line.number TwoDrivers)

two_snoc : (lines : List Said) (line : Said) → two_drivers (lines ++ line ∷ []) ≡ option_or (two_drivers lines) (answer_at lines line)
unfolding two_drivers first_after
two_snoc lines line = first_after-append answer_at [] lines (line ∷ []) ∙ ap (option_or (first_after answer_at [] lines)) (or_none (answer_at lines line))

abbrev pub second_at : ℕ → BenchFault
second_at line = at_line line TwoDrivers

second_or : (o : Option ℕ) (b : Bool) (line : ℕ) → option_or (option_map second_at o) (given b (second_at line)) ≡ option_map second_at (option_or o (given b line))
second_or None true line = refl
second_or None false line = refl
second_or (Some l) b line = refl

-- ---- what is gathered

pub record IsGathered (lines : List Said) (g : Gathered) : Type 0 where
  pub marked : IsMarked (visits_of lines) (driven_of lines) (outs_of lines) g.nets
  pub cells : g.cells ≡ sum_by cells_in lines
  pub second : two_drivers lines ≡ option_map second_at g.second
  pub parts : g.second ≡ None → (more : List Name) → g.parts ≡ parts_of (g.nets.names ++ more) lines

none_first : (o : Option ℕ) (b : Bool) (line : ℕ) → option_or o (given b line) ≡ None → o ≡ None
none_first None b line e = refl
none_first (Some l) b line e = cc

-- a part is put where no net is driven a second time, and nothing else changes
part_nets : (g : Gathered) (add : Parts → Parts) → (with_part g add).nets ≡ g.nets
part_nets g add = by_cases (is_none g.second) refl
  where
    by_cases : (b : Bool) → is_none g.second ≡ b → (with_part g add).nets ≡ g.nets
    by_cases true e = rw e refl
    by_cases false e = rw e refl

part_cells : (g : Gathered) (add : Parts → Parts) → (with_part g add).cells ≡ g.cells
part_cells g add = by_cases (is_none g.second) refl
  where
    by_cases : (b : Bool) → is_none g.second ≡ b → (with_part g add).cells ≡ g.cells
    by_cases true e = rw e refl
    by_cases false e = rw e refl

part_second : (g : Gathered) (add : Parts → Parts) → (with_part g add).second ≡ g.second
part_second g add = by_cases (is_none g.second) refl
  where
    by_cases : (b : Bool) → is_none g.second ≡ b → (with_part g add).second ≡ g.second
    by_cases true e = rw e refl
    by_cases false e = rw e refl

part_parts : (g : Gathered) (add : Parts → Parts) → g.second ≡ None → (with_part g add).parts ≡ add g.parts
part_parts g add e = let none : is_none g.second ≡ true = ap is_none e in rw none refl

-- ---- a line that drives a net

module _ (lines : List Said) (g : Gathered) (h : IsGathered lines g) (line : Said) where
  abbrev all : List Said
  all = lines ++ line ∷ []

  -- `counted` has the nets and cells of the line
  module _ (counted : Gathered) (to : Name) (id : NetId) (add : Parts → Parts)
      (marked : IsMarked (visits_of lines ++ visits_in line) (driven_of lines) (outs_of lines) counted.nets) (there : is_one_of counted.nets.names to ≡ true)
      (second : counted.second ≡ g.second) (parts : counted.parts ≡ g.parts) (cells : counted.cells ≡ sum_by cells_in lines + cells_at line.says)
      (drives : drives_at line.says ≡ to ∷ []) (gives : output_at line.says ≡ []) (numbered : id ≡ net_id counted.nets.names to)
      (fresh : (more : List Name) × (counted.nets.names ≡ g.nets.names ++ more))
      (adds : (more : List Name) → add (parts_of (counted.nets.names ++ more) lines) ≡ parts_of (counted.nets.names ++ more) all) where
    abbrev now : Gathered
    now = driven_at counted line.number id

    driven_now : driven_of all ≡ driven_of lines ++ to ∷ []
    driven_now = driven_snoc lines line ∙ ap (λ (more : List Name). driven_of lines ++ more) drives

    outs_now : outs_of all ≡ outs_of lines
    outs_now = outs_snoc lines line ∙ ap (λ (more : List Name). outs_of lines ++ more) gives ∙ append-nil (outs_of lines)

    marked_now : IsMarked (visits_of all) (driven_of all) (outs_of all) (with_driven counted.nets id)
    marked_now =
        let here = drive_marked (visits_of lines ++ visits_in line) (driven_of lines) (outs_of lines) counted.nets marked to there in
        subst (λ (vs : List Visit). IsMarked vs (driven_of all) (outs_of all) (with_driven counted.nets id)) (sym (visits_snoc lines line))
        (subst (λ (ds : List Name). IsMarked (visits_of lines ++ visits_in line) ds (outs_of all) (with_driven counted.nets id)) (sym driven_now)
        (subst (λ (os : List Name). IsMarked (visits_of lines ++ visits_in line) (driven_of lines ++ to ∷ []) os (with_driven counted.nets id)) (sym outs_now)
        (subst (λ (i : NetId). IsMarked (visits_of lines ++ visits_in line) (driven_of lines ++ to ∷ []) (outs_of lines) (with_driven counted.nets i)) (sym numbered) here)))

    is_second : is_driven counted.nets id ≡ list_any (is_one_of (driven_of lines)) (drives_at line.says)
    is_second =
        ap (is_driven counted.nets) numbered ∙ is_driven_marked (visits_of lines ++ visits_in line) (driven_of lines) (outs_of lines) counted.nets marked to there
        ∙ one (is_one_of (driven_of lines) to) ∙ ap (list_any (is_one_of (driven_of lines))) (sym drives)
      where
        one : (b : Bool) → b ≡ (b || false)
        one true = refl
        one false = refl

    second_now : two_drivers all ≡ option_map second_at now.second
    second_now =
        two_snoc lines line ∙ ap (λ o. option_or o (answer_at lines line)) (h.second ∙ ap (option_map second_at) (sym second))
        ∙ ap (λ b. option_or (option_map second_at counted.second) (given b (second_at line.number))) (sym is_second)
        ∙ second_or counted.second (is_driven counted.nets id) line.number

    parts_now : now.second ≡ None → (more : List Name) → add now.parts ≡ parts_of (now.nets.names ++ more) all
    parts_now e more =
        let none : g.second ≡ None = sym second ∙ none_first counted.second (is_driven counted.nets id) line.number e in
        let before = h.parts none (fresh.0 ++ more) in
        let names : g.nets.names ++ (fresh.0 ++ more) ≡ counted.nets.names ++ more = sym (append_assoc g.nets.names fresh.0 more) ∙ ap (λ (ns : List Name). ns ++ more) (sym fresh.1) in
        ap add (parts ∙ before ∙ ap (λ (ns : List Name). parts_of ns lines) names) ∙ adds more

    pub driver_gathered : IsGathered all (with_part now add)
    driver_gathered = record {
      marked = subst (IsMarked (visits_of all) (driven_of all) (outs_of all)) (sym (part_nets now add)) marked_now;
      cells = part_cells now add ∙ cells ∙ sym (cells_snoc lines line);
      second = second_now ∙ ap (option_map second_at) (sym (part_second now add));
      parts = λ e more.
          let none = sym (part_second now add) ∙ e in
          part_parts now add none ∙ parts_now none more ∙ ap (λ (nets : NetMarks). parts_of (nets.names ++ more) all) (sym (part_nets now add));
    }

-- ---- each statement

abbrev made_latch : NetId → NetId → Latch
made_latch from to = record { from = from; to = to; start = false }

tables_same : (nets : List Name) (lines : List Said) (line : Said) → filter_map (λ (l : Said). table_on_line nets l.says) (line ∷ []) ≡ []
    → filter_map (λ (l : Said). table_on_line nets l.says) lines ≡ filter_map (λ (l : Said). table_on_line nets l.says) (lines ++ line ∷ [])
tables_same nets lines line e =
    sym (made_snoc (table_on_line nets) lines line ∙ ap (λ (more : List Table). filter_map (λ (l : Said). table_on_line nets l.says) lines ++ more) e ∙ append-nil (filter_map (λ (l : Said). table_on_line nets l.says) lines))

latches_same : (nets : List Name) (lines : List Said) (line : Said) → filter_map (λ (l : Said). latch_on_line nets l.says) (line ∷ []) ≡ []
    → filter_map (λ (l : Said). latch_on_line nets l.says) lines ≡ filter_map (λ (l : Said). latch_on_line nets l.says) (lines ++ line ∷ [])
latches_same nets lines line e =
    sym (made_snoc (latch_on_line nets) lines line ∙ ap (λ (more : List Latch). filter_map (λ (l : Said). latch_on_line nets l.says) lines ++ more) e ∙ append-nil (filter_map (λ (l : Said). latch_on_line nets l.says) lines))

inputs_still : (nets : List Name) (lines : List Said) (line : Said) → input_at line.says ≡ [] → map (net_id nets) (inputs_of lines) ≡ map (net_id nets) (inputs_of (lines ++ line ∷ []))
inputs_still nets lines line e =
    sym (inputs_snoc nets lines line ∙ ap (λ (more : List Name). map (net_id nets) (inputs_of lines) ++ map (net_id nets) more) e ∙ append-nil (map (net_id nets) (inputs_of lines)))

table_nets_still : (nets : List Name) (lines : List Said) (line : Said) → table_net line.says ≡ [] → map (net_id nets) (table_nets_of lines) ≡ map (net_id nets) (table_nets_of (lines ++ line ∷ []))
table_nets_still nets lines line e =
    sym (table_nets_snoc nets lines line ∙ ap (λ (more : List Name). map (net_id nets) (table_nets_of lines) ++ map (net_id nets) more) e ∙ append-nil (map (net_id nets) (table_nets_of lines)))

latch_nets_still : (nets : List Name) (lines : List Said) (line : Said) → latch_net line.says ≡ [] → map (net_id nets) (latch_nets_of lines) ≡ map (net_id nets) (latch_nets_of (lines ++ line ∷ []))
latch_nets_still nets lines line e =
    sym (latch_nets_snoc nets lines line ∙ ap (λ (more : List Name). map (net_id nets) (latch_nets_of lines) ++ map (net_id nets) more) e ∙ append-nil (map (net_id nets) (latch_nets_of lines)))

outputs_still : (nets : List Name) (lines : List Said) (line : Said) → output_at line.says ≡ [] → map (net_id nets) (outputs_of lines) ≡ map (net_id nets) (outputs_of (lines ++ line ∷ []))
outputs_still nets lines line e = ap (map (net_id nets)) (sym (outputs_same lines line e))

plus_none : (n : ℕ) → n ≡ n + 0
plus_none n = omega arith

-- the number of a net, whatever comes behind it
id_later : (names later more : List Name) (name : Name) → is_one_of names name ≡ true → (fresh : List Name) → later ≡ names ++ fresh → net_id names name ≡ net_id (later ++ more) name
id_later names later more name e fresh is =
    sym (id_stays names (fresh ++ more) name e) ∙ ap (λ (ns : List Name). net_id ns name) (sym (append_assoc names fresh more) ∙ ap (λ (ns : List Name). ns ++ more) (sym is))

module _ (lines : List Said) (g : Gathered) (h : IsGathered lines g) (n : ℕ) (w : Bool) where
  abbrev line_with : Statement → Said
  line_with says = record { number = n; says = says; wide = w }

  abbrev longer : Statement → List Said
  longer says = lines ++ line_with says ∷ []

  -- `INPUT(name)`
  module _ (name : Name) where
    abbrev net : NetMarks
    net = mention n g.nets name

    abbrev net_is : NetId
    net_is = net_id net.names name

    input_adds : (more : List Name)
        → parts_by (map (net_id (net.names ++ more)) (inputs_of lines) ++ net_is ∷ []) (map (net_id (net.names ++ more)) (outputs_of lines))
        (filter_map (λ (l : Said). table_on_line (net.names ++ more) l.says) lines) (map (net_id (net.names ++ more)) (table_nets_of lines))
        (filter_map (λ (l : Said). latch_on_line (net.names ++ more) l.says) lines) (map (net_id (net.names ++ more)) (latch_nets_of lines))
        ≡ parts_of (net.names ++ more) (longer (input name))
    input_adds more =
        let ns : List Name = net.names ++ more in
        let line : Said = line_with (input name) in
        parts_equal _ _ _ _ _ _ _ _ _ _ _ _
        (ap (λ (i : NetId). map (net_id ns) (inputs_of lines) ++ i ∷ []) (sym (id_stays net.names more name (mentioned n g.nets name))) ∙ sym (inputs_snoc ns lines line))
        (outputs_still ns lines line refl) (tables_same ns lines line refl) (table_nets_still ns lines line refl) (latches_same ns lines line refl) (latch_nets_still ns lines line refl)

    input_gathered : IsGathered (longer (input name)) (add_input g n name)
    input_gathered =
        driver_gathered lines g h (line_with (input name)) (with_nets g net) name net_is (λ p. record p { inputs = p.inputs ++ net_is ∷ [] })
        (mention_marked (visits_of lines) (driven_of lines) (outs_of lines) g.nets h.marked n name) (mentioned n g.nets name) refl refl (h.cells ∙ plus_none _) refl refl refl
        (grows n g.nets name) input_adds

    -- `OUTPUT(name)`
    output_marked : IsMarked (visits_of (longer (output name))) (driven_of (longer (output name))) (outs_of (longer (output name))) (with_given net net_is)
    output_marked =
        let line : Said = line_with (output name) in
        let all : List Said = longer (output name) in
        let seen = mention_marked (visits_of lines) (driven_of lines) (outs_of lines) g.nets h.marked n name in
        let here = give_marked (visits_of lines ++ visits_in line) (driven_of lines) (outs_of lines) net seen name (mentioned n g.nets name) in
        let same : driven_of lines ≡ driven_of all = sym (driven_snoc lines line ∙ append-nil (driven_of lines)) in
        subst (λ (vs : List Visit). IsMarked vs (driven_of all) (outs_of all) (with_given net net_is)) (sym (visits_snoc lines line))
        (subst (λ (ds : List Name). IsMarked (visits_of lines ++ visits_in line) ds (outs_of all) (with_given net net_is)) same
        (subst (λ (os : List Name). IsMarked (visits_of lines ++ visits_in line) (driven_of lines) os (with_given net net_is)) (sym (outs_snoc lines line)) here))

    is_given_now : is_given net net_is ≡ is_one_of (outs_of lines) name
    is_given_now =
        is_given_marked (visits_of lines ++ visits_in (line_with (output name))) (driven_of lines) (outs_of lines) net
        (mention_marked (visits_of lines) (driven_of lines) (outs_of lines) g.nets h.marked n name) name (mentioned n g.nets name)

    -- the parts that stay, with these outputs
    output_parts : (more : List Name) (outputs : List NetId) → outputs ≡ map (net_id (net.names ++ more)) (outputs_of (longer (output name)))
        → parts_by (map (net_id (net.names ++ more)) (inputs_of lines)) outputs
        (filter_map (λ (l : Said). table_on_line (net.names ++ more) l.says) lines) (map (net_id (net.names ++ more)) (table_nets_of lines))
        (filter_map (λ (l : Said). latch_on_line (net.names ++ more) l.says) lines) (map (net_id (net.names ++ more)) (latch_nets_of lines))
        ≡ parts_of (net.names ++ more) (longer (output name))
    output_parts more outputs e =
        let ns : List Name = net.names ++ more in
        let line : Said = line_with (output name) in
        parts_equal _ _ _ _ _ _ _ _ _ _ _ _
        (inputs_still ns lines line refl) e (tables_same ns lines line refl) (table_nets_still ns lines line refl) (latches_same ns lines line refl) (latch_nets_still ns lines line refl)

    output_adds : (b : Bool) → is_one_of (outs_of lines) name ≡ b → (p : Parts) (more : List Name) → p ≡ parts_of (net.names ++ more) lines
        → cond b p (record p { outputs = p.outputs ++ net_is ∷ [] }) ≡ parts_of (net.names ++ more) (longer (output name))
    output_adds true e p more is =
        is ∙ output_parts more _ (ap (map (net_id (net.names ++ more))) (sym (outputs_more lines (line_with (output name)) name refl ∙ rw e refl)))
    output_adds false e p more is =
        ap (λ (q : Parts). record q { outputs = q.outputs ++ net_is ∷ [] }) is
        ∙ output_parts more _ (ap (λ (i : NetId). map (net_id (net.names ++ more)) (outputs_of lines) ++ i ∷ []) (sym (id_stays net.names more name (mentioned n g.nets name)))
        ∙ sym (ap (map (net_id (net.names ++ more))) (outputs_more lines (line_with (output name)) name refl ∙ rw e refl) ∙ map-append (net_id (net.names ++ more)) (outputs_of lines) (name ∷ [])))

    output_gathered : IsGathered (longer (output name)) (add_output g n name)
    output_gathered = record {
      marked = output_marked;
      cells = h.cells ∙ plus_none _ ∙ sym (cells_snoc lines (line_with (output name)));
      second = two_snoc lines (line_with (output name)) ∙ or_none (two_drivers lines) ∙ h.second;
      parts = λ e more.
          let fresh = grows n g.nets name in
          let names : g.nets.names ++ (fresh.0 ++ more) ≡ net.names ++ more = sym (append_assoc g.nets.names fresh.0 more) ∙ ap (λ (ns : List Name). ns ++ more) (sym fresh.1) in
          let before = h.parts e (fresh.0 ++ more) ∙ ap (λ (ns : List Name). parts_of ns lines) names in
          ap (λ b. cond b g.parts (record g.parts { outputs = g.parts.outputs ++ net_is ∷ [] })) is_given_now ∙ output_adds (is_one_of (outs_of lines) name) refl g.parts more before;
    }

  -- `out = DFF(from)`
  module _ (out from : Name) where
    abbrev first : NetMarks
    first = mention n g.nets out

    abbrev both : NetMarks
    both = mention n first from

    abbrev to : NetId
    to = net_id first.names out

    abbrev held : Latch
    held = record { from = net_id both.names from; to = to; start = false }

    out_there : is_one_of both.names out ≡ true
    out_there =
        let fresh = grows n first from in
        ap (λ (ns : List Name). is_one_of ns out) fresh.1 ∙ among_more first.names fresh.0 out (mentioned n g.nets out)

    latch_marked : IsMarked (visits_of lines ++ visits_in (line_with (latch out from))) (driven_of lines) (outs_of lines) both
    latch_marked =
        subst (λ (vs : List Visit). IsMarked vs (driven_of lines) (outs_of lines) both) (append_assoc (visits_of lines) ((out, n) ∷ []) ((from, n) ∷ []))
        (mention_marked (visits_of lines ++ (out, n) ∷ []) (driven_of lines) (outs_of lines) first
        (mention_marked (visits_of lines) (driven_of lines) (outs_of lines) g.nets h.marked n out) n from)

    latch_fresh : (more : List Name) × (both.names ≡ g.nets.names ++ more)
    latch_fresh =
        let a = grows n g.nets out in
        let b = grows n first from in
        (a.0 ++ b.0, b.1 ∙ ap (λ (ns : List Name). ns ++ b.0) a.1 ∙ append_assoc g.nets.names a.0 b.0)

    latch_equal : (a b c d : NetId) → a ≡ b → c ≡ d → made_latch a c ≡ made_latch b d
    latch_equal a b c d e f = rw (e, f) refl

    latch_adds : (more : List Name)
        → parts_by (map (net_id (both.names ++ more)) (inputs_of lines)) (map (net_id (both.names ++ more)) (outputs_of lines))
        (filter_map (λ (l : Said). table_on_line (both.names ++ more) l.says) lines) (map (net_id (both.names ++ more)) (table_nets_of lines))
        (filter_map (λ (l : Said). latch_on_line (both.names ++ more) l.says) lines ++ held ∷ []) (map (net_id (both.names ++ more)) (latch_nets_of lines) ++ to ∷ [])
        ≡ parts_of (both.names ++ more) (longer (latch out from))
    latch_adds more =
        let ns : List Name = both.names ++ more in
        let line : Said = line_with (latch out from) in
        let fresh = grows n first from in
        let to_is : to ≡ net_id ns out = id_later first.names both.names more out (mentioned n g.nets out) fresh.0 fresh.1 in
        let from_is : net_id both.names from ≡ net_id ns from = sym (id_stays both.names more from (mentioned n first from)) in
        parts_equal _ _ _ _ _ _ _ _ _ _ _ _
        (inputs_still ns lines line refl) (outputs_still ns lines line refl) (tables_same ns lines line refl) (table_nets_still ns lines line refl)
        (ap (λ (x : Latch). filter_map (λ (l : Said). latch_on_line ns l.says) lines ++ x ∷ []) (latch_equal _ _ _ _ from_is to_is) ∙ sym (made_snoc (latch_on_line ns) lines line))
        (ap (λ (i : NetId). map (net_id ns) (latch_nets_of lines) ++ i ∷ []) to_is ∙ sym (latch_nets_snoc ns lines line))

    latch_gathered : IsGathered (longer (latch out from)) (add_latch g n out from)
    latch_gathered =
        driver_gathered lines g h (line_with (latch out from)) (with_nets g both) out to (λ p. record p { latches = p.latches ++ held ∷ []; latch_nets = p.latch_nets ++ to ∷ [] })
        latch_marked out_there refl refl (h.cells ∙ plus_none _) refl refl
        (let fresh = grows n first from in sym (id_stays first.names fresh.0 out (mentioned n g.nets out)) ∙ ap (λ (ns : List Name). net_id ns out) (sym fresh.1))
        latch_fresh latch_adds

  -- `out = AND(ins)`, and likewise the other gates
  module _ (out : Name) (gate : GateRule) (ins : List Name) where
    abbrev head : NetMarks
    head = mention n g.nets out

    abbrev whole : NetMarks
    whole = mention_all n head ins

    abbrev ids : List NetId
    ids = ids_from n head ins

    abbrev made : Table
    made = gate_table gate ids

    abbrev driven : NetId
    driven = net_id head.names out

    abbrev counted : Gathered
    counted = record g { nets = whole; cells = g.cells + length made.rows * length made.ins }

    driven_there : is_one_of whole.names out ≡ true
    driven_there =
        let fresh = all_grows n head ins in
        ap (λ (ns : List Name). is_one_of ns out) fresh.1 ∙ among_more head.names fresh.0 out (mentioned n g.nets out)

    table_marked : IsMarked (visits_of lines ++ visits_in (line_with (table out gate ins))) (driven_of lines) (outs_of lines) whole
    table_marked =
        subst (λ (vs : List Visit). IsMarked vs (driven_of lines) (outs_of lines) whole) (append_assoc (visits_of lines) ((out, n) ∷ []) (visits_at n ins))
        (all_marked (visits_of lines ++ (out, n) ∷ []) (driven_of lines) (outs_of lines) head n ins
        (mention_marked (visits_of lines) (driven_of lines) (outs_of lines) g.nets h.marked n out))

    table_fresh : (more : List Name) × (whole.names ≡ g.nets.names ++ more)
    table_fresh =
        let a = grows n g.nets out in
        let b = all_grows n head ins in
        (a.0 ++ b.0, b.1 ∙ ap (λ (ns : List Name). ns ++ b.0) a.1 ∙ append_assoc g.nets.names a.0 b.0)

    table_cells : counted.cells ≡ sum_by cells_in lines + cells_at (table out gate ins)
    table_cells = ap (λ c. c + length (gate.rows (length ids)) * length ids) h.cells ∙ ap (λ k. sum_by cells_in lines + length (gate.rows k) * k) (length_ids n head ins)

    table_equal : (a b : List NetId) → a ≡ b → gate_table gate a ≡ gate_table gate b
    table_equal a b e = ap (gate_table gate) e

    table_is : (more : List Name) → made ≡ record { ins = map (net_id (whole.names ++ more)) ins; rows = gate.rows (length ins); on = gate.on }
    table_is more =
        table_equal ids (map (net_id (whole.names ++ more)) ins) (ids_all n head ins more)
        ∙ ap (λ k. record { ins = map (net_id (whole.names ++ more)) ins; rows = gate.rows k; on = gate.on }) (length-map ins (net_id (whole.names ++ more)))

    table_adds : (more : List Name)
        → parts_by (map (net_id (whole.names ++ more)) (inputs_of lines)) (map (net_id (whole.names ++ more)) (outputs_of lines))
        (filter_map (λ (l : Said). table_on_line (whole.names ++ more) l.says) lines ++ made ∷ []) (map (net_id (whole.names ++ more)) (table_nets_of lines) ++ driven ∷ [])
        (filter_map (λ (l : Said). latch_on_line (whole.names ++ more) l.says) lines) (map (net_id (whole.names ++ more)) (latch_nets_of lines))
        ≡ parts_of (whole.names ++ more) (longer (table out gate ins))
    table_adds more =
        let ns : List Name = whole.names ++ more in
        let line : Said = line_with (table out gate ins) in
        let fresh = all_grows n head ins in
        let driven_is : driven ≡ net_id ns out = id_later head.names whole.names more out (mentioned n g.nets out) fresh.0 fresh.1 in
        parts_equal _ _ _ _ _ _ _ _ _ _ _ _
        (inputs_still ns lines line refl) (outputs_still ns lines line refl)
        (ap (λ (x : Table). filter_map (λ (l : Said). table_on_line ns l.says) lines ++ x ∷ []) (table_is more) ∙ sym (made_snoc (table_on_line ns) lines line))
        (ap (λ (i : NetId). map (net_id ns) (table_nets_of lines) ++ i ∷ []) driven_is ∙ sym (table_nets_snoc ns lines line))
        (latches_same ns lines line refl) (latch_nets_still ns lines line refl)

    table_gathered : IsGathered (longer (table out gate ins)) (add_table g n out gate ins)
    table_gathered =
        driver_gathered lines g h (line_with (table out gate ins)) counted out driven (λ p. record p { tables = p.tables ++ made ∷ []; table_nets = p.table_nets ++ driven ∷ [] })
        table_marked driven_there refl refl table_cells refl refl
        (let fresh = all_grows n head ins in sym (id_stays head.names fresh.0 out (mentioned n g.nets out)) ∙ ap (λ (ns : List Name). net_id ns out) (sym fresh.1))
        table_fresh table_adds

  -- a line that names nothing
  module _ (says : Statement) (visits : nets_at says ≡ []) (drives : drives_at says ≡ []) (gives : output_at says ≡ []) (cells : cells_at says ≡ 0)
      (takes : input_at says ≡ []) (tables : (nets : List Name) → table_on_line nets says ≡ None) (table_nets : table_net says ≡ [])
      (latches : (nets : List Name) → latch_on_line nets says ≡ None) (latch_nets : latch_net says ≡ []) where
    none_made : {Y : Type 0} (o : Option Y) → o ≡ None → cons_option o [] ≡ []
    none_made None e = refl
    none_made (Some y) e = cc

    idle_marked : IsMarked (visits_of (longer says)) (driven_of (longer says)) (outs_of (longer says)) g.nets
    idle_marked =
        let line : Said = line_with says in
        let all : List Said = longer says in
        let v : visits_of lines ≡ visits_of all = sym (visits_snoc lines line ∙ ap (λ (names : List Name). visits_of lines ++ visits_at n names) visits ∙ append-nil (visits_of lines)) in
        let d : driven_of lines ≡ driven_of all = sym (driven_snoc lines line ∙ ap (λ (names : List Name). driven_of lines ++ names) drives ∙ append-nil (driven_of lines)) in
        let o : outs_of lines ≡ outs_of all = sym (outs_snoc lines line ∙ ap (λ (names : List Name). outs_of lines ++ names) gives ∙ append-nil (outs_of lines)) in
        subst (λ (vs : List Visit). IsMarked vs (driven_of all) (outs_of all) g.nets) v
        (subst (λ (ds : List Name). IsMarked (visits_of lines) ds (outs_of all) g.nets) d (subst (λ (os : List Name). IsMarked (visits_of lines) (driven_of lines) os g.nets) o h.marked))

    idle_parts : (ns : List Name) → parts_of ns lines ≡ parts_of ns (longer says)
    idle_parts ns =
        let line : Said = line_with says in
        parts_equal _ _ _ _ _ _ _ _ _ _ _ _
        (inputs_still ns lines line takes) (outputs_still ns lines line gives) (tables_same ns lines line (none_made (table_on_line ns says) (tables ns))) (table_nets_still ns lines line table_nets)
        (latches_same ns lines line (none_made (latch_on_line ns says) (latches ns))) (latch_nets_still ns lines line latch_nets)

    idle_gathered : IsGathered (longer says) g
    idle_gathered = record {
      marked = idle_marked;
      cells = h.cells ∙ plus_none _ ∙ sym (cells_snoc lines (line_with says) ∙ ap (λ c. sum_by cells_in lines + c) cells);
      second = two_snoc lines (line_with says)
          ∙ ap (λ (names : List Name). option_or (two_drivers lines) (given (list_any (is_one_of (driven_of lines)) names) (at_line n TwoDrivers))) drives ∙ or_none (two_drivers lines) ∙ h.second;
      parts = λ e more. h.parts e more ∙ idle_parts (g.nets.names ++ more);
    }

  pub statement_gathered : (says : Statement) → IsGathered (longer says) (add_statement g n says)
  statement_gathered (input name) = input_gathered name
  statement_gathered (output name) = output_gathered name
  statement_gathered (latch out from) = latch_gathered out from
  statement_gathered (table out gate ins) = table_gathered out gate ins
  statement_gathered nothing = idle_gathered nothing refl refl refl refl refl (λ nets. refl) refl (λ nets. refl) refl
  statement_gathered (wrong kind) = idle_gathered (wrong kind) refl refl refl refl refl (λ nets. refl) refl (λ nets. refl) refl

-- ---- all lines

names_of_line : (n : ℕ) (names : List Name) → names_of (visits_at n names) ≡ names
names_of_line n [] = refl
names_of_line n (name ∷ names) = ap (λ (more : List Name). name ∷ more) (names_of_line n names)

pub names_visited : (lines : List Said) → names_of (visits_of lines) ≡ flat_map (λ (line : Said). nets_at line.says) lines
names_visited [] = refl
names_visited (line ∷ lines) =
    map-append (λ (v : Visit). v.0) (visits_in line) (visits_of lines)
    ∙ ap (λ (names : List Name). names ++ names_of (visits_of lines)) (names_of_line line.number (nets_at line.says))
    ∙ ap (λ (names : List Name). nets_at line.says ++ names) (names_visited lines)

pub nets_gathered : (lines : List Said) (g : Gathered) → IsGathered lines g → g.nets.names ≡ nets_of lines
unfolding nets_of
nets_gathered lines g h = h.marked.names ∙ ap distinct (names_visited lines)

-- there are too many nets or cells
abbrev pub is_large : List Said → Bool
is_large lines = nat_lt (2 ^ 18) (length (nets_of lines)) || nat_lt (2 ^ 24) (sum_by cells_in lines)

pub full_large : (lines : List Said) (g : Gathered) → IsGathered lines g → is_large lines ≡ is_full g
full_large lines g h = rw (sym (nets_gathered lines g h), sym h.cells) refl

pub too_large_is : (lines : List Said) (b : Bool) → is_large lines ≡ b → too_large lines ≡ given b (at_line 1 TooLarge)
unfolding too_large
too_large_is lines b e = ap (λ (t : Bool). given t (at_line 1 TooLarge)) e

nets_grow : (lines more : List Said) → length (nets_of lines) ≤ length (nets_of (lines ++ more))
unfolding nets_of
nets_grow lines more =
    let xs : List Name = flat_map (λ (line : Said). nets_at line.says) lines in
    let ys : List Name = flat_map (λ (line : Said). nets_at line.says) more in
    let all : flat_map (λ (line : Said). nets_at line.says) (lines ++ more) ≡ xs ++ ys = flat_map-append (λ (line : Said). nets_at line.says) lines more in
    let few = no_more (distinct xs) (distinct (xs ++ ys)) (distinct-apart xs)
    (λ name e. distinct-found (xs ++ ys) name ∙ among_more xs ys name (sym (distinct-found xs name) ∙ e)) in
    let same = ap (λ (names : List Name). length (distinct names)) all in
    omega arith

-- and so there are with more lines
large_more : (lines more : List Said) → is_large lines ≡ true → is_large (lines ++ more) ≡ true
large_more lines more e = elim (or_cases (nat_lt (2 ^ 18) (length (nets_of lines))) (nat_lt (2 ^ 24) (sum_by cells_in lines)) e) as (λ _. is_large (lines ++ more) ≡ true) [
  | inl nets ↦
      let many = ltb-true (2 ^ 18) (length (nets_of lines)) nets in
      let grown = nets_grow lines more in
      or_left (nat_lt (2 ^ 18) (length (nets_of (lines ++ more)))) _ (lt-ltb (2 ^ 18) (length (nets_of (lines ++ more))) (omega arith))
  | inr cells ↦
      let many = ltb-true (2 ^ 24) (sum_by cells_in lines) cells in
      let grown = sum_by-append cells_in lines more in
      or_second (nat_lt (2 ^ 18) (length (nets_of (lines ++ more)))) _ (lt-ltb (2 ^ 24) (sum_by cells_in (lines ++ more)) (omega arith))
]

-- nothing is added any more
stays_full : (g : Gathered) (lines : List Said) → is_full g ≡ true → fold add_said g lines ≡ g
stays_full g [] e = refl
stays_full g (line ∷ lines) e =
    let same : add_said g line ≡ g = rw e refl in
    ap (λ (h : Gathered). fold add_said h lines) same ∙ stays_full g lines e

-- all lines are gathered, or too many nets or cells
abbrev pub Outcome : List Said → Gathered → Type 0
Outcome lines g = IsGathered lines g ⊎ ((is_full g ≡ true) × (is_large lines ≡ true))

gathered_told : (done rest : List Said) (g : Gathered) → IsGathered done g → Outcome (done ++ rest) (fold add_said g rest)
gathered_told done [] g h = inl (subst (λ (ls : List Said). IsGathered ls g) (sym (append-nil done)) h)
gathered_told done (line ∷ rest) g h =
    by_cases (is_full g) refl
    (subst (λ (ls : List Said). Outcome ls (fold add_said (add_statement g line.number line.says) rest)) (append_assoc done (line ∷ []) rest)
    (gathered_told (done ++ line ∷ []) rest (add_statement g line.number line.says) (statement_gathered done g h line.number line.wide line.says)))
  where
    by_cases : (b : Bool) → is_full g ≡ b → Outcome (done ++ (line ∷ rest)) (fold add_said (add_statement g line.number line.says) rest)
        → Outcome (done ++ (line ∷ rest)) (fold add_said (add_said g line) rest)
    by_cases false e more = let same : add_said g line ≡ add_statement g line.number line.says = rw e refl in subst (λ (k : Gathered). Outcome (done ++ (line ∷ rest)) (fold add_said k rest)) (sym same) more
    by_cases true e more =
        let same = stays_full g (line ∷ rest) e in
        inr (subst (λ (k : Gathered). is_full k ≡ true) (sym same) e, large_more done (line ∷ rest) (full_large done g h ∙ e))

no_parts_of : (more : List Name) → parts_by [] [] [] [] [] [] ≡ parts_of more []
unfolding inputs_of outputs_of table_nets_of latch_nets_of firsts
no_parts_of more = refl

nothing_marked : IsMarked [] [] [] no_nets
unfolding firsts
nothing_marked = record {
  names = refl;
  size = refl;
  each = λ name e. clash name e;
  driven_in = λ name e. e;
  outs_in = λ name e. e;
}
  where
    clash : (name : Name) → false ≡ true → get_or no_nets.marks (place no_nets.names name) blank ≡ mark_of [] [] [] name
    clash name e = cc

nothing_gathered : IsGathered [] no_lines
unfolding driven_of two_drivers first_after
nothing_gathered = record { marked = nothing_marked; cells = refl; second = refl; parts = λ e more. no_parts_of more }

pub lines_gathered : (lines : List Said) → Outcome lines (gathered_from no_lines lines)
lines_gathered lines = gathered_told [] lines no_lines nothing_gathered
