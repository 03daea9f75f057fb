-- Stuck-at faults that are equal by structure, in small circuits: each is computed.
use Rattle.std.specs.Prelude.{◌≡◌, ℕ, ◌*◌, Bool, true, false, List, [], ◌∷◌, length, map, refl, Option, Some, None}
use Rattle.circuit.specs.declared.parts.Driver.{Driver}
use Rattle.circuit.specs.declared.parts.Driver.TheVariants.{Input, Table as FromTable, Latch as FromLatch}
use Rattle.circuit.specs.declared.parts.Fault.TheVariants.{Stuck}
use Rattle.circuit.specs.declared.parts.Lit.{Lit}
use Rattle.circuit.specs.declared.parts.Lit.TheVariants.{Zero, One, Any}
use Rattle.circuit.specs.declared.parts.NetId.{NetId}
use Rattle.circuit.specs.declared.parts.Table.{Table}
use Rattle.circuit.specs.declared.parts.Latch.{Latch}
use Rattle.circuit.specs.Circuit.{Circuit}
use Rattle.circuit.specs.Trace.{trace}
use Rattle.fault_list.specs.Faults.{faults_of}
use Rattle.fm_base.specs.Lists.{below}
use Rattle.alarm_points.specs.declared.Points.{Points}
use Rattle.collapse_map.specs.Fixed.{fixed_value}
use Rattle.collapse_map.specs.Collapsed.{rep_count, rep_of, watched}
use Rattle.test_definitions.specs.Opened.{opened}

-- the net of a number
abbrev net : ℕ → NetId
net n = record { 0 = n }

abbrev nets : List ℕ → List NetId
nets ns = map net ns

-- a table whose rows give 1
abbrev table : List ℕ → List (List Lit) → Table
table ins rows = record { ins = nets ins; rows = rows; on = true }

-- a table whose rows give 0
abbrev table_off : List ℕ → List (List Lit) → Table
table_off ins rows = record { ins = nets ins; rows = rows; on = false }

-- a circuit by its drivers, tables and latches; the names of its nets are no matter
abbrev circuit : List Driver → List Table → List Latch → Circuit
circuit drivers tables latches = record { names = []; drivers = drivers; tables = tables; latches = latches; inputs = []; outputs = [] }

-- the points: these nets observed, and these alarm nets
abbrev points_at : List ℕ → List ℕ → Points
points_at observe alarm = record { goals = record { name = []; ftti = None; observe = nets observe } ∷ []; alarm = nets alarm }

-- the numbers of the representatives of all stuck-at faults: of net n stuck at v it is 2n + v
reps : Circuit → Points → List ℕ
unfolding opened
reps c points = map (rep_of (record { circuit = c; faults = faults_of c [] []; watched = watched points })) (below (length c.drivers * 2))

count : Circuit → Points → ℕ
unfolding opened
count c points = rep_count (record { circuit = c; faults = faults_of c [] []; watched = watched points })

-- ---- one table

-- what 0 and 1 fix at each place of a table with two inputs
abbrev fixes : Table → List (Option Bool)
fixes t = fixed_value t 0 false ∷ fixed_value t 0 true ∷ fixed_value t 1 false ∷ fixed_value t 1 true ∷ []

both : List (List Lit)
both = (One ∷ One ∷ []) ∷ []

neither : List (List Lit)
neither = (Zero ∷ Zero ∷ []) ∷ []

unequal : List (List Lit)
unequal = (One ∷ Zero ∷ []) ∷ (Zero ∷ One ∷ []) ∷ []

-- AND and NAND are fixed by a 0, OR and NOR by a 1, and an exclusive OR by none
fixes-gates : (fixes (table (0 ∷ 1 ∷ []) both) ≡ Some false ∷ None ∷ Some false ∷ None ∷ [])
    × (fixes (table_off (0 ∷ 1 ∷ []) both) ≡ Some true ∷ None ∷ Some true ∷ None ∷ [])
    × (fixes (table_off (0 ∷ 1 ∷ []) neither) ≡ None ∷ Some true ∷ None ∷ Some true ∷ [])
    × (fixes (table (0 ∷ 1 ∷ []) neither) ≡ None ∷ Some false ∷ None ∷ Some false ∷ [])
    × (fixes (table (0 ∷ 1 ∷ []) unequal) ≡ None ∷ None ∷ None ∷ None ∷ [])
unfolding opened both neither unequal
fixes-gates = (refl, refl, refl, refl, refl)

-- an OR in rows with dashes: a 1 alone makes its row match
fixes-dashes : fixes (table (0 ∷ 1 ∷ []) ((One ∷ Any ∷ []) ∷ (Any ∷ One ∷ []) ∷ [])) ≡ None ∷ Some true ∷ None ∷ Some true ∷ []
unfolding opened
fixes-dashes = refl

-- an input that no row asks about fixes nothing, and of the other one both values do
fixes-unasked : fixes (table (0 ∷ 1 ∷ []) ((Any ∷ One ∷ []) ∷ [])) ≡ None ∷ None ∷ Some false ∷ Some true ∷ []
unfolding opened
fixes-unasked = refl

-- a row of dashes makes the table always 1
fixes-constant : fixes (table (0 ∷ 1 ∷ []) ((Any ∷ Any ∷ []) ∷ [])) ≡ Some true ∷ Some true ∷ Some true ∷ Some true ∷ []
unfolding opened
fixes-constant = refl

-- a table without rows is always 0
fixes-empty : fixes (table (0 ∷ 1 ∷ []) []) ≡ Some false ∷ Some false ∷ Some false ∷ Some false ∷ []
unfolding opened
fixes-empty = refl

-- two rows, one of which a 1 makes match and the other it stops: the one decides
fixes-either : fixes (table (0 ∷ 1 ∷ []) ((One ∷ Any ∷ []) ∷ (Zero ∷ One ∷ []) ∷ [])) ≡ None ∷ Some true ∷ None ∷ None ∷ []
unfolding opened
fixes-either = refl

-- an inverter and a buffer are fixed by both
fixes-one : (fixed_value (table (0 ∷ []) ((Zero ∷ []) ∷ [])) 0 false ≡ Some true) × (fixed_value (table (0 ∷ []) ((Zero ∷ []) ∷ [])) 0 true ≡ Some false)
    × (fixed_value (table (0 ∷ []) ((One ∷ []) ∷ [])) 0 false ≡ Some false) × (fixed_value (table (0 ∷ []) ((One ∷ []) ∷ [])) 0 true ≡ Some true)
unfolding opened
fixes-one = (refl, refl, refl, refl)

-- ---- small circuits; net 0 is a, net 1 is b

-- nets a, b, z, y: y = AND(a, b), z = NOT(y)
and_not : Circuit
and_not = circuit (Input 0 ∷ Input 1 ∷ FromTable 1 ∷ FromTable 0 ∷ []) (table (0 ∷ 1 ∷ []) ((One ∷ One ∷ []) ∷ []) ∷ table (3 ∷ []) ((Zero ∷ []) ∷ []) ∷ []) []

-- with z observed: a/0, b/0 and y/0 are z/1, and y/1 is z/0
reps-and_not : (reps and_not (points_at (2 ∷ []) []) ≡ 5 ∷ 1 ∷ 5 ∷ 3 ∷ 4 ∷ 5 ∷ 5 ∷ 4 ∷ []) × (count and_not (points_at (2 ∷ []) []) ≡ 4)
unfolding reps count and_not opened
reps-and_not = (refl, refl)

-- with y observed too, a/0 and b/0 are y/0 and no more
reps-observed : (reps and_not (points_at (2 ∷ 3 ∷ []) []) ≡ 6 ∷ 1 ∷ 6 ∷ 3 ∷ 4 ∷ 5 ∷ 6 ∷ 7 ∷ []) × (count and_not (points_at (2 ∷ 3 ∷ []) []) ≡ 6)
unfolding reps count and_not opened
reps-observed = (refl, refl)

-- an alarm net is watched likewise
reps-alarm : reps and_not (points_at (2 ∷ []) (3 ∷ [])) ≡ 6 ∷ 1 ∷ 6 ∷ 3 ∷ 4 ∷ 5 ∷ 6 ∷ 7 ∷ []
unfolding reps and_not opened
reps-alarm = refl

-- an output that is no point isn't watched: with y alone observed z/0 and z/1 are read by nothing and stay
reps-unread : reps and_not (points_at (3 ∷ []) []) ≡ 6 ∷ 1 ∷ 6 ∷ 3 ∷ 4 ∷ 5 ∷ 6 ∷ 7 ∷ []
unfolding reps and_not opened
reps-unread = refl

-- the duplicated AND: two tables read a and b, y and al are watched, and a value of z fixes nothing
dup : Circuit
dup = circuit (Input 0 ∷ Input 1 ∷ FromTable 0 ∷ FromTable 2 ∷ FromTable 1 ∷ [])
    (table (0 ∷ 1 ∷ []) ((One ∷ One ∷ []) ∷ []) ∷ table (0 ∷ 1 ∷ []) ((One ∷ One ∷ []) ∷ []) ∷ table (2 ∷ 4 ∷ []) ((One ∷ Zero ∷ []) ∷ (Zero ∷ One ∷ []) ∷ []) ∷ []) []

reps-dup : (reps dup (points_at (2 ∷ []) (3 ∷ [])) ≡ below 10) × (count dup (points_at (2 ∷ []) (3 ∷ [])) ≡ 10)
unfolding reps count dup opened
reps-dup = (refl, refl)

-- two readers: a drives two inverters
two_readers : Circuit
two_readers = circuit (Input 0 ∷ FromTable 0 ∷ FromTable 1 ∷ []) (table (0 ∷ []) ((Zero ∷ []) ∷ []) ∷ table (0 ∷ []) ((Zero ∷ []) ∷ []) ∷ []) []

reps-two_readers : reps two_readers (points_at (1 ∷ []) []) ≡ 0 ∷ 1 ∷ 2 ∷ 3 ∷ 4 ∷ 5 ∷ []
unfolding reps two_readers opened
reps-two_readers = refl

-- a reader that reads twice: y = AND(a, a)
reads_twice : Circuit
reads_twice = circuit (Input 0 ∷ FromTable 0 ∷ []) (table (0 ∷ 0 ∷ []) ((One ∷ One ∷ []) ∷ []) ∷ []) []

reps-reads_twice : reps reads_twice (points_at (1 ∷ []) []) ≡ 0 ∷ 1 ∷ 2 ∷ 3 ∷ []
unfolding reps reads_twice opened
reps-reads_twice = refl

-- a latch reads y beside a table: y = NOT(a), z = NOT(y), q = DFF(y)
latch_reads : Circuit
latch_reads = circuit (Input 0 ∷ FromTable 0 ∷ FromTable 1 ∷ FromLatch 0 ∷ []) (table (0 ∷ []) ((Zero ∷ []) ∷ []) ∷ table (1 ∷ []) ((Zero ∷ []) ∷ []) ∷ [])
    (record { from = net 1; to = net 3; start = false } ∷ [])

reps-latch_reads : reps latch_reads (points_at (2 ∷ []) []) ≡ 3 ∷ 2 ∷ 2 ∷ 3 ∷ 4 ∷ 5 ∷ 6 ∷ 7 ∷ []
unfolding reps latch_reads opened
reps-latch_reads = refl

-- the net of a latch is like any other in front of a table, and no fault goes through the latch: d, q = DFF(d), z = NOT(q)
latch_drives : Circuit
latch_drives = circuit (Input 0 ∷ FromLatch 0 ∷ FromTable 0 ∷ []) (table (1 ∷ []) ((Zero ∷ []) ∷ []) ∷ []) (record { from = net 0; to = net 1; start = false } ∷ [])

reps-latch_drives : reps latch_drives (points_at (2 ∷ []) []) ≡ 0 ∷ 1 ∷ 5 ∷ 4 ∷ 4 ∷ 5 ∷ []
unfolding reps latch_drives opened
reps-latch_drives = refl

-- a table without rows: both values of a are y/0
without_rows : Circuit
without_rows = circuit (Input 0 ∷ FromTable 0 ∷ []) (table (0 ∷ []) [] ∷ []) []

reps-without_rows : reps without_rows (points_at (1 ∷ []) []) ≡ 2 ∷ 2 ∷ 2 ∷ 3 ∷ []
unfolding reps without_rows opened
reps-without_rows = refl

-- the table's own net stuck: y/1 stays beside a/0, which is y/0
reps-own : reps (circuit (Input 0 ∷ Input 1 ∷ FromTable 0 ∷ []) (table (0 ∷ 1 ∷ []) ((One ∷ One ∷ []) ∷ []) ∷ []) []) (points_at (2 ∷ []) []) ≡ 4 ∷ 1 ∷ 4 ∷ 3 ∷ 4 ∷ 5 ∷ []
unfolding reps opened
reps-own = refl

-- flips and pulses stand for themselves: with a flip and a pulse in cycle 0 they have the numbers 6, and 7 to 9
with_others : Circuit → Points → List ℕ
unfolding opened
with_others c points =
    let faults = faults_of c (0 ∷ []) (0 ∷ []) in
    map (rep_of (record { circuit = c; faults = faults; watched = watched points })) (below (length faults))

reps-others : with_others latch_drives (points_at (2 ∷ []) []) ≡ 0 ∷ 1 ∷ 5 ∷ 4 ∷ 4 ∷ 5 ∷ 6 ∷ 7 ∷ 8 ∷ 9 ∷ []
unfolding with_others latch_drives opened
reps-others = refl

-- a chain of k + 1 nets, the last of which is observed: nets 0 to k in order
chain : ℕ → Circuit
unfolding opened
chain k = circuit (Input 0 ∷ map FromTable (below k)) (map (λ i. table (i ∷ []) ((One ∷ []) ∷ [])) (below k)) []

-- of 33 nets all faults are those of the last one
chain-count : count (chain 32) (points_at (32 ∷ []) []) ≡ 2
unfolding count chain opened
chain-count = refl

chain-reps : reps (chain 3) (points_at (3 ∷ []) []) ≡ 6 ∷ 7 ∷ 6 ∷ 7 ∷ 6 ∷ 7 ∷ 6 ∷ 7 ∷ []
unfolding reps chain opened
chain-reps = refl

-- ---- two faults at once

-- y = BUFF(a), with y observed
buffer : Circuit
buffer = circuit (Input 0 ∷ FromTable 0 ∷ []) (table (0 ∷ []) ((One ∷ []) ∷ []) ∷ []) []

-- a/0 is y/0, but beside y/1 it doesn't do what y/0 does: of two faults on y the first decides
alone_only : (reps buffer (points_at (1 ∷ []) []) ≡ 2 ∷ 3 ∷ 2 ∷ 3 ∷ [])
    × (trace buffer (Stuck (net 0) false ∷ Stuck (net 1) true ∷ []) ((true ∷ []) ∷ []) 0 1 ≡ true)
    × (trace buffer (Stuck (net 1) false ∷ Stuck (net 1) true ∷ []) ((true ∷ []) ∷ []) 0 1 ≡ false)
unfolding reps buffer opened
alone_only = (refl, refl, refl)
