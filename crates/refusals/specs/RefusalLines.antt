-- The line of each refusal. FILE is the name as the words give it.
use Rattle.std.specs.Prelude.{ℕ, ◌&&◌, List, [], ◌∷◌, ◌++◌, map, take, if◌then◌else◌, nat_le, ◌==◌, codes, decimal}
use Rattle.std.specs.List.{before_first}
use Rattle.circuit.specs.Circuit.{Circuit}
use Rattle.circuit.specs.Names.{net_name}
use Rattle.bench_reader.specs.declared.BenchKind.{BenchKind}
use Rattle.bench_reader.specs.declared.BenchKind.TheVariants as bench
use Rattle.blif_text.specs.declared.NetlistKind.{NetlistKind}
use Rattle.blif_text.specs.declared.NetlistKind.TheVariants as netlist
use Rattle.workload.specs.declared.file.WorkloadKind.{WorkloadKind}
use Rattle.workload.specs.declared.file.WorkloadKind.TheVariants as workload
use Rattle.rate_table.specs.declared.RatesKind.{RatesKind}
use Rattle.rate_table.specs.declared.RatesKind.TheVariants as rates
use Rattle.alarm_points.specs.declared.PointsKind.{PointsKind}
use Rattle.alarm_points.specs.declared.PointsKind.TheVariants as points
use Rattle.held_inputs.specs.declared.HeldKind.{HeldKind}
use Rattle.held_inputs.specs.declared.HeldKind.TheVariants as held
use Rattle.claim_search.specs.declared.hypotheses.Contradiction.TheVariants as contradiction
use Rattle.campaign_plan.specs.declared.Outcome.{Outcome}
use Rattle.campaign_plan.specs.declared.PlanRefusal.{PlanRefusal}
use Rattle.campaign_plan.specs.declared.PlanRefusal.TheVariants as plan
use Rattle.result_file.specs.declared.ResultRefusal.TheVariants.{Foreign, BadRow}
use Rattle.result_file.specs.declared.RowFault.{RowFault}
use Rattle.result_file.specs.declared.RowFault.TheVariants.{Form, Range, Repeated, UnusedLane, Sums}
use Rattle.result_file.specs.ResultText.{sums_words}
use Rattle.result_merge.specs.declared.merge.MergeRefusal.TheVariants.{Differs}
use Rattle.pair_list.specs.declared.pairs.PairRefusal.TheVariants.{Incomplete, TooMany}
use Rattle.fm_base.specs.Text.{line, hex}
use Rattle.refusals.specs.declared.status.Status.{Status}
use Rattle.refusals.specs.declared.status.Status.TheVariants as status
use Rattle.commands.specs.declared.command.Which.{Which}
use Rattle.commands.specs.declared.command.Which.TheVariants as which
use Rattle.std.specs.Str.{byte}
use Rattle.fm_base.specs.Names.{Bytes}

-- the word of each kind of refusal of a BLIF file; behind Undriven stands the net's name
abbrev pub netlist_kind : NetlistKind → Bytes
netlist_kind netlist.NoModel = codes "NoModel"
netlist_kind netlist.BadToken = codes "BadToken"
netlist_kind netlist.Directive = codes "Directive"
netlist_kind netlist.BadRow = codes "BadRow"
netlist_kind netlist.MixedPlane = codes "MixedPlane"
netlist_kind netlist.BadLatch = codes "BadLatch"
netlist_kind netlist.LevelLatch = codes "LevelLatch"
netlist_kind netlist.TooWide = codes "TooWide"
netlist_kind netlist.TwoModels = codes "TwoModels"
netlist_kind netlist.UnknownModel = codes "UnknownModel"
netlist_kind netlist.BadFormal = codes "BadFormal"
netlist_kind netlist.Unbound = codes "Unbound"
netlist_kind netlist.Recursive = codes "Recursive"
netlist_kind netlist.TooDeep = codes "TooDeep"
netlist_kind netlist.TooLarge = codes "TooLarge"
netlist_kind netlist.TwoClocks = codes "TwoClocks"
netlist_kind netlist.BadClock = codes "BadClock"
netlist_kind netlist.ClockRead = codes "ClockRead"
netlist_kind netlist.TwoDrivers = codes "TwoDrivers"
netlist_kind (netlist.Undriven net) = codes "Undriven " ++ net

-- the word of each kind of refusal of a `.bench` file, likewise
abbrev pub bench_kind : BenchKind → Bytes
bench_kind bench.BadLine = codes "BadLine"
bench_kind bench.BadGate = codes "BadGate"
bench_kind bench.BadCount = codes "BadCount"
bench_kind bench.TooWide = codes "TooWide"
bench_kind bench.TooLarge = codes "TooLarge"
bench_kind bench.TwoDrivers = codes "TwoDrivers"
bench_kind (bench.Undriven net) = codes "Undriven " ++ net

-- the word of each kind of workload refusal
abbrev pub workload_kind : WorkloadKind → Bytes
workload_kind workload.BadCsv = codes "BadCsv"
workload_kind workload.BadColumn = codes "BadColumn"
workload_kind workload.MissingInput = codes "MissingInput"
workload_kind workload.SplitName = codes "SplitName"
workload_kind workload.BadKind = codes "BadKind"
workload_kind workload.BadBit = codes "BadBit"
workload_kind workload.TooLarge = codes "TooLarge"
workload_kind workload.Empty = codes "Empty"

-- the word of each kind of rates refusal
abbrev pub rates_kind : RatesKind → Bytes
rates_kind rates.BadCsv = codes "BadCsv"
rates_kind rates.BadPart = codes "BadPart"
rates_kind rates.BadRole = codes "BadRole"
rates_kind rates.BadCovered = codes "BadCovered"
rates_kind rates.BadRate = codes "BadRate"
rates_kind rates.TwoMeanings = codes "TwoMeanings"
rates_kind rates.TooLarge = codes "TooLarge"

-- the word of each kind of points refusal
abbrev pub points_kind : PointsKind → Bytes
points_kind points.BadCsv = codes "BadCsv"
points_kind points.BadKind = codes "BadKind"
points_kind points.UnknownNet = codes "UnknownNet"
points_kind points.Twice = codes "Twice"
points_kind points.TooLarge = codes "TooLarge"
points_kind points.NoObserve = codes "NoObserve"
points_kind points.BadGoal = codes "BadGoal"
points_kind points.BadInterval = codes "BadInterval"

-- the word of each kind of held refusal
abbrev pub held_kind : HeldKind → Bytes
held_kind held.BadCsv = codes "BadCsv"
held_kind held.UnknownInput = codes "UnknownInput"
held_kind held.Twice = codes "Twice"
held_kind held.TooLarge = codes "TooLarge"
held_kind held.BadFrom = codes "BadFrom"
held_kind held.BadBefore = codes "BadBefore"
held_kind held.NoCycleBefore = codes "NoCycleBefore"
held_kind held.BadValue = codes "BadValue"

-- why a row of the result file is refused; the kept and the computed sums follow
abbrev pub row_why : RowFault → List Bytes
row_why w = codes (elim w [ Form ↦ "Form" | Range ↦ "Range" | Repeated ↦ "Repeated" | UnusedLane ↦ "UnusedLane" | Sums _ _ ↦ "Sums kept" ])
    ∷ elim w [ Sums kept computed ↦ sums_words kept ++ codes "computed" ∷ sums_words computed | _ ↦ [] ]

-- the line of what makes no plan, by the words before a net that has no rate, and by those behind a part that has an idle one
abbrev pub plan_line : (no_rate has_rate : Bytes) → PlanRefusal → Bytes
plan_line no_rate has_rate cause = elim cause [
  | plan.MissingRate net name ↦ line (codes "refused:" ∷ no_rate ∷ name ∷ [])
  | plan.IdleRate part permanent ↦ line (codes "refused:" ∷ codes "part" ∷ part ∷ has_rate
      ∷ (if permanent then codes "permanent" else codes "transient") ∷ codes "rate and no such fault" ∷ [])
  | plan.TooManyFaults ↦ codes "refused: more than 1048576 faults\n"
  | plan.Memory no_room ↦ codes "refused: out of memory\n"
]

-- the line of a refusal, where the files have these names and the netlist is this circuit; no line after Done, nor for a fault of `out`
unfoldable pub refusal_line : (Which → Bytes) → Circuit → Status → Bytes
refusal_line file c ended =
    -- two planes behind a word; and how a file begins, up to a line feed or 88 bytes, with `?` for what isn't from space to `~`
    let both : Bytes → Outcome → List Bytes = λ word planes. word ∷ hex 16 planes.danger ∷ hex 16 planes.noticed ∷ [] in
    let head = λ (t : Bytes). map (λ b. if nat_le 32 b && nat_le b 126 then b else byte "?") (take 88 (before_first (λ b. b == 10) t)) in
    elim ended [
      | status.Usage ↦ codes "refused: usage\n"
      | status.Netlist fault ↦ line (codes "refused: netlist line" ∷ decimal fault.line ∷ netlist_kind fault.kind ∷ [])
      | status.Bench fault ↦ line (codes "refused: bench line" ∷ decimal fault.line ∷ bench_kind fault.kind ∷ [])
      | status.Loop walk ↦ line (codes "refused:" ∷ codes "loop" ∷ map (λ net. net_name c net.0) walk)
      | status.Rates fault ↦ line (codes "refused: rates row" ∷ decimal fault.row ∷ rates_kind fault.kind ∷ [])
      | status.NewRates fault ↦ line (codes "refused: new rates row" ∷ decimal fault.row ∷ rates_kind fault.kind ∷ [])
      | status.Points fault ↦ line (codes "refused: points row" ∷ decimal fault.row ∷ points_kind fault.kind ∷ [])
      | status.Held fault ↦ line (codes "refused: held row" ∷ decimal fault.row ∷ held_kind fault.kind ∷ [])
      | status.Workload fault ↦ line (codes "refused: workload row" ∷ decimal fault.row ∷ workload_kind fault.kind ∷ [])
      | status.Plan cause ↦ plan_line (codes "no rate for net") (codes "has a") cause
      | status.NewPlan cause ↦ plan_line (codes "no new rate for net") (codes "has a new") cause
      | status.ManyOutputs ↦ codes "refused: more than 1024 outputs\n"
      | status.TooLong which ↦ line (codes "refused:" ∷ file which ∷ codes "is longer than 67108864 bytes" ∷ [])
      | status.Result (Foreign it own) ↦ line (codes "refused: foreign result file, found" ∷ (head it ++ codes ",") ∷ codes "own" ∷ take 88 own ∷ [])
      | status.Result (BadRow number why) ↦ line (codes "refused: result row" ∷ decimal number ∷ row_why why)
      | status.Disagrees row ↦ line (codes "refused: batch" ∷ decimal row.batch ∷ both (codes "kept") row.kept ++ both (codes "computed") row.computed)
      | status.Merge (Differs n one two) ↦ line (codes "refused: batch" ∷ decimal n ∷ both (codes "first") one ++ both (codes "second") two)
      | status.Pairs (Incomplete n all) ↦ line (codes "refused: result file has" ∷ decimal n ∷ codes "of" ∷ decimal all ∷ codes "batches" ∷ [])
      | status.Pairs TooMany ↦ codes "refused: more than 1048576 pairs\n"
      | status.NoRun ↦ codes "refused: no such run\n"
      | status.NoFault ↦ codes "refused: no such fault\n"
      | status.NoNet ↦ codes "refused: no such net\n"
      | status.NoAlarm ↦ codes "refused: no alarm point\n"
      | status.LongWindow window least ↦ line (codes "refused: window" ∷ decimal window ∷ codes "is longer than the shortest interval," ∷ decimal least ∷ [])
      | status.Contradiction contradiction.Held ↦ codes "refused: no run has the held inputs\n"
      | status.Contradiction contradiction.Alarms ↦ codes "refused: each run raises an alarm without a fault\n"
      | status.ReadFault which ↦ line (codes "refused: cannot read" ∷ file which ∷ [])
      | status.ResultFault ↦ line (codes "refused: cannot write" ∷ file which.Result ∷ [])
      | status.Memory no_room ↦ codes "refused: out of memory\n"
      | _ ↦ []
    ]

-- the exit code of what makes no plan
abbrev pub plan_code : PlanRefusal → ℕ
plan_code cause = elim cause [ plan.MissingRate net name ↦ 6 | plan.IdleRate part permanent ↦ 7 | plan.TooManyFaults ↦ 10 | plan.Memory no_room ↦ 30 ]

-- the exit code of a status
abbrev pub code_of : Status → ℕ
code_of status.Done = 0
code_of status.Usage = 2
code_of (status.Netlist fault) = 3
code_of (status.Bench fault) = 14
code_of (status.Loop walk) = 4
code_of (status.Rates fault) = 5
code_of (status.NewRates fault) = 5
code_of (status.Plan refusal) = plan_code refusal
code_of (status.NewPlan refusal) = plan_code refusal
code_of (status.Points fault) = 8
code_of (status.Workload fault) = 9
code_of status.ManyOutputs = 10
code_of (status.TooLong which) = 10
code_of (status.Result refusal) = elim refusal [ Foreign found own ↦ 11 | BadRow number why ↦ 12 ]
code_of (status.Disagrees row) = 13
code_of (status.Merge refusal) = 15
code_of (status.Pairs refusal) = elim refusal [ Incomplete have batches ↦ 16 | TooMany ↦ 10 ]
code_of status.NoRun = 17
code_of status.NoFault = 17
code_of status.NoNet = 17
code_of (status.Held fault) = 18
code_of status.NoAlarm = 19
code_of (status.LongWindow window least) = 19
code_of (status.Contradiction cause) = 19
code_of (status.ReadFault which) = 20
code_of status.ResultFault = 21
code_of status.OutFault = 21
code_of (status.Memory no_room) = 30

-- ---- a shape of private steps

-- a line that says what was refused
abbrev pub refused : List Bytes → Bytes
refused words = line (codes "refused:" ∷ words)
