-- Held files and their refusals, the lines of what refuses `always`, and the order of its checks.
use Rattle.std.proofs.Common.{◌≡◌, List, [], ◌∷◌, ◌++◌, refl, codes}
use Rattle.std.specs.Prelude.{ℕ, true, false, Option, Some, None, Result, Ok, Err}
use Rattle.test_definitions.specs.Opened.{opened}
use Rattle.circuit.specs.declared.parts.NetId.{NetId}
use Rattle.rate_table.specs.declared.RatesKind.TheVariants as rate
use Rattle.alarm_points.specs.declared.PointsKind.TheVariants as point
use Rattle.coverage_claim.specs.declared.parts.Held.{Held}
use Rattle.held_inputs.specs.HeldFile.{held_of}
use Rattle.held_inputs.specs.declared.HeldKind.TheVariants as held
use Rattle.claim_search.specs.declared.hypotheses.Contradiction.TheVariants as contradiction
use Rattle.campaign_plan.specs.Analysis.{Analysis}
use Rattle.campaign_plan.specs.declared.PlanRefusal.TheVariants as planned
use Rattle.commands.specs.declared.command.Task.TheVariants as task
use Rattle.commands.specs.declared.command.Which.{Which}
use Rattle.commands.specs.declared.command.Which.TheVariants as which
use Rattle.commands.specs.Commands.{Command, by_file, settings_of}
use Rattle.refusals.specs.declared.status.Status.{Status}
use Rattle.refusals.specs.declared.status.Status.TheVariants as status
use Rattle.refusals.specs.RefusalLines.{code_of, refusal_line}
use Rattle.command_reads.specs.declared.files.FileRead.TheVariants.{Whole, Failed}
use Rattle.command_reads.specs.Files.{Reads}
use Rattle.command_reads.specs.FirstRefusal.{Judged, Supposed}
use Rattle.test_definitions.specs.Circuits.{dup, net}
use Rattle.test_definitions.specs.Files.{plan_of, dup_netlist, dup_workload, dup_rates, dup_points, judged}

-- ---- files

abbrev rows : List ℕ → List ℕ
rows text = codes "input,from,before,value\n" ++ text

-- inputs in order of rows: b is 0 before cycle 3 and then 1, a is 0 from the start
pub two : held_of dup (rows (codes "b,3,0,1\na,0,-,0\n"))
    ≡ Ok (record { net = net 1; from = 3; before = Some false; value = true } ∷ record { net = net 0; from = 0; before = None; value = false } ∷ [])
unfolding opened
two = refl

-- a value before cycle 65535 that is the same, and none
pub last_cycle : held_of dup (rows (codes "a,65535,1,1\nb,65535,-,1\n"))
    ≡ Ok (record { net = net 0; from = 65535; before = Some true; value = true } ∷ record { net = net 1; from = 65535; before = None; value = true } ∷ [])
unfolding opened
last_cycle = refl

-- no input needs to be held
pub no_input : held_of dup (rows []) ≡ Ok []
unfolding opened
no_input = refl

pub other_header : held_of dup (codes "input,from,value\na,0,1\n") ≡ Err (record { row = 1; kind = held.BadCsv })
unfolding opened
other_header = refl

pub three_fields : held_of dup (rows (codes "a,0,1\n")) ≡ Err (record { row = 2; kind = held.BadCsv })
unfolding opened
three_fields = refl

-- y is a net and no input
pub no_such_input : held_of dup (rows (codes "a,0,-,1\ny,0,-,1\n")) ≡ Err (record { row = 3; kind = held.UnknownInput })
unfolding opened
no_such_input = refl

pub twice : held_of dup (rows (codes "a,0,-,1\nb,0,-,1\na,1,-,0\n")) ≡ Err (record { row = 4; kind = held.Twice })
unfolding opened
twice = refl

pub late : held_of dup (rows (codes "a,65536,-,1\n")) ≡ Err (record { row = 2; kind = held.BadFrom })
unfolding opened
late = refl

pub no_bit_before : held_of dup (rows (codes "a,1,x,1\n")) ≡ Err (record { row = 2; kind = held.BadBefore })
unfolding opened
no_bit_before = refl

pub before_the_first : held_of dup (rows (codes "a,0,1,1\n")) ≡ Err (record { row = 2; kind = held.NoCycleBefore })
unfolding opened
before_the_first = refl

pub no_bit : held_of dup (rows (codes "a,0,-,-\n")) ≡ Err (record { row = 2; kind = held.BadValue })
unfolding opened
no_bit = refl

-- ---- lines

abbrev nameless : Which → List ℕ
nameless which = []

pub held_line : refusal_line nameless dup (status.Held (record { row = 3; kind = held.NoCycleBefore })) ≡ codes "refused: held row 3 NoCycleBefore\n"
unfolding opened
held_line = refl

pub alarm_line : refusal_line nameless dup status.NoAlarm ≡ codes "refused: no alarm point\n"
unfolding opened
alarm_line = refl

pub window_line : refusal_line nameless dup (status.LongWindow 8 5) ≡ codes "refused: window 8 is longer than the shortest interval, 5\n"
unfolding opened
window_line = refl

pub no_run_line : refusal_line nameless dup (status.Contradiction contradiction.Held) ≡ codes "refused: no run has the held inputs\n"
unfolding opened
no_run_line = refl

pub each_run_line : refusal_line nameless dup (status.Contradiction contradiction.Alarms) ≡ codes "refused: each run raises an alarm without a fault\n"
unfolding opened
each_run_line = refl

pub always_codes : (code_of (status.Held (record { row = 1; kind = held.BadCsv })) ≡ 18) × (code_of status.NoAlarm ≡ 19) × (code_of (status.LongWindow 1 0) ≡ 19)
    × (code_of (status.Contradiction contradiction.Held) ≡ 19) × (code_of (status.Contradiction contradiction.Alarms) ≡ 19)
always_codes = (refl, refl, refl, refl, refl)

-- ---- the order of the checks

-- the workload isn't read
abbrev reads : (rates points inputs : List ℕ) → Reads
reads rates points inputs = by_file (Whole dup_netlist) Failed (Whole rates) (Whole points) Failed Failed Failed Failed (Whole inputs)

abbrev always : Command
always = record { files = by_file (codes "n") [] (codes "r") (codes "p") [] [] [] [] (codes "h"); settings = settings_of [] []; task = task.Always None 1 }

abbrev supposed : Reads → Result Judged Status
supposed files = judged None always files

pub always_netlist : judged (Some (net 2 ∷ [])) always (reads [] [] []) ≡ Err (status.Loop (net 2 ∷ []))
unfolding opened
always_netlist = refl

pub then_rates : supposed (reads (codes "part") [] []) ≡ Err (status.Rates (record { row = 1; kind = rate.BadCsv }))
unfolding opened
then_rates = refl

pub then_points : supposed (reads dup_rates (codes "kind") []) ≡ Err (status.Points (record { row = 1; kind = point.BadCsv }))
unfolding opened
then_points = refl

pub then_plan : supposed (reads (codes "pattern,part,role,covered,permanent,transient\n*,all,mission,yes,1,1\n") dup_points []) ≡ Err (status.Plan (planned.IdleRate (codes "all") false))
unfolding opened
then_plan = refl

pub held_last : supposed (reads dup_rates dup_points (rows (codes "a,0,1,1\n"))) ≡ Err (status.Held (record { row = 2; kind = held.NoCycleBefore }))
unfolding opened
held_last = refl

pub held_unread : supposed (by_file (Whole dup_netlist) Failed (Whole dup_rates) (Whole dup_points) Failed Failed Failed Failed Failed) ≡ Err (status.ReadFault which.Held)
unfolding opened
held_unread = refl

-- of four files no check refuses: the plan of the same netlist, rates and points, without runs
abbrev runless : Analysis
runless = let p : Analysis = plan_of dup dup_workload dup_rates dup_points 0 [] in record p { runs = [] }

pub nothing : supposed (reads dup_rates dup_points (rows (codes "a,2,0,1\n")))
    ≡ Ok (Supposed runless (record { net = net 0; from = 2; before = Some false; value = true } ∷ []))
unfolding opened
nothing = refl
