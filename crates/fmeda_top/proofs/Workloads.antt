-- The plan of a report is that of `always`, with the runs of its workload.
use Rattle.std.proofs.Common.{◌≡◌, ◌∙◌, List, [], ◌∷◌, ap, refl, sym, subst, Ok, Err}
use Rattle.std.specs.Prelude.{Option, Some, None, Result, option_map}
use Rattle.std.specs.List.{AllByRecursion as ForEach}
use Rattle.fm_base.specs.Names.{Bytes}
use Rattle.alarm_points.specs.PointsFile.{points_of}
use Rattle.alarm_points.specs.declared.Points.{Points}
use Rattle.campaign_plan.specs.Analysis.{Analysis}
use Rattle.campaign_plan.specs.declared.Settings.{Settings}
use Rattle.circuit.specs.Circuit.{Circuit}
use Rattle.circuit.specs.declared.parts.NetId.{NetId}
use Rattle.coverage_claim.specs.declared.parts.Held.{Held}
use Rattle.held_inputs.specs.HeldFile.{held_of}
use Rattle.rate_table.specs.RatesFile.{rates_of}
use Rattle.rate_table.specs.Table.{RateTable}
use Rattle.workload.specs.declared.run.Run.{Run}
use Rattle.workload.specs.WorkloadFile.{workload_of}
use Rattle.always.specs.Laws.{with_runs}
use Rattle.commands.specs.declared.command.Kind.TheVariants as kind
use Rattle.commands.specs.declared.command.Which.TheVariants as which
use Rattle.commands.specs.Commands.{Command, kind_of}
use Rattle.refusals.specs.declared.status.Status.{Status}
use Rattle.refusals.specs.declared.status.Status.TheVariants as status
use Rattle.command_reads.specs.Answers.{plan_behind, plan_step, runless_behind}
use Rattle.command_reads.specs.Files.{Reads}
use Rattle.command_reads.specs.FirstRefusal.{◌>>=◌, Judged, Planned, Supposed, judge, netlist_read, netlist_step, plan_of, read_as, runless_plan_of, unless}
use Rattle.command_reads.proofs.Plans.{after_rates, after_runs, behind_is, bound, made_of, plan_is, plan_same}
use Rattle.fmeda_top.specs.Laws.{ReportsAreOfThePlan}
use Rattle.fmeda_top.specs.TaskRefusals.{judged, task_refusal}

-- ---- what a plan was made of

unless_same : {A : Type 0} (refusal : Option Status) (x y : A) → unless refusal x ≡ Ok y → x ≡ y
unless_same None x y e = cc
unless_same (Some why) x y e = let bad : Err why ≡ Ok y = e in cc bad

net_read : (netlist : Bytes) (walk : Option (List NetId)) (reads : Reads) (c : Circuit) → netlist_step netlist walk reads ≡ Ok c → netlist_read netlist reads ≡ Ok c
unfolding netlist_step
net_read netlist walk reads c e =
    let own = bound (netlist_read netlist reads) (λ d. unless (option_map status.Loop walk) d) c e in
    own.1 ∙ ap (λ d. Ok d) (unless_same (option_map status.Loop walk) own.0 c own.2)

-- a plan behind a netlist and its runs
record IsMade (c : Circuit) (reads : Reads) (set : Settings) (runs : List Run) (p : Analysis) : Type 0 where
  rates : RateTable
  points : Points
  rated : read_as which.Rates status.Rates rates_of reads ≡ Ok rates
  observed : read_as which.Points status.Points (points_of c) reads ≡ Ok points
  is : p ≡ made_of c reads set runs rates points

made_after : (c : Circuit) (reads : Reads) (set : Settings) (runs : List Run) (p : Analysis) → after_runs c reads set runs ≡ Ok p → IsMade c reads set runs p
made_after c reads set runs p e =
    let table = bound (read_as which.Rates status.Rates rates_of reads) (after_rates c reads set runs) p e in
    let points = bound (read_as which.Points status.Points (points_of c) reads) (λ it. plan_step (made_of c reads set runs table.0 it)) p table.2 in
    record {
      rates = table.0;
      points = points.0;
      rated = table.1;
      observed = points.1;
      is = plan_same (made_of c reads set runs table.0 points.0) p points.2;
    }

runless_after : (c : Circuit) (set : Settings) (reads : Reads) → runless_behind c set reads ≡ after_runs c reads set []
unfolding runless_behind
runless_after c set reads = refl

runless_is : (netlist : Bytes) (walk : Option (List NetId)) (set : Settings) (reads : Reads)
    → runless_plan_of netlist walk set reads ≡ (netlist_step netlist walk reads >>= (λ c. runless_behind c set reads))
unfolding runless_plan_of runless_behind
runless_is netlist walk set reads = refl

module _ (netlist : Bytes) (walk : Option (List NetId)) (set : Settings) (reads : Reads) (p : Analysis) where
  made_with_runs : plan_of netlist walk set reads ≡ Ok p → (c : Circuit) × (runs : List Run) × (netlist_read netlist reads ≡ Ok c) × IsMade c reads set runs p
  made_with_runs e =
      let net = bound (netlist_step netlist walk reads) (λ c. plan_behind c set reads) p (sym (plan_is netlist walk set reads) ∙ e) in
      let work = bound (read_as which.Workload status.Workload (workload_of net.0) reads) (after_runs net.0 reads set) p (sym (behind_is net.0 reads set) ∙ net.2) in
      (net.0, work.0, net_read netlist walk reads net.0 net.1, made_after net.0 reads set work.0 p work.2)

  made_without : runless_plan_of netlist walk set reads ≡ Ok p → (c : Circuit) × (netlist_read netlist reads ≡ Ok c) × IsMade c reads set [] p
  made_without e =
      let net = bound (netlist_step netlist walk reads) (λ c. runless_behind c set reads) p (sym (runless_is netlist walk set reads) ∙ e) in
      (net.0, net_read netlist walk reads net.0 net.1, made_after net.0 reads set [] p (sym (runless_after net.0 set reads) ∙ net.2))

-- ---- two plans of the same files

ok_same : {A : Type 0} (x y : A) → ◌≡◌ {A = Result A Status} (Ok x) (Ok y) → x ≡ y
ok_same x y e = cc

module _ (reads others : Reads) (same : ForEach (λ file. reads file ≡ others file) (which.Netlist ∷ which.Rates ∷ which.Points ∷ [])) where
  -- what is read of one of them
  rates_same : (t u : RateTable) → read_as which.Rates status.Rates rates_of reads ≡ Ok t → read_as which.Rates status.Rates rates_of others ≡ Ok u → t ≡ u
  rates_same t u e f = ok_same t u (sym e ∙ ap (λ got. read_as which.Rates status.Rates rates_of (λ file. got)) same.1.0 ∙ f)

  points_same : (c : Circuit) (t u : Points) → read_as which.Points status.Points (points_of c) reads ≡ Ok t → read_as which.Points status.Points (points_of c) others ≡ Ok u → t ≡ u
  points_same c t u e f = ok_same t u (sym e ∙ ap (λ got. read_as which.Points status.Points (points_of c) (λ file. got)) same.1.1.0 ∙ f)

  net_same : (netlist : Bytes) (c d : Circuit) → netlist_read netlist reads ≡ Ok c → netlist_read netlist others ≡ Ok d → c ≡ d
  net_same netlist c d e f = ok_same c d (sym e ∙ ap (λ got. netlist_read netlist (λ file. got)) same.0 ∙ f)

  plans_same : (set : Settings) (c : Circuit) (runs : List Run) (p q : Analysis) → IsMade c reads set runs p → IsMade c others set [] q → p ≡ with_runs q p.runs
  plans_same set c runs p q own other =
      let rates = rates_same own.rates other.rates own.rated other.rated in
      let points = points_same c own.points other.points own.observed other.observed in
      own.is
      ∙ (λ i. made_of c reads set runs (rates i) (points i))
      ∙ ap (λ plan. with_runs plan runs) (sym other.is)
      ∙ ap (λ (plan : Analysis). with_runs q plan.runs) (sym own.is)

-- ---- what is judged

judge_gives : (walk : Option (List NetId)) (command : Command) (reads : Reads) (it : Judged) → judged walk command reads ≡ Ok it
    → judge (command.files which.Netlist) walk command.settings reads (kind_of command.task) ≡ Ok it
judge_gives walk command reads it e =
    let own = bound (judge (command.files which.Netlist) walk command.settings reads (kind_of command.task)) (λ made. unless (task_refusal command.task made) made) it e in
    own.1 ∙ ap (λ made. Ok made) (unless_same (task_refusal command.task own.0) own.0 it own.2)

planned_is : (netlist : Bytes) (walk : Option (List NetId)) (set : Settings) (reads : Reads)
    → judge netlist walk set reads kind.Planned ≡ (plan_of netlist walk set reads >>= (λ p. Ok (Planned p)))
unfolding judge
planned_is netlist walk set reads = refl

abbrev held_behind : Reads → Analysis → Result Judged Status
held_behind reads p = read_as which.Held status.Held (held_of p.circuit) reads >>= (λ held. Ok (Supposed p held))

supposed_is : (netlist : Bytes) (walk : Option (List NetId)) (set : Settings) (reads : Reads)
    → judge netlist walk set reads kind.Supposed ≡ (runless_plan_of netlist walk set reads >>= held_behind reads)
unfolding judge
supposed_is netlist walk set reads = refl

plan_judged : (netlist : Bytes) (walk : Option (List NetId)) (set : Settings) (reads : Reads) (p : Analysis) → judge netlist walk set reads kind.Planned ≡ Ok (Planned p)
    → plan_of netlist walk set reads ≡ Ok p
plan_judged netlist walk set reads p e =
    let own = bound (plan_of netlist walk set reads) (λ q. Ok (Planned q)) (Planned p) (sym (planned_is netlist walk set reads) ∙ e) in
    let same : own.0 ≡ p = cc own.2 in
    own.1 ∙ ap (λ q. Ok q) same

runless_judged : (netlist : Bytes) (walk : Option (List NetId)) (set : Settings) (reads : Reads) (p : Analysis) (held : List Held)
    → judge netlist walk set reads kind.Supposed ≡ Ok (Supposed p held) → runless_plan_of netlist walk set reads ≡ Ok p
runless_judged netlist walk set reads p held e =
    let own = bound (runless_plan_of netlist walk set reads) (held_behind reads) (Supposed p held) (sym (supposed_is netlist walk set reads) ∙ e) in
    let inputs = bound (read_as which.Held status.Held (held_of own.0.circuit) reads) (λ it. Ok (Supposed own.0 it)) (Supposed p held) own.2 in
    let same : own.0 ≡ p = cc inputs.2 in
    own.1 ∙ ap (λ q. Ok q) same

-- OF REPORTS
pub of_the_plan : ReportsAreOfThePlan
of_the_plan report always window ahead reads others walk loops p q held is_report is_always set net same planned supposed =
    let netlist = report.files which.Netlist in
    let own : judge netlist walk report.settings reads kind.Planned ≡ Ok (Planned p) =
    subst (λ t. judge netlist walk report.settings reads (kind_of t) ≡ Ok (Planned p)) is_report (judge_gives walk report reads (Planned p) planned) in
    let other : judge (always.files which.Netlist) loops always.settings others kind.Supposed ≡ Ok (Supposed q held) =
    subst (λ t. judge (always.files which.Netlist) loops always.settings others (kind_of t) ≡ Ok (Supposed q held)) is_always
    (judge_gives loops always others (Supposed q held) supposed) in
    let one = made_with_runs netlist walk report.settings reads p (plan_judged netlist walk report.settings reads p own) in
    let two = made_without netlist loops report.settings others q
    (runless_judged netlist loops report.settings others q held
    (subst (λ name. judge name loops report.settings others kind.Supposed ≡ Ok (Supposed q held)) (sym net)
    (subst (λ s. judge (always.files which.Netlist) loops s others kind.Supposed ≡ Ok (Supposed q held)) (sym set) other))) in
    let c_is : one.0 ≡ two.0 = net_same reads others same netlist one.0 two.0 one.2 two.1 in
    plans_same reads others same report.settings two.0 one.1 p q (subst (λ c. IsMade c reads report.settings one.1 p) c_is one.3) two.2
