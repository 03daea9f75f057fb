-- What the checks of a command were given, where they gave something, and that a refusal is no Done.
use Rattle.std.proofs.Common.{ℕ, ◌≡◌, ◌≢◌, ◌∙◌, ap, refl, sym, subst, Bool, true, false, List, [], ◌∷◌, Ok, Err}
use Rattle.std.specs.Prelude.{Option, Some, None, Result, MatchOption, MatchResult, option_map, if◌then◌else◌}
use Rattle.fm_base.specs.Names.{Bytes}
use Rattle.circuit.specs.Circuit.{Circuit}
use Rattle.circuit.specs.declared.parts.NetId.{NetId}
use Rattle.workload.specs.declared.run.Run.{Run}
use Rattle.workload.specs.WorkloadFile.{workload_of}
use Rattle.rate_table.specs.RatesFile.{rates_of}
use Rattle.rate_table.specs.Table.{RateTable}
use Rattle.alarm_points.specs.declared.Points.{Points}
use Rattle.alarm_points.specs.PointsFile.{points_of}
use Rattle.campaign_plan.specs.declared.PlanRefusal.{PlanRefusal}
use Rattle.campaign_plan.specs.declared.Settings.{Settings}
use Rattle.campaign_plan.specs.Analysis.{Analysis}
use Rattle.campaign_plan.specs.PlanFaults.{plan_refusal}
use Rattle.result_file.specs.declared.KeptRows.{KeptRows}
use Rattle.result_file.specs.KeptRows.{kept}
use Rattle.commands.specs.declared.command.Kind.TheVariants as kind
use Rattle.commands.specs.declared.command.Task.TheVariants as task
use Rattle.commands.specs.declared.command.Which.{Which}
use Rattle.commands.specs.declared.command.Which.TheVariants as which
use Rattle.commands.specs.Commands.{by_file}
use Rattle.refusals.specs.declared.status.Status.{Status}
use Rattle.refusals.specs.declared.status.Status.TheVariants as status
use Rattle.refusals.specs.NetlistFile.{netlist_in, or_refuse}
use Rattle.command_reads.specs.declared.files.FileRead.{FileRead}
use Rattle.command_reads.specs.declared.files.FileRead.TheVariants.{Whole, TooLong, Failed}
use Rattle.command_reads.specs.Files.{Reads}
use Rattle.command_reads.specs.FirstRefusal.{Judged, Planned, Driven, Rated, Begun, Merged, Reweighed, Supposed, judge, netlist_read, netlist_step, own_header, plan_of, read_as, rows_in, unless, whole, ◌>>=◌}
use Rattle.fmeda_top.specs.TaskRefusals.{judged, task_refusal}
use Rattle.stopped_runs.specs.Campaigns.{Campaign, resume_by, run_by}

-- ---- one step

then_ok : {A B : Type 0} (r : Result A Status) (next : A → Result B Status) (y : B) → (r >>= next) ≡ Ok y → (x : A) × (r ≡ Ok x) × (next x ≡ Ok y)
then_ok (Ok x) next y is = (x, refl, is)
then_ok (Err why) next y is = absurd (cc)

told_ok : {A E : Type 0} (told : E → Status) (r : Result A E) (x : A) → or_refuse told r ≡ Ok x → r ≡ Ok x
told_ok told (Ok y) x is = let same : y ≡ x = cc in ap (λ z. Ok z) same
told_ok told (Err e) x is = absurd (cc)

unless_ok : {A : Type 0} (refusal : Option Status) (x y : A) → unless refusal x ≡ Ok y → (refusal ≡ None) × (x ≡ y)
unless_ok None x y is = (refl, (cc))
unless_ok (Some why) x y is = absurd (cc)

none_mapped : {A B : Type 0} (f : A → B) (o : Option A) → option_map f o ≡ None → o ≡ None
none_mapped f None is = refl
none_mapped f (Some x) is = absurd (cc)

abbrev whole_of : Which → FileRead → Result Bytes Status
whole_of file got = elim got [ Whole bytes ↦ Ok bytes | TooLong ↦ Err (status.TooLong file) | Failed ↦ Err (status.ReadFault file) ]

got_ok : (file : Which) (got : FileRead) (bytes : Bytes) → whole_of file got ≡ Ok bytes → got ≡ Whole bytes
got_ok file (Whole own) bytes is = let same : own ≡ bytes = cc in ap (λ b. Whole b) same
got_ok file TooLong bytes is = absurd (cc)
got_ok file Failed bytes is = absurd (cc)

refused_as : (made p : Analysis) → made ≡ p → plan_refusal made ≡ None → plan_refusal p ≡ None
refused_as made p same none = subst (λ q. plan_refusal q ≡ None) same none

module _ (reads : Reads) where
  -- the file was read whole, and stands for this
  abbrev pub StandsFor : {A E : Type 0} → Which → (Bytes → Result A E) → A → Type 0
  StandsFor file meaning x = (bytes : Bytes) × (reads file ≡ Whole bytes) × (meaning bytes ≡ Ok x)

  read_ok : {A E : Type 0} (file : Which) (told : E → Status) (meaning : Bytes → Result A E) (x : A) → read_as file told meaning reads ≡ Ok x → StandsFor file meaning x
  read_ok file told meaning x is =
      let first = then_ok (whole file reads) (λ bytes. or_refuse told (meaning bytes)) x is in
      (first.0, got_ok file (reads file) first.0 first.1, told_ok told (meaning first.0) x first.2)

  abbrev IsReadWhole : Which → Type 0
  IsReadWhole file = (bytes : Bytes) × (reads file ≡ Whole bytes)

  net_ok : (netlist : Bytes) (walk : Option (List NetId)) (c : Circuit) → netlist_step netlist walk reads ≡ Ok c → (walk ≡ None) × IsReadWhole which.Netlist
  unfolding netlist_step
  net_ok netlist walk c is =
      let first = then_ok (netlist_read netlist reads) (unless (option_map status.Loop walk)) c is in
      let read = then_ok (whole which.Netlist reads) (netlist_in netlist) first.0 first.1 in
      (none_mapped status.Loop walk (unless_ok (option_map status.Loop walk) first.0 c first.2).0, (read.0, got_ok which.Netlist (reads which.Netlist) read.0 read.1))

  -- what a plan was made of: no loop was answered, its four files were read whole, and nothing refuses it
  pub record IsMade (walk : Option (List NetId)) (p : Analysis) : Type 0 where
    pub walk_is : walk ≡ None
    pub netlist : IsReadWhole which.Netlist
    pub workload : IsReadWhole which.Workload
    pub rates : IsReadWhole which.Rates
    pub points : IsReadWhole which.Points
    pub rated : plan_refusal p ≡ None

  module _ (set : Settings) where
    abbrev plan_with : Circuit → List Run → RateTable → Points → Analysis
    plan_with c runs table points = record { circuit = c; runs = runs; rates = table; points = points; settings = set }

    abbrev behind_points : Circuit → List Run → RateTable → Points → Result Analysis Status
    behind_points c runs table points = unless (option_map status.Plan (plan_refusal (plan_with c runs table points))) (plan_with c runs table points)

    abbrev behind_rates : Circuit → List Run → RateTable → Result Analysis Status
    behind_rates c runs table = read_as which.Points status.Points (points_of c) reads >>= behind_points c runs table

    abbrev behind_workload : Circuit → List Run → Result Analysis Status
    behind_workload c runs = read_as which.Rates status.Rates rates_of reads >>= behind_rates c runs

    abbrev behind_netlist : Circuit → Result Analysis Status
    behind_netlist c = read_as which.Workload status.Workload (workload_of c) reads >>= behind_workload c

    pub plan_ok : (netlist : Bytes) (walk : Option (List NetId)) (p : Analysis) → plan_of netlist walk set reads ≡ Ok p → IsMade walk p
    unfolding plan_of
    plan_ok netlist walk p is =
        let net = then_ok (netlist_step netlist walk reads) behind_netlist p is in
        let work = then_ok (read_as which.Workload status.Workload (workload_of net.0) reads) (behind_workload net.0) p net.2 in
        let table = then_ok (read_as which.Rates status.Rates rates_of reads) (behind_rates net.0 work.0) p work.2 in
        let points = then_ok (read_as which.Points status.Points (points_of net.0) reads) (behind_points net.0 work.0 table.0) p table.2 in
        let made : Analysis = plan_with net.0 work.0 table.0 points.0 in
        let last = unless_ok (option_map status.Plan (plan_refusal made)) made p points.2 in
        let first = net_ok netlist walk net.0 net.1 in
        let second = read_ok which.Workload status.Workload (workload_of net.0) work.0 work.1 in
        let third = read_ok which.Rates status.Rates rates_of table.0 table.1 in
        let fourth = read_ok which.Points status.Points (points_of net.0) points.0 points.1 in
        record {
          walk_is = first.0;
          netlist = first.1;
          workload = (second.0, second.1);
          rates = (third.0, third.1);
          points = (fourth.0, fourth.1);
          rated = refused_as made p last.1 (none_mapped status.Plan (plan_refusal made) last.0);
        }

-- ---- the same of the same files

abbrev four : (netlist workload rates points : FileRead) → Reads
four n w r p = by_file n w r p Failed Failed Failed Failed Failed

abbrev of_four : Reads → Reads
of_four reads = four (reads which.Netlist) (reads which.Workload) (reads which.Rates) (reads which.Points)

plan_of_four : (netlist : Bytes) (walk : Option (List NetId)) (set : Settings) (reads : Reads) → plan_of netlist walk set reads ≡ plan_of netlist walk set (of_four reads)
unfolding plan_of netlist_step
plan_of_four netlist walk set reads = refl

header_of_four : (reads : Reads) (p : Analysis) → own_header reads p ≡ own_header (of_four reads) p
header_of_four reads p = refl

-- these four files were read alike
pub record AreAlike (reads others : Reads) : Type 0 where
  pub netlist : reads which.Netlist ≡ others which.Netlist
  pub workload : reads which.Workload ≡ others which.Workload
  pub rates : reads which.Rates ≡ others which.Rates
  pub points : reads which.Points ≡ others which.Points

four_alike : (reads others : Reads) → AreAlike reads others → of_four reads ≡ of_four others
four_alike reads others alike =
    ap (λ n. four n (reads which.Workload) (reads which.Rates) (reads which.Points)) alike.netlist
    ∙ ap (λ w. four (others which.Netlist) w (reads which.Rates) (reads which.Points)) alike.workload
    ∙ ap (λ r. four (others which.Netlist) (others which.Workload) r (reads which.Points)) alike.rates
    ∙ ap (λ q. four (others which.Netlist) (others which.Workload) (others which.Rates) q) alike.points

pub plan_alike : (netlist : Bytes) (walk : Option (List NetId)) (set : Settings) (reads others : Reads) → AreAlike reads others
    → plan_of netlist walk set reads ≡ plan_of netlist walk set others
plan_alike netlist walk set reads others alike =
    plan_of_four netlist walk set reads ∙ ap (plan_of netlist walk set) (four_alike reads others alike) ∙ sym (plan_of_four netlist walk set others)

pub header_alike : (p : Analysis) (reads others : Reads) → AreAlike reads others → own_header reads p ≡ own_header others p
header_alike p reads others alike =
    header_of_four reads p ∙ ap (λ rs. own_header rs p) (four_alike reads others alike) ∙ sym (header_of_four others p)

-- ---- what a `run` and a `resume` are judged to be of

module _ (c : Campaign) (workers : ℕ) (walk : Option (List NetId)) (reads : Reads) where
  abbrev netlist : Bytes
  netlist = c.files which.Netlist

  pub run_ok : (made : Judged) → judged walk (run_by c workers) reads ≡ Ok made
      → (p : Analysis) × (plan_of netlist walk c.settings reads ≡ Ok p) × (Planned p ≡ made)
  unfolding judge
  run_ok made is =
      let first = then_ok (judge netlist walk c.settings reads kind.Planned) (λ it. unless (task_refusal (task.Run workers) it) it) made is in
      let plan = then_ok (plan_of netlist walk c.settings reads) (λ p. Ok (Planned p)) first.0 first.1 in
      let same : Planned plan.0 ≡ first.0 = let e : Ok (Planned plan.0) ≡ Ok first.0 = plan.2 in cc in
      (plan.0, plan.1, same ∙ (unless_ok (task_refusal (task.Run workers) first.0) first.0 made first.2).1)

  -- a plan, and what is kept of RESULT
  pub record IsBegun (made : Judged) : Type 0 where
    pub p : Analysis
    pub k : KeptRows
    pub bytes : Bytes
    pub plan : plan_of netlist walk c.settings reads ≡ Ok p
    pub whole_read : reads which.Result ≡ Whole bytes
    pub kept_rows : kept (own_header reads p) p bytes ≡ Ok k
    pub made_is : Begun p k ≡ made

  pub resume_ok : (made : Judged) → judged walk (resume_by c workers) reads ≡ Ok made → IsBegun made
  unfolding judge
  resume_ok made is =
      let first = then_ok (judge netlist walk c.settings reads kind.Begun) (λ it. unless (task_refusal (task.Resume workers) it) it) made is in
      let plan = then_ok (plan_of netlist walk c.settings reads) (λ p. rows_in which.Result reads p >>= (λ k. Ok (Begun p k))) first.0 first.1 in
      let rows = then_ok (rows_in which.Result reads plan.0) (λ k. Ok (Begun plan.0 k)) first.0 plan.2 in
      let read = read_ok reads which.Result status.Result (kept (own_header reads plan.0) plan.0) rows.0 rows.1 in
      let same : Begun plan.0 rows.0 ≡ first.0 = let e : Ok (Begun plan.0 rows.0) ≡ Ok first.0 = rows.2 in cc in
      record {
        p = plan.0;
        k = rows.0;
        bytes = read.0;
        plan = plan.1;
        whole_read = read.1;
        kept_rows = read.2;
        made_is = same ∙ (unless_ok (task_refusal (task.Resume workers) first.0) first.0 made first.2).1;
      }

-- ---- a refusal is no Done

abbrev IsRefusal : Status → Type 0
IsRefusal status.Done = ⊥
IsRefusal _ = Unit {0}

-- it gives something, or a refusal
abbrev Refuses : {A : Type 0} → Result A Status → Type 0
Refuses r = MatchResult r (λ x. Unit {0}) IsRefusal

then_refuses : {A B : Type 0} (r : Result A Status) (next : A → Result B Status) → Refuses r → ((x : A) → Refuses (next x)) → Refuses (r >>= next)
then_refuses (Ok x) next h more = more x
then_refuses (Err why) next h more = h

told_refuses : {A E : Type 0} (told : E → Status) (r : Result A E) → ((e : E) → IsRefusal (told e)) → Refuses (or_refuse told r)
told_refuses told (Ok x) h = tt
told_refuses told (Err e) h = h e

unless_refuses : {A B : Type 0} (told : B → Status) (o : Option B) (x : A) → ((b : B) → IsRefusal (told b)) → Refuses (unless (option_map told o) x)
unless_refuses told None x h = tt
unless_refuses told (Some why) x h = h why

got_refuses : (file : Which) (got : FileRead) → Refuses (whole_of file got)
got_refuses file (Whole bytes) = tt
got_refuses file TooLong = tt
got_refuses file Failed = tt

read_refuses : {A E : Type 0} (reads : Reads) (file : Which) (told : E → Status) (meaning : Bytes → Result A E) → ((e : E) → IsRefusal (told e))
    → Refuses (read_as file told meaning reads)
read_refuses reads file told meaning h =
    then_refuses (whole file reads) (λ bytes. or_refuse told (meaning bytes)) (got_refuses file (reads file)) (λ bytes. told_refuses told (meaning bytes) h)

netlist_refuses : (name bytes : Bytes) → Refuses (netlist_in name bytes)
unfolding netlist_in
netlist_refuses name bytes = either _ status.Bench status.Netlist _ _ (λ e. tt) (λ e. tt)
  where
    either : {A E F : Type 0} (test : Bool) (told : E → Status) (other : F → Status) (r : Result A E) (s : Result A F) → ((e : E) → IsRefusal (told e))
        → ((f : F) → IsRefusal (other f)) → Refuses (if test then or_refuse told r else or_refuse other s)
    either true told other r s h k = told_refuses told r h
    either false told other r s h k = told_refuses other s k

step_refuses : (netlist : Bytes) (walk : Option (List NetId)) (reads : Reads) → Refuses (netlist_step netlist walk reads)
unfolding netlist_step
step_refuses netlist walk reads =
    then_refuses (netlist_read netlist reads) (unless (option_map status.Loop walk))
    (then_refuses (whole which.Netlist reads) (netlist_in netlist) (got_refuses which.Netlist (reads which.Netlist)) (netlist_refuses netlist))
    (λ c. unless_refuses status.Loop walk c (λ nets. tt))

plan_refuses : (netlist : Bytes) (walk : Option (List NetId)) (set : Settings) (reads : Reads) → Refuses (plan_of netlist walk set reads)
unfolding plan_of
plan_refuses netlist walk set reads =
    then_refuses (netlist_step netlist walk reads) (behind_netlist reads set) (step_refuses netlist walk reads) (λ c.
    then_refuses (read_as which.Workload status.Workload (workload_of c) reads) (behind_workload reads set c) (read_refuses reads which.Workload status.Workload (workload_of c) (λ e. tt)) (λ runs.
    then_refuses (read_as which.Rates status.Rates rates_of reads) (behind_rates reads set c runs) (read_refuses reads which.Rates status.Rates rates_of (λ e. tt)) (λ table.
    then_refuses (read_as which.Points status.Points (points_of c) reads) (behind_points reads set c runs table) (read_refuses reads which.Points status.Points (points_of c) (λ e. tt)) (λ points.
    unless_refuses status.Plan (plan_refusal (plan_with reads set c runs table points)) (plan_with reads set c runs table points) (λ e. tt)))))

-- neither task has a refusal of its own
run_asks : (workers : ℕ) (made : Judged) → task_refusal (task.Run workers) made ≡ None
run_asks workers (Planned p) = refl
run_asks workers (Driven c runs set) = refl
run_asks workers (Rated c table) = refl
run_asks workers (Begun p k) = refl
run_asks workers (Merged p both) = refl
run_asks workers (Reweighed p rows) = refl
run_asks workers (Supposed p held) = refl

resume_asks : (workers : ℕ) (made : Judged) → task_refusal (task.Resume workers) made ≡ None
resume_asks workers (Planned p) = refl
resume_asks workers (Driven c runs set) = refl
resume_asks workers (Rated c table) = refl
resume_asks workers (Begun p k) = refl
resume_asks workers (Merged p both) = refl
resume_asks workers (Reweighed p rows) = refl
resume_asks workers (Supposed p held) = refl

none_refuses : {A : Type 0} (o : Option Status) (x : A) → o ≡ None → Refuses (unless o x)
none_refuses None x is = tt
none_refuses (Some why) x is = absurd (cc)

no_done : {A : Type 0} (r : Result A Status) → Refuses r → r ≢ Err status.Done
no_done (Ok x) h is = absurd (cc)
no_done (Err why) h is = let done : why ≡ status.Done = cc in subst IsRefusal done h

pub run_not_done : (c : Campaign) (workers : ℕ) (walk : Option (List NetId)) (reads : Reads) → judged walk (run_by c workers) reads ≢ Err status.Done
unfolding judge
run_not_done c workers walk reads =
    no_done (judged walk (run_by c workers) reads)
    (then_refuses (judge (c.files which.Netlist) walk c.settings reads kind.Planned) (λ it. unless (task_refusal (task.Run workers) it) it)
    (then_refuses (plan_of (c.files which.Netlist) walk c.settings reads) (λ p. Ok (Planned p)) (plan_refuses (c.files which.Netlist) walk c.settings reads) (λ p. tt))
    (λ it. none_refuses (task_refusal (task.Run workers) it) it (run_asks workers it)))

pub resume_not_done : (c : Campaign) (workers : ℕ) (walk : Option (List NetId)) (reads : Reads) → judged walk (resume_by c workers) reads ≢ Err status.Done
unfolding judge
resume_not_done c workers walk reads =
    no_done (judged walk (resume_by c workers) reads)
    (then_refuses (judge (c.files which.Netlist) walk c.settings reads kind.Begun) (λ it. unless (task_refusal (task.Resume workers) it) it)
    (then_refuses (plan_of (c.files which.Netlist) walk c.settings reads) (λ p. rows_in which.Result reads p >>= (λ k. Ok (Begun p k)))
    (plan_refuses (c.files which.Netlist) walk c.settings reads)
    (λ p. then_refuses (rows_in which.Result reads p) (λ k. Ok (Begun p k)) (read_refuses reads which.Result status.Result (kept (own_header reads p) p) (λ e. tt)) (λ k. tt)))
    (λ it. none_refuses (task_refusal (task.Resume workers) it) it (resume_asks workers it)))
