-- A result file by other rates: the plan with RATES, RESULT, and the plan with NEWRATES.
use Rattle.std.proofs.Common.{◌≡◌, ◌∙◌, ap, refl, subst, sym, List, [], inl, inr}
use Rattle.std.specs.Prelude.{Option, Some, None, Result, Ok, Err}
use Rattle.fm_base.specs.Names.{Bytes}
use Rattle.circuit.specs.declared.parts.NetId.{NetId}
use Rattle.circuit.specs.Circuit.{Circuit}
use Rattle.workload.specs.WorkloadFile.{workload_of}
use Rattle.alarm_points.specs.PointsFile.{points_of}
use Rattle.campaign_plan.specs.declared.Settings.{Settings}
use Rattle.campaign_plan.specs.Analysis.{Analysis}
use Rattle.campaign_plan.specs.Batches.{AreDistinct}
use Rattle.result_file.specs.declared.KeptRows.{KeptRows}
use Rattle.result_file.specs.declared.ResultRefusal.{ResultRefusal}
use Rattle.result_file.specs.declared.Row.{Row}
use Rattle.result_file.specs.KeptRows.{kept as kept_of, kept_entries}
use Rattle.result_reweigh.specs.Laws.{DifferInRates}
use Rattle.result_reweigh.specs.Reweighed.{reweighed}
use Rattle.result_reweigh.proofs.Lawful.{lawful}
use Rattle.commands.specs.declared.command.Kind.TheVariants as kind
use Rattle.commands.specs.declared.command.Which.TheVariants as which
use Rattle.refusals.specs.declared.refused.Refused.{Refused}
use Rattle.refusals.specs.declared.refused.Refused.TheVariants.{By, Looped}
use Rattle.refusals.specs.declared.status.Status.{Status}
use Rattle.refusals.specs.declared.status.Status.TheVariants as status
use Rattle.refusals.specs.NetlistFile.{or_refuse}
use Rattle.refusals.specs.Refusals.{HasItsNets, IsPlain, status_of}
use Rattle.refusals.specs.WantOfMemory.{IsMemory}
use Rattle.refusals.proofs.Refusals.{ok_same}
use Rattle.command_reads.specs.declared.reweighed.Reweighed.{Reweighed as ReweighedOf}
use Rattle.command_reads.specs.Answers.{AnswersAs, AreBefore, ReweighsAs, StayDistinct, TakesAs, WeighsAs, plan_behind, refused_new}
use Rattle.command_reads.specs.Files.{AreShort, Reads, exchanged, known_by}
use Rattle.command_reads.specs.FirstRefusal.{Judged, Reweighed, judge, netlist_read, netlist_step, of_new, own_header, plan_of, read_as, rows_in, told_of_new, unless, whole, ◌>>=◌}
use Rattle.command_reads.proofs.Distinct.{kept_distinct}
use Rattle.command_reads.proofs.Plans.{AreParts, bound, parts_of, plan_is}

-- ---- what was read, exchanged

pub short_exchanged : (reads : Reads) → AreShort reads → AreShort (exchanged reads)
short_exchanged reads short which.Netlist = short which.Netlist
short_exchanged reads short which.Workload = short which.Workload
short_exchanged reads short which.Rates = short which.NewRates
short_exchanged reads short which.Points = short which.Points
short_exchanged reads short which.Result = short which.Result
short_exchanged reads short which.First = short which.First
short_exchanged reads short which.Second = short which.Second
short_exchanged reads short which.NewRates = short which.Rates
short_exchanged reads short which.Held = short which.Held

-- ---- a refusal of RATES, told of NEWRATES

plain_new : (ended : Status) → IsPlain ended → IsPlain (of_new ended)
plain_new (status.Rates fault) plain = tt
plain_new (status.Plan cause) plain = tt
plain_new (status.TooLong file) plain = tt
plain_new (status.ReadFault file) plain = tt
plain_new ended plain = plain

memory_new : (ended : Status) → IsMemory ended → IsMemory (of_new ended)
memory_new (status.Memory no_room) is = tt
memory_new ended is = absurd is

new_status : (refused : Refused) → status_of (refused_new refused) ≡ of_new (status_of refused)
new_status (By ended) = refl
new_status (Looped walk net) = refl

nets_new : (netlist : Bytes) (reads : Reads) (refused : Refused) → HasItsNets netlist (known_by (reads which.Netlist)) refused
    → HasItsNets netlist (known_by (reads which.Netlist)) (refused_new refused)
nets_new netlist reads (By ended) plain = plain_new ended plain
nets_new netlist reads (Looped walk net) nets = nets

-- ---- the two plans

module _ (netlist : Bytes) (set : Settings) (reads : Reads) where
  abbrev plans : Option (List NetId) → Result Analysis Status
  plans walk = plan_of netlist walk set reads

  abbrev new_plans : Option (List NetId) → Result Analysis Status
  new_plans walk = plan_of netlist walk set (exchanged reads)

  same_step : (walk : Option (List NetId)) → netlist_step netlist walk (exchanged reads) ≡ netlist_step netlist walk reads
  unfolding netlist_step
  same_step walk = refl

  -- they differ in their rates alone
  pub differ : (p q : Analysis) → plans None ≡ Ok p → new_plans None ≡ Ok q → DifferInRates p q
  differ p q is also =
      let a : AreParts netlist set reads p = parts_of netlist set reads p is in
      let b : AreParts netlist set (exchanged reads) q = parts_of netlist set (exchanged reads) q also in
      let circuit : p.circuit ≡ q.circuit = ok_same (netlist_step netlist None reads) p.circuit q.circuit a.circuit (sym (same_step None) ∙ b.circuit) in
      record {
        circuit = circuit;
        runs = ok_same (read_as which.Workload status.Workload (workload_of q.circuit) reads) p.runs q.runs
            (ap (λ c. read_as which.Workload status.Workload (workload_of c) reads) (sym circuit) ∙ a.runs) b.runs;
        points = ok_same (read_as which.Points status.Points (points_of q.circuit) reads) p.points q.points
            (ap (λ c. read_as which.Points status.Points (points_of c) reads) (sym circuit) ∙ a.points) b.points;
        settings = a.settings ∙ sym b.settings;
      }

  -- so the batches of rows stay distinct
  pub stay_distinct : (p : Analysis) (k : KeptRows) → TakesAs netlist reads plans (Ok p) → AreDistinct p (kept_entries k)
      → StayDistinct netlist set (exchanged reads) k.rows
  stay_distinct p k taken distinct = λ q also. (lawful p q (differ p q taken.0 also)).distinct (kept_entries k) distinct

  -- ---- one step behind the other

  abbrev reweighs : Option (List NetId) → Result Judged Status
  reweighs walk = judge netlist walk set reads kind.Reweighed

  abbrev weighed : KeptRows → Analysis → Result Judged Status
  weighed k q = Ok (Reweighed q (reweighed q k.rows))

  abbrev renewed : Option (List NetId) → KeptRows → Result Judged Status
  renewed walk k = told_of_new (new_plans walk) >>= weighed k

  abbrev behind : Option (List NetId) → Analysis → Result Judged Status
  behind walk p = rows_in which.First reads p >>= renewed walk

  reweighs_is : (walk : Option (List NetId)) → reweighs walk ≡ (plans walk >>= behind walk)
  unfolding judge
  reweighs_is walk = refl

  -- a loop refuses a plan
  loop_plan : (read : Reads) (walk : List NetId) (c : Circuit) → netlist_read netlist read ≡ Ok c → plan_of netlist (Some walk) set read ≡ Err (status.Loop walk)
  unfolding netlist_step
  loop_plan read walk c is =
      plan_is netlist (Some walk) set read ∙ ap (λ r. r >>= unless (Some (status.Loop walk)) >>= (λ d. plan_behind d set read)) is

  -- the plan with RATES is refused
  pub unplanned : (refused : Refused) → TakesAs netlist reads plans (Err refused) → TakesAs netlist reads reweighs (Err refused)
  unplanned refused (inl memory, nets) = (inl memory, nets)
  unplanned refused (inr (walk, loops, is), nets) = (inr (walk, loops, reweighs_is walk ∙ ap (λ r. r >>= behind walk) is), nets)

  module _ (p : Analysis) (planned : TakesAs netlist reads plans (Ok p)) where
    after : reweighs None ≡ behind None p
    after = reweighs_is None ∙ ap (λ r. r >>= behind None) planned.0

    -- RESULT is refused
    pub unkept : (ended : Status) → AnswersAs (rows_in which.First reads p) (Err ended) → TakesAs netlist reads reweighs (Err (By ended))
    unkept ended (inl memory, plain) = (inl memory, plain)
    unkept ended (inr is, plain) = (inr (None, planned.1, after ∙ ap (λ r. r >>= renewed None) is), plain)

    module _ (k : KeptRows) (kept : rows_in which.First reads p ≡ Ok k) where
      then : reweighs None ≡ renewed None k
      then = after ∙ ap (λ r. r >>= renewed None) kept

      -- rows by the weights of the plan with NEWRATES
      pub weighed_made : (q : Analysis) → TakesAs netlist (exchanged reads) new_plans (Ok q) → TakesAs netlist reads reweighs (Ok (Reweighed q (reweighed q k.rows)))
      weighed_made q taken = (then ∙ ap (λ r. told_of_new r >>= weighed k) taken.0, planned.1)

      -- the netlist was read
      net_read : (c : Circuit) × (netlist_read netlist reads ≡ Ok c)
      unfolding netlist_step
      net_read =
          let step = (parts_of netlist set reads p planned.0).circuit in
          let read = bound (netlist_read netlist reads) (unless None) p.circuit step in
          (read.0, read.1)

      -- a loop refuses both plans
      looped : (walk : List NetId) (ended : Status) → new_plans (Some walk) ≡ Err ended → reweighs (Some walk) ≡ Err (of_new ended)
      looped walk ended is =
          let first = loop_plan reads walk net_read.0 net_read.1 in
          let second = loop_plan (exchanged reads) walk net_read.0 net_read.1 in
          reweighs_is (Some walk) ∙ ap (λ r. r >>= behind (Some walk)) first ∙ ap (λ (r : Result Analysis Status). told_of_new r >>= weighed k) (sym second ∙ is)

      -- the plan with NEWRATES is refused
      pub unweighed : (refused : Refused) → TakesAs netlist (exchanged reads) new_plans (Err refused) → TakesAs netlist reads reweighs (Err (refused_new refused))
      unweighed refused (inl memory, nets) =
          (inl (subst IsMemory (sym (new_status refused)) (memory_new (status_of refused) memory)), nets_new netlist reads refused nets)
      unweighed refused (inr (None, loops, is), nets) = (
        inr (None, loops, then ∙ ap (λ r. told_of_new r >>= weighed k) is ∙ ap (λ s. Err s) (sym (new_status refused))),
        nets_new netlist reads refused nets,
      )
      unweighed refused (inr (Some walk, loops, is), nets) = (
        inr (Some walk, loops, looped walk (status_of refused) is ∙ ap (λ s. Err s) (sym (new_status refused))),
        nets_new netlist reads refused nets,
      )

-- ---- the steps of the code

module _ (netlist : Bytes) (set again : Settings) (reads new : Reads) (k : KeptRows) (rows : List Row) (it : AreBefore netlist set reads k)
    (settings : again ≡ set) (read : new ≡ exchanged reads) (same : rows ≡ k.rows) where
  -- the rows may be weighed anew
  pub stay_as : StayDistinct netlist again new rows
  stay_as =
      subst (λ s. StayDistinct netlist s new rows) (sym settings)
      (subst (λ r. StayDistinct netlist set r rows) (sym read)
      (subst (StayDistinct netlist set (exchanged reads)) (sym same) (stay_distinct netlist set reads it.plan k it.planned it.distinct)))

  taken_as : (result : Result Analysis Refused) → TakesAs netlist new (λ walk. plan_of netlist walk again new) result
      → TakesAs netlist (exchanged reads) (new_plans netlist set reads) result
  taken_as result taken =
      subst (λ s. TakesAs netlist (exchanged reads) (λ walk. plan_of netlist walk s (exchanged reads)) result) settings
      (subst (λ r. TakesAs netlist r (λ walk. plan_of netlist walk again r) result) read taken)

  pub reweighed_as : (made : ReweighedOf) → WeighsAs netlist again new rows (Ok made) → ReweighsAs netlist set reads (Ok made)
  reweighed_as made (taken, rows_are) =
      let q : Analysis = made.planned.plan in
      let all : reweighed q k.rows ≡ made.rows = sym (rows_are ∙ ap (reweighed q) same) in
      subst (λ rs. TakesAs netlist reads (reweighs netlist set reads) (Ok (Reweighed q rs))) all
      (weighed_made netlist set reads it.plan it.planned k it.kept q (taken_as (Ok q) taken))

  pub unweighed_as : (refused : Refused) → WeighsAs netlist again new rows (Err refused) → ReweighsAs netlist set reads (Err (refused_new refused))
  unweighed_as refused taken = unweighed netlist set reads it.plan it.planned k it.kept refused (taken_as (Err refused) taken)

-- ---- what stands behind rows that were given

-- they are those of RESULT, by the plan that the four files are with NEWRATES
pub record AreRenewed (netlist : Bytes) (set : Settings) (reads : Reads) (q : Analysis) (rows : List Row) : Type 0 where
  pub before : Analysis
  pub k : KeptRows
  pub planned : plan_of netlist None set reads ≡ Ok before
  pub kept : rows_in which.First reads before ≡ Ok k
  pub run : plan_of netlist None set (exchanged reads) ≡ Ok q
  pub rows_are : rows ≡ reweighed q k.rows

refused_none : (r : Result KeptRows ResultRefusal) (k : KeptRows) → or_refuse status.Result r ≡ Ok k → r ≡ Ok k
refused_none (Ok other) k e = ap (λ x. Ok x) (ok_same (or_refuse status.Result (Ok other)) other k refl e)
refused_none (Err why) k e = let bad : Err (status.Result why) ≡ Ok k = e in cc bad

told_ok : {A : Type 0} (r : Result A Status) (x : A) → told_of_new r ≡ Ok x → r ≡ Ok x
told_ok (Ok y) x e = e
told_ok (Err ended) x e = let bad : Err (of_new ended) ≡ Ok x = e in cc bad

-- the plan and the rows of what is worked on
plan_in : Analysis → Judged → Analysis
plan_in other (Reweighed q rows) = q
plan_in other it = other

rows_of : List Row → Judged → List Row
rows_of other (Reweighed q rows) = rows
rows_of other it = other

pub are_renewed : (netlist : Bytes) (set : Settings) (reads : Reads) (q : Analysis) (rows : List Row)
    → judge netlist None set reads kind.Reweighed ≡ Ok (Reweighed q rows) → AreRenewed netlist set reads q rows
unfolding plan_in rows_of
are_renewed netlist set reads q rows is =
    let first = bound (plans netlist set reads None) (behind netlist set reads None) (Reweighed q rows) (sym (reweighs_is netlist set reads None) ∙ is) in
    let p = first.0 in
    let second = bound (rows_in which.First reads p) (renewed netlist set reads None) (Reweighed q rows) first.2 in
    let k = second.0 in
    let third = bound (told_of_new (new_plans netlist set reads None)) (weighed netlist set reads k) (Reweighed q rows) second.2 in
    let other : Analysis = third.0 in
    let given : Reweighed other (reweighed other k.rows) ≡ Reweighed q rows = ok_same (Ok (Reweighed q rows)) _ (Reweighed q rows) (sym third.2) refl in
    let same : other ≡ q = ap (plan_in p) given in
    record {
      before = p;
      k = k;
      planned = first.1;
      kept = second.1;
      run = told_ok (new_plans netlist set reads None) other third.1 ∙ ap (λ x. Ok x) same;
      rows_are = sym (ap (rows_of []) given) ∙ ap (λ plan. reweighed plan k.rows) same;
    }

-- so they are of distinct batches
whole_rows : (reads : Reads) (p : Analysis) (k : KeptRows) → rows_in which.First reads p ≡ Ok k
    → (bytes : Bytes) × (kept_of (own_header reads p) p bytes ≡ Ok k)
whole_rows reads p k is =
    let read = bound (whole which.First reads) (λ bytes. or_refuse status.Result (kept_of (own_header reads p) p bytes)) k is in
    (read.0, refused_none (kept_of (own_header reads p) p read.0) k read.2)

pub kept_distinct_before : (netlist : Bytes) (set : Settings) (reads : Reads) (q : Analysis) (rows : List Row) (it : AreRenewed netlist set reads q rows)
    → AreDistinct it.before (kept_entries it.k)
kept_distinct_before netlist set reads q rows it =
    let read = whole_rows reads it.before it.k it.kept in
    kept_distinct (own_header reads it.before) it.before read.0 it.k read.1
