-- What is judged behind a netlist and behind a plan.
use Rattle.std.proofs.Common.{◌≡◌, ap, refl, List, inl, inr}
use Rattle.std.specs.Prelude.{Option, Some, None, Result, Ok, Err, length, nat_lt, if◌then◌else◌}
use Rattle.fm_base.specs.Names.{Bytes}
use Rattle.circuit.specs.declared.parts.NetId.{NetId}
use Rattle.circuit.specs.Circuit.{Circuit}
use Rattle.workload.specs.declared.run.Run.{Run}
use Rattle.workload.specs.WorkloadFile.{workload_of}
use Rattle.rate_table.specs.RatesFile.{rates_of}
use Rattle.rate_table.specs.Table.{RateTable}
use Rattle.alarm_points.specs.declared.Points.{Points}
use Rattle.campaign_plan.specs.Analysis.{Analysis}
use Rattle.campaign_plan.specs.declared.Settings.{Settings}
use Rattle.result_file.specs.declared.KeptRows.{KeptRows}
use Rattle.result_file.specs.declared.Row.{Row}
use Rattle.result_merge.specs.Merged.{merged}
use Rattle.commands.specs.declared.command.Kind.TheVariants as kind
use Rattle.commands.specs.declared.command.Which.TheVariants as which
use Rattle.refusals.specs.declared.refused.Refused.{Refused}
use Rattle.refusals.specs.declared.refused.Refused.TheVariants.{By}
use Rattle.refusals.specs.declared.status.Status.{Status}
use Rattle.refusals.specs.declared.status.Status.TheVariants as status
use Rattle.refusals.specs.NetlistFile.{or_refuse}
use Rattle.command_reads.specs.Answers.{AnswersAs, BothAs, TakesAs, both_behind, classes_plan, outputs_step}
use Rattle.command_reads.specs.Files.{Reads}
use Rattle.command_reads.specs.FirstRefusal.{Judged, Planned, Driven, Rated, Begun, Merged, classes_plan_of, judge, netlist_step, plan_of, read_as, rows_in, unless, ◌>>=◌}
use Rattle.command_reads.proofs.Steps.{first_refused, next_answers, taken_refused, taken_next, taken_next_refused}

-- ---- two result files behind a plan

-- the rows of both
abbrev both_rows : Analysis → (first second : KeptRows) → Result (List Row) Status
both_rows p first second = or_refuse status.Merge (merged p first.rows second.rows)

abbrev merged_by : Analysis → List Row → Result Judged Status
merged_by p both = Ok (Merged p both)

abbrev behind_first : Analysis → Reads → KeptRows → Result Judged Status
behind_first p reads first = rows_in which.Second reads p >>= (λ second. both_rows p first second >>= merged_by p)

module _ (p : Analysis) (reads : Reads) where
  -- the first is refused
  pub both_first : (ended : Status) → AnswersAs (rows_in which.First reads p) (Err ended) → AnswersAs (both_behind p reads) (Err ended)
  unfolding both_behind
  both_first ended refused = first_refused (rows_in which.First reads p) (behind_first p reads) ended refused

  module _ (first : KeptRows) (one : rows_in which.First reads p ≡ Ok first) where
    after_first : (result : Result Judged Status) → AnswersAs (behind_first p reads first) result → AnswersAs (both_behind p reads) result
    unfolding both_behind
    after_first result answer = next_answers (rows_in which.First reads p) first (behind_first p reads) result one answer

    -- the second is refused
    pub both_second : (ended : Status) → AnswersAs (rows_in which.Second reads p) (Err ended) → AnswersAs (both_behind p reads) (Err ended)
    both_second ended refused = after_first (Err ended) (first_refused (rows_in which.Second reads p) (λ second. both_rows p first second >>= merged_by p) ended refused)

    -- both are read: their rows, or a batch that stands in both with other planes
    pub both_answer : (second : KeptRows) → rows_in which.Second reads p ≡ Ok second → (result : Result (List Row) Status) → AnswersAs (both_rows p first second) result
        → BothAs p reads result
    both_answer second two result answer = by_result result answer
      where
        after_second : (made : Result Judged Status) → AnswersAs (both_rows p first second >>= merged_by p) made → AnswersAs (both_behind p reads) made
        after_second made own =
            after_first made (next_answers (rows_in which.Second reads p) second (λ other. both_rows p first other >>= merged_by p) made two own)

        by_result : (r : Result (List Row) Status) → AnswersAs (both_rows p first second) r → BothAs p reads r
        by_result (Ok rows) is = after_second (Ok (Merged p rows)) (ap (λ r. r >>= merged_by p) is)
        by_result (Err ended) refused = after_second (Err ended) (first_refused (both_rows p first second) (merged_by p) ended refused)

-- ---- behind a plan
module _ (netlist : Bytes) (set : Settings) (reads : Reads) where
  abbrev plans : Option (List NetId) → Result Analysis Status
  plans walk = plan_of netlist walk set reads

  abbrev begins : Option (List NetId) → Result Judged Status
  begins walk = judge netlist walk set reads kind.Begun

  abbrev begun_next : Analysis → Result Judged Status
  begun_next p = rows_in which.Result reads p >>= (λ k. Ok (Begun p k))

  begun_is : (walk : Option (List NetId)) → begins walk ≡ (plans walk >>= begun_next)
  unfolding judge
  begun_is walk = refl

  pub begun_unplanned : (refused : Refused) → TakesAs netlist reads plans (Err refused) → TakesAs netlist reads begins (Err refused)
  begun_unplanned = taken_refused netlist reads plans begun_next begins begun_is

  -- what is kept of the result file
  pub begun_refused : (p : Analysis) (ended : Status) → TakesAs netlist reads plans (Ok p) → AnswersAs (rows_in which.Result reads p) (Err ended)
      → TakesAs netlist reads begins (Err (By ended))
  begun_refused p ended planned refused =
      taken_next_refused netlist reads plans begun_next begins begun_is p ended planned
      (first_refused (rows_in which.Result reads p) (λ k. Ok (Begun p k)) ended refused)

  pub begun_made : (p : Analysis) (k : KeptRows) → TakesAs netlist reads plans (Ok p) → rows_in which.Result reads p ≡ Ok k
      → TakesAs netlist reads begins (Ok (Begun p k))
  begun_made p k planned kept =
      taken_next netlist reads plans begun_next begins begun_is p (Begun p k) planned (ap (λ r. r >>= (λ it. Ok (Begun p it))) kept)

  abbrev merges : Option (List NetId) → Result Judged Status
  merges walk = judge netlist walk set reads kind.Merged

  abbrev merged_next : Analysis → Result Judged Status
  merged_next p = both_behind p reads

  merged_is : (walk : Option (List NetId)) → merges walk ≡ (plans walk >>= merged_next)
  unfolding judge both_behind
  merged_is walk = refl

  pub merged_unplanned : (refused : Refused) → TakesAs netlist reads plans (Err refused) → TakesAs netlist reads merges (Err refused)
  merged_unplanned = taken_refused netlist reads plans merged_next merges merged_is

  pub merged_refused : (p : Analysis) (ended : Status) → TakesAs netlist reads plans (Ok p) → AnswersAs (both_behind p reads) (Err ended)
      → TakesAs netlist reads merges (Err (By ended))
  merged_refused p ended planned refused = taken_next_refused netlist reads plans merged_next merges merged_is p ended planned refused

  pub merged_made : (p : Analysis) (rows : List Row) → TakesAs netlist reads plans (Ok p) → both_behind p reads ≡ Ok (Merged p rows)
      → TakesAs netlist reads merges (Ok (Merged p rows))
  merged_made p rows planned both = taken_next netlist reads plans merged_next merges merged_is p (Merged p rows) planned both

-- ---- behind a netlist

-- what an answer refuses by
abbrev status_or : {A : Type 0} → Status → Result A Status → Status
status_or other (Ok x) = other
status_or other (Err ended) = ended

-- the same refusal of another value
unless_ok : {A B : Type 0} (refusal : Option Status) (x : A) (y z : B) → unless refusal y ≡ Ok z → unless refusal x ≡ Ok x
unless_ok None x y z e = refl
unless_ok (Some why) x y z e = let bad : Err why ≡ Ok z = e in cc bad

unless_err : {A B : Type 0} (refusal : Option Status) (x : A) (y : B) (ended : Status) → unless refusal y ≡ Err ended → unless refusal x ≡ Err ended
unless_err None x y ended e = let bad : Ok y ≡ Err ended = e in cc bad
unless_err {B = B} (Some why) x y ended e = ap (λ s. Err s) (ap (status_or {A = B} why) e)

unless_answers : {A B : Type 0} (refusal : Option Status) (x : A) (y : B) (ended : Status) → AnswersAs (unless refusal y) (Err ended)
    → AnswersAs (unless refusal x) (Err ended)
unless_answers refusal x y ended (inl memory, plain) = (inl memory, plain)
unless_answers refusal x y ended (inr is, plain) = (inr (unless_err refusal x y ended is), plain)

module _ (netlist : Bytes) (set : Settings) (reads : Reads) where
  abbrev nets : Option (List NetId) → Result Circuit Status
  nets walk = netlist_step netlist walk reads

  -- `parts`
  abbrev rates_in_order : Option (List NetId) → Result Judged Status
  rates_in_order walk = judge netlist walk set reads kind.Rated

  abbrev rated_next : Circuit → Result Judged Status
  rated_next c = read_as which.Rates status.Rates rates_of reads >>= (λ table. Ok (Rated c table))

  rated_is : (walk : Option (List NetId)) → rates_in_order walk ≡ (nets walk >>= rated_next)
  unfolding judge
  rated_is walk = refl

  pub rated_unread : (refused : Refused) → TakesAs netlist reads nets (Err refused) → TakesAs netlist reads rates_in_order (Err refused)
  rated_unread = taken_refused netlist reads nets rated_next rates_in_order rated_is

  pub rated_refused : (c : Circuit) (ended : Status) → TakesAs netlist reads nets (Ok c) → AnswersAs (read_as which.Rates status.Rates rates_of reads) (Err ended)
      → TakesAs netlist reads rates_in_order (Err (By ended))
  rated_refused c ended taken refused =
      taken_next_refused netlist reads nets rated_next rates_in_order rated_is c ended taken
      (first_refused (read_as which.Rates status.Rates rates_of reads) (λ table. Ok (Rated c table)) ended refused)

  pub rated_made : (c : Circuit) (table : RateTable) → TakesAs netlist reads nets (Ok c) → read_as which.Rates status.Rates rates_of reads ≡ Ok table
      → TakesAs netlist reads rates_in_order (Ok (Rated c table))
  rated_made c table taken read =
      taken_next netlist reads nets rated_next rates_in_order rated_is c (Rated c table) taken (ap (λ r. r >>= (λ it. Ok (Rated c it))) read)

  -- `trace`
  abbrev drives : Option (List NetId) → Result Judged Status
  drives walk = judge netlist walk set reads kind.Driven

  abbrev driven_next : Circuit → Result Judged Status
  driven_next c = read_as which.Workload status.Workload (workload_of c) reads >>= (λ runs. Ok (Driven c runs set))

  driven_is : (walk : Option (List NetId)) → drives walk ≡ (nets walk >>= driven_next)
  unfolding judge
  driven_is walk = refl

  pub driven_unread : (refused : Refused) → TakesAs netlist reads nets (Err refused) → TakesAs netlist reads drives (Err refused)
  driven_unread = taken_refused netlist reads nets driven_next drives driven_is

  pub driven_refused : (c : Circuit) (ended : Status) → TakesAs netlist reads nets (Ok c)
      → AnswersAs (read_as which.Workload status.Workload (workload_of c) reads) (Err ended) → TakesAs netlist reads drives (Err (By ended))
  driven_refused c ended taken refused =
      taken_next_refused netlist reads nets driven_next drives driven_is c ended taken
      (first_refused (read_as which.Workload status.Workload (workload_of c) reads) (λ runs. Ok (Driven c runs set)) ended refused)

  pub driven_made : (c : Circuit) (runs : List Run) → TakesAs netlist reads nets (Ok c) → read_as which.Workload status.Workload (workload_of c) reads ≡ Ok runs
      → TakesAs netlist reads drives (Ok (Driven c runs set))
  driven_made c runs taken read =
      taken_next netlist reads nets driven_next drives driven_is c (Driven c runs set) taken (ap (λ r. r >>= (λ it. Ok (Driven c it set))) read)

  -- `classes`: its plan
  abbrev classes : Option (List NetId) → Result Analysis Status
  classes walk = classes_plan_of netlist walk reads

  abbrev too_many : Circuit → Option Status
  too_many c = if nat_lt 1024 (length c.outputs) then Some status.ManyOutputs else None

  abbrev runs_next : Circuit → Result Analysis Status
  runs_next c = read_as which.Workload status.Workload (workload_of c) reads >>= (λ runs. Ok (classes_plan c runs))

  abbrev classes_next : Circuit → Result Analysis Status
  classes_next c = unless (too_many c) c >>= runs_next

  classes_is : (walk : Option (List NetId)) → classes walk ≡ (nets walk >>= classes_next)
  unfolding classes_plan_of
  classes_is walk = refl

  -- and what is judged of it
  abbrev observes : Option (List NetId) → Result Judged Status
  observes walk = judge netlist walk set reads kind.Observed

  abbrev observed_next : Analysis → Result Judged Status
  observed_next p = Ok (Planned p)

  observed_is : (walk : Option (List NetId)) → observes walk ≡ (classes walk >>= observed_next)
  unfolding judge
  observed_is walk = refl

  observed_err : (refused : Refused) → TakesAs netlist reads classes (Err refused) → TakesAs netlist reads observes (Err refused)
  observed_err = taken_refused netlist reads classes observed_next observes observed_is

  pub observed_unread : (refused : Refused) → TakesAs netlist reads nets (Err refused) → TakesAs netlist reads observes (Err refused)
  observed_unread refused taken = observed_err refused (taken_refused netlist reads nets classes_next classes classes_is refused taken)

  module _ (c : Circuit) (taken : TakesAs netlist reads nets (Ok c)) where
    -- too many outputs
    pub observed_crowded : (ended : Status) → AnswersAs (outputs_step c) (Err ended) → TakesAs netlist reads observes (Err (By ended))
    observed_crowded ended refused =
        observed_err (By ended) (taken_next_refused netlist reads nets classes_next classes classes_is c ended taken
        (first_refused (unless (too_many c) c) runs_next ended (unless_answers (too_many c) c _ ended refused)))

    module _ (points : Points) (few : outputs_step c ≡ Ok points) where
      counted : unless (too_many c) c ≡ Ok c
      counted = unless_ok (too_many c) c _ points few

      -- the workload is refused
      pub observed_refused : (ended : Status) → AnswersAs (read_as which.Workload status.Workload (workload_of c) reads) (Err ended)
          → TakesAs netlist reads observes (Err (By ended))
      observed_refused ended refused =
          observed_err (By ended) (taken_next_refused netlist reads nets classes_next classes classes_is c ended taken
          (next_answers (unless (too_many c) c) c runs_next (Err ended) counted
          (first_refused (read_as which.Workload status.Workload (workload_of c) reads) (λ runs. Ok (classes_plan c runs)) ended refused)))

      pub observed_made : (runs : List Run) → read_as which.Workload status.Workload (workload_of c) reads ≡ Ok runs
          → TakesAs netlist reads observes (Ok (Planned (classes_plan c runs)))
      observed_made runs read =
          taken_next netlist reads classes observed_next observes observed_is (classes_plan c runs) (Planned (classes_plan c runs))
          (taken_next netlist reads nets classes_next classes classes_is c (classes_plan c runs) taken
          (next_answers (unless (too_many c) c) c runs_next (Ok (classes_plan c runs)) counted (ap (λ r. r >>= (λ it. Ok (classes_plan c it))) read))) refl
