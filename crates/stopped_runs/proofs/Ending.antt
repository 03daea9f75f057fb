-- How one call of a campaign has ended, and what it has left.
use Rattle.std.proofs.Common.{ℕ, ◌≡◌, ◌≢◌, ◌∙◌, ap, refl, sym, subst, ◌⊎◌, inl, inr, ◌≤◌, List, length, Ok, Err}
use Rattle.std.specs.Prelude.{Option, Some, None, Result, MatchResult}
use Rattle.std.proofs.Math.Seq.{take-length}
use Rattle.fm_base.specs.Names.{Bytes}
use Rattle.fm_shelf.specs.Content.{Content, Unknown, Absent, Held, HasIfKnown}
use Rattle.fm_shelf.specs.Shelf.{ShelfState}
use Rattle.fm_shelf.specs.Outside.{Outside}
use Rattle.circuit.specs.declared.parts.NetId.{NetId}
use Rattle.circuit.specs.Circuit.{Circuit}
use Rattle.campaign_plan.specs.declared.Outcome.{Outcome}
use Rattle.campaign_plan.specs.Analysis.{Analysis}
use Rattle.campaign_plan.specs.Batches.{AreTrue, true_planes}
use Rattle.result_file.specs.declared.KeptRows.{KeptRows}
use Rattle.result_file.specs.ResultText.{result_text}
use Rattle.result_file.specs.KeptRows.{kept, kept_entries}
use Rattle.fmeda_report.specs.Report.{report, true_report}
use Rattle.campaign_run.specs.Outside.{KeepsOthers, had_written}
use Rattle.campaign_run.specs.Found.{checkpointed_or_true}
use Rattle.campaign_run.specs.Reported.{HasReported}
use Rattle.campaign_run.specs.Left.{IsPrefixOf, LeftPrefix}
use Rattle.commands.specs.declared.command.Task.TheVariants as task
use Rattle.commands.specs.declared.command.Which.{Which}
use Rattle.commands.specs.declared.command.Which.TheVariants as which
use Rattle.commands.specs.Commands.{Command, kind_of}
use Rattle.command_line.specs.Words.{IsCommand}
use Rattle.refusals.specs.declared.status.Status.{Status}
use Rattle.refusals.specs.declared.status.Status.TheVariants as status
use Rattle.refusals.specs.RefusalLines.{refusal_line}
use Rattle.refusals.specs.WantOfMemory.{IsMemory}
use Rattle.command_reads.specs.declared.files.FileRead.{FileRead}
use Rattle.command_reads.specs.declared.files.FileRead.TheVariants.{Whole}
use Rattle.command_reads.specs.Files.{Reads, WasRead, WereRead}
use Rattle.command_reads.specs.FirstRefusal.{Judged, Planned, Begun, own_header, plan_of}
use Rattle.fmeda_top.specs.TaskRefusals.{judged}
use Rattle.fmeda_top.specs.Ends.{IsDoneOrFailed, MayLeave, RefusedAs, WritesAs}
use Rattle.fmeda_top.specs.Ends.WritesAs.{All, OutFailed, ResultFailed}
use Rattle.fmeda_top.specs.Promises.{CommandEnds, Promises, RanOut}
use Rattle.stopped_runs.specs.Campaigns.{Campaign, HasNoFalseRow, Holds, IsApart, IsLeft, IsPlanOf, Reports, inputs_read, resume_by, run_by}
use Rattle.stopped_runs.proofs.Giving.{AreAlike, IsMade, header_alike, plan_alike, plan_ok, resume_not_done, resume_ok, run_not_done, run_ok}
use Rattle.stopped_runs.proofs.RowsTrue.{found_true}

-- ---- was it refused

-- nothing refused the command, and this is what it has done
pub record HasDone (command : Command) (ended : Status) (before after : Outside) : Type 0 where
  pub reads : Reads
  pub read : WereRead before.shelf after.shelf command.files reads (kind_of command.task)
  pub walk : Option (List NetId)
  pub made : Judged
  pub judged_is : judged walk command reads ≡ Ok made
  pub done : IsDoneOrFailed command made reads ended before after

-- no file has changed, and it isn't done
abbrev HasStayed : Status → (before after : Outside) → Type 0
HasStayed ended before after = (after.shelf.content ≡ before.shelf.content) × (ended ≢ status.Done)

module _ (words : List Bytes) (command : Command) (ended : Status) (before after : Outside) (is : IsCommand words command)
    (not_done : (walk : Option (List NetId)) (reads : Reads) → judged walk command reads ≢ Err status.Done) where
  by_ends : CommandEnds command ended before after → HasDone command ended before after ⊎ HasStayed ended before after
  by_ends (reads, read, (c, walk, loops, ends)) = by_judged (judged walk command reads) refl ends
    where
      by_judged : (r : Result Judged Status) → judged walk command reads ≡ r
          → MatchResult r (λ made. IsDoneOrFailed command made reads ended before after)
          (λ why. (ended ≡ why) × RefusedAs (refusal_line command.files c why) before after)
          → HasDone command ended before after ⊎ HasStayed ended before after
      by_judged (Ok made) got done = inl (record { reads = reads; read = read; walk = walk; made = made; judged_is = got; done = done })
      by_judged (Err why) got (same, (files, said)) =
          inr (files.content, λ done. not_done walk reads (got ∙ ap (λ (s : Status). Err s) (sym same ∙ done)))

  pub ended_as : Promises words ended before after → HasDone command ended before after ⊎ HasStayed ended before after
  ended_as (inl (own, of, alone, ends)) = by_ends (subst (λ it. CommandEnds it ended before after) (sym (alone command is)) ends)
  ended_as (inr (inl (none, usage, refused))) = absurd (none command is)
  ended_as (inr (inr (memory, was, (files, said)))) = inr (files.content, λ done. subst IsMemory done memory)

-- ---- what it has written

whole_prefix : (held : Content) (text : Bytes) → HasIfKnown held text → IsPrefixOf held text
whole_prefix Unknown text is = tt
whole_prefix Absent text is = absurd is
whole_prefix (Held bytes) text is = (length text, is ∙ sym (take-length text))

-- a file that is reported is such a prefix
reported_left : (own text : Bytes) (p : Analysis) (planes : ℕ → Outcome) (kept_bytes : ℕ) (name : Bytes) (before after : Outside)
    → HasReported own text p planes kept_bytes name before after → LeftPrefix own p planes (after.shelf.content name)
reported_left own text p planes kept_bytes name before after is =
    record { entries = is.entries; part = is.whole.0; prefix = whole_prefix (after.shelf.content name) (result_text own p is.entries) is.result }

-- RESULT is as before, or a byte prefix of true rows; and where all was done, it is reported
abbrev WritesTruly : Bytes → Analysis → Status → (name : Bytes) → (before after : Outside) → Type 0
WritesTruly own p ended name before after =
    ((after.shelf.content name ≡ before.shelf.content name) ⊎ LeftPrefix own p (true_planes p) (after.shelf.content name))
    × (ended ≡ status.Done → (kept_bytes : ℕ) × HasReported own (true_report p) p (true_planes p) kept_bytes name before after)

run_writes : (workers : ℕ) (p : Analysis) (reads : Reads) (name : Bytes) (before after : Outside) {ended : Status}
    → WritesAs (task.Run workers) (Planned p) reads name before after ended → WritesTruly (own_header reads p) p ended name before after
run_writes workers p reads name before after (All is) =
    (inr (reported_left (own_header reads p) (true_report p) p (true_planes p) 0 name before after is), λ done. (0, is))
run_writes workers p reads name before after (OutFailed text torn is) =
    (inr (reported_left (own_header reads p) (true_report p) p (true_planes p) 0 name before (had_written before after text) is), λ done. absurd (cc))
run_writes workers p reads name before after (ResultFailed rose left stops said) = (left, λ done. absurd (cc))

module _ (workers : ℕ) (p : Analysis) (k : KeptRows) (same : checkpointed_or_true p k ≡ true_planes p) (reads : Reads) (name : Bytes) (before : Outside) where
  abbrev own : Bytes
  own = own_header reads p

  truly : (after : Outside) (kept_bytes : ℕ) → HasReported own (report p (checkpointed_or_true p k)) p (checkpointed_or_true p k) kept_bytes name before after
      → HasReported own (true_report p) p (true_planes p) kept_bytes name before after
  truly after kept_bytes is = subst (λ (planes : ℕ → Outcome). HasReported own (report p planes) p planes kept_bytes name before after) same is

  resume_writes : (after : Outside) {ended : Status} → WritesAs (task.Resume workers) (Begun p k) reads name before after ended → WritesTruly own p ended name before after
  resume_writes after (All is) =
      let whole = is.resumed.k.whole in
      let reported = truly after whole is.resumed.reported in
      (inr (reported_left own (true_report p) p (true_planes p) whole name before after reported), λ done. (whole, reported))
  resume_writes after (OutFailed text torn is) = (
    inr (reported_left own (true_report p) p (true_planes p) is.resumed.k.whole name before (had_written before after text) (truly (had_written before after text) is.resumed.k.whole is.resumed.reported)),
    λ done. absurd (cc),
  )
  resume_writes after (ResultFailed rose left stops said) = (by_left left, λ done. absurd (cc))
    where
      by_left : (after.shelf.content name ≡ before.shelf.content name) ⊎ MayLeave (task.Resume workers) (Begun p k) reads (before.shelf.content name) (after.shelf.content name)
          → (after.shelf.content name ≡ before.shelf.content name) ⊎ LeftPrefix own p (true_planes p) (after.shelf.content name)
      by_left (inl stayed) = inl stayed
      by_left (inr may) = inr (subst (λ (planes : ℕ → Outcome). LeftPrefix own p planes (after.shelf.content name)) same may.0)

-- ---- what it has read

-- a file that is known and was read whole
known_whole : (before after : ShelfState) (name held : Bytes) (got : FileRead) → before.content name ≡ Held held → WasRead before after name got
    → (bytes : Bytes) × (got ≡ Whole bytes) → got ≡ Whole held
known_whole before after name held got known was (bytes, is) =
    let own = subst (WasRead before after name) is was in
    let same : held ≡ bytes = subst (λ content. HasIfKnown content bytes) known own.0 in
    is ∙ ap (λ b. Whole b) (sym same)

-- what is known holds these bytes
is_held : (content : Content) (bytes : Bytes) → content ≢ Unknown → HasIfKnown content bytes → content ≡ Held bytes
is_held Unknown bytes known is = absurd (known refl)
is_held Absent bytes known is = absurd is
is_held (Held bits) bytes known is = ap (λ b. Held b) is

module _ (c : Campaign) (met : Content) (before after : Outside) (holds : Holds c met before.shelf) where
  abbrev WasReadOf : Reads → Which → Type 0
  WasReadOf reads file = WasRead before.shelf after.shelf (c.files file) (reads file)

  alike : (walk : Option (List NetId)) (p : Analysis) (reads : Reads) → IsMade reads walk p → WasReadOf reads which.Netlist → WasReadOf reads which.Workload
      → WasReadOf reads which.Rates → WasReadOf reads which.Points → AreAlike reads (inputs_read c)
  alike walk p reads made n w r q = record {
    netlist = known_whole before.shelf after.shelf (c.files which.Netlist) (c.inputs which.Netlist) (reads which.Netlist) holds.inputs.0 n made.netlist;
    workload = known_whole before.shelf after.shelf (c.files which.Workload) (c.inputs which.Workload) (reads which.Workload) holds.inputs.1.0 w made.workload;
    rates = known_whole before.shelf after.shelf (c.files which.Rates) (c.inputs which.Rates) (reads which.Rates) holds.inputs.1.1.0 r made.rates;
    points = known_whole before.shelf after.shelf (c.files which.Points) (c.inputs which.Points) (reads which.Points) holds.inputs.1.1.1.0 q made.points;
  }

  plan_is : (walk : Option (List NetId)) (p : Analysis) (reads : Reads) → IsMade reads walk p → AreAlike reads (inputs_read c)
      → plan_of (c.files which.Netlist) walk c.settings reads ≡ Ok p → IsPlanOf c p
  plan_is walk p reads made same plan =
      sym (ap (λ it. plan_of (c.files which.Netlist) it c.settings (inputs_read c)) made.walk_is)
      ∙ sym (plan_alike (c.files which.Netlist) walk c.settings reads (inputs_read c) same) ∙ plan

  -- HOW A CALL OF THE CAMPAIGN HAS ENDED that wasn't refused
  pub record HasEnded (ended : Status) : Type 0 where
    pub p : Analysis
    pub plan : IsPlanOf c p
    pub others : KeepsOthers before.shelf after.shelf (c.files which.Result)
    pub writes : WritesTruly (own_header (inputs_read c) p) p ended (c.files which.Result) before after

  pub run_ends : (workers : ℕ) (ended : Status) → HasDone (run_by c workers) ended before after → HasEnded ended
  run_ends workers ended has =
      let own = run_ok c workers has.walk has.reads has.made has.judged_is in
      let made = plan_ok has.reads c.settings (c.files which.Netlist) has.walk own.0 own.1 in
      let same = alike has.walk own.0 has.reads made has.read.0 has.read.1.0 has.read.1.1.0 has.read.1.1.1.0 in
      let done = subst (λ it. IsDoneOrFailed (run_by c workers) it has.reads ended before after) (sym own.2) has.done in
      record {
        p = own.0;
        plan = plan_is has.walk own.0 has.reads made same own.1;
        others = done.0;
        writes =
            subst (λ header. WritesTruly header own.0 ended (c.files which.Result) before after) (header_alike own.0 has.reads (inputs_read c) same)
            (run_writes workers own.0 has.reads (c.files which.Result) before after done.1);
      }

  pub resume_ends : (workers : ℕ) (ended : Status) → met ≢ Unknown → HasNoFalseRow c met → HasDone (resume_by c workers) ended before after → HasEnded ended
  resume_ends workers ended known truth has =
      let own = resume_ok c workers has.walk has.reads has.made has.judged_is in
      let made = plan_ok has.reads c.settings (c.files which.Netlist) has.walk own.p own.plan in
      let same = alike has.walk own.p has.reads made has.read.0 has.read.1.0 has.read.1.1.0 has.read.1.1.1.0 in
      let plan = plan_is has.walk own.p has.reads made same own.plan in
      let header = header_alike own.p has.reads (inputs_read c) same in
      let read = subst (WasRead before.shelf after.shelf (c.files which.Result)) own.whole_read has.read.1.1.1.1.0 in
      let held : HasIfKnown met own.bytes = subst (λ content. HasIfKnown content own.bytes) holds.here read.0 in
      let rows = subst (λ h. kept h own.p own.bytes ≡ Ok own.k) header own.kept_rows in
      let planes = found_true own.p own.k (truth own.p own.bytes own.k plan (is_held met own.bytes known held) rows) in
      let done = subst (λ it. IsDoneOrFailed (resume_by c workers) it has.reads ended before after) (sym own.made_is) has.done in
      record {
        p = own.p;
        plan = plan;
        others = done.0;
        writes =
            subst (λ h. WritesTruly h own.p ended (c.files which.Result) before after) header
            (resume_writes workers own.p own.k planes has.reads (c.files which.Result) before after done.1);
      }

  -- ---- what it leaves

  abbrev pub Ends : Status → Type 0
  Ends ended = HasEnded ended ⊎ HasStayed ended before after

  pub leaves : (start : Content) (ended : Status) → IsLeft c start met → Ends ended → IsLeft c start (after.shelf.content (c.files which.Result))
  leaves start ended was (inr stayed) =
      subst (IsLeft c start) (sym (ap (λ (content : Bytes → Content). content (c.files which.Result)) stayed.0 ∙ holds.here)) was
  leaves start ended was (inl end) = by_left end.writes.0
    where
      by_left : (after.shelf.content (c.files which.Result) ≡ before.shelf.content (c.files which.Result))
          ⊎ LeftPrefix (own_header (inputs_read c) end.p) end.p (true_planes end.p) (after.shelf.content (c.files which.Result))
          → IsLeft c start (after.shelf.content (c.files which.Result))
      by_left (inl same) = subst (IsLeft c start) (sym (same ∙ holds.here)) was
      by_left (inr left) = inr (end.p, end.plan, left)

  pub reports : (ended : Status) → ended ≡ status.Done → Ends ended → Reports c before after
  reports ended done (inr stayed) = absurd (stayed.1 done)
  reports ended done (inl end) =
      let is = (end.writes.1 done).1 in
      record { p = end.p; plan = end.plan; wrote = is.wrote; entries = is.entries; whole = is.whole; result = is.result }

  -- its inputs stay, where RESULT is none of them
  pub inputs_stay : (ended : Status) → IsApart c → Ends ended → Holds c (after.shelf.content (c.files which.Result)) after.shelf
  inputs_stay ended apart (inr stayed) = record {
    inputs = (
      ap (λ (content : Bytes → Content). content (c.files which.Netlist)) stayed.0 ∙ holds.inputs.0,
      (
        ap (λ (content : Bytes → Content). content (c.files which.Workload)) stayed.0 ∙ holds.inputs.1.0,
        (ap (λ (content : Bytes → Content). content (c.files which.Rates)) stayed.0 ∙ holds.inputs.1.1.0, (ap (λ (content : Bytes → Content). content (c.files which.Points)) stayed.0 ∙ holds.inputs.1.1.1.0, tt)),
      ),
    );
    here = refl;
  }
  inputs_stay ended apart (inl end) = record {
    inputs = (
      end.others.content (c.files which.Netlist) apart.0 ∙ holds.inputs.0,
      (
        end.others.content (c.files which.Workload) apart.1.0 ∙ holds.inputs.1.0,
        (end.others.content (c.files which.Rates) apart.1.1.0 ∙ holds.inputs.1.1.0, (end.others.content (c.files which.Points) apart.1.1.1.0 ∙ holds.inputs.1.1.1.0, tt)),
      ),
    );
    here = refl;
  }

  -- ---- of a call by its words

  pub run_call : (words : List Bytes) (workers : ℕ) (ended : Status) → IsCommand words (run_by c workers) → Promises words ended before after → Ends ended
  run_call words workers ended is promised = by_end (ended_as words (run_by c workers) ended before after is (run_not_done c workers) promised)
    where
      by_end : HasDone (run_by c workers) ended before after ⊎ HasStayed ended before after → Ends ended
      by_end (inl has) = inl (run_ends workers ended has)
      by_end (inr stayed) = inr stayed

  pub resume_call : (words : List Bytes) (workers : ℕ) (ended : Status) → met ≢ Unknown → HasNoFalseRow c met → IsCommand words (resume_by c workers)
      → Promises words ended before after → Ends ended
  resume_call words workers ended known truth is promised =
      by_end (ended_as words (resume_by c workers) ended before after is (resume_not_done c workers) promised)
    where
      by_end : HasDone (resume_by c workers) ended before after ⊎ HasStayed ended before after → Ends ended
      by_end (inl has) = inl (resume_ends workers ended known truth has)
      by_end (inr stayed) = inr stayed
