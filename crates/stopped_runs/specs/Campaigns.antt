-- A campaign whose calls are stopped, and what of it stands in its result file then.
use Rattle.std.specs.Prelude.{◌≡◌, ◌≢◌, ◌⊎◌, ℕ, List, None, Ok}
use Rattle.std.specs.List.{AllByRecursion as ForEach}
use Rattle.fm_base.specs.Names.{Bytes}
use Rattle.fm_shelf.specs.Content.{Content, Unknown, Held, HasIfKnown}
use Rattle.fm_shelf.specs.Shelf.{ShelfState}
use Rattle.fm_shelf.specs.Sink.{Wrote}
use Rattle.fm_shelf.specs.Outside.{Outside}
use Rattle.campaign_plan.specs.declared.Settings.{Settings}
use Rattle.campaign_plan.specs.Analysis.{Analysis}
use Rattle.campaign_plan.specs.Batches.{AreTrue, Entry, true_planes}
use Rattle.result_file.specs.declared.KeptRows.{KeptRows}
use Rattle.result_file.specs.KeptRows.{kept, kept_entries}
use Rattle.result_file.specs.ResultText.{result_text}
use Rattle.fmeda_report.specs.Report.{true_report}
use Rattle.campaign_run.specs.Found.{IsWhole}
use Rattle.campaign_run.specs.Left.{LeftPrefix}
use Rattle.commands.specs.declared.command.Kind.TheVariants as kind
use Rattle.commands.specs.declared.command.Task.{Task}
use Rattle.commands.specs.declared.command.Task.TheVariants as task
use Rattle.commands.specs.declared.command.Which.{Which}
use Rattle.commands.specs.declared.command.Which.TheVariants as which
use Rattle.commands.specs.Commands.{Command, inputs_of}
use Rattle.command_line.specs.Words.{IsCommand}
use Rattle.refusals.specs.declared.status.Status.{Status}
use Rattle.command_reads.specs.declared.files.FileRead.TheVariants.{Whole}
use Rattle.command_reads.specs.Files.{Reads}
use Rattle.command_reads.specs.FirstRefusal.{own_header, plan_of}
use Rattle.fmeda_top.specs.Promises.{Promises}

-- A CAMPAIGN: the names of its files, its settings, and the bytes of its four inputs
pub record Campaign : Type 0 where
  pub files : Which → Bytes
  pub settings : Settings
  pub inputs : Which → Bytes

module _ (c : Campaign) where
  -- a `run` of it, and a `resume`, by so many workers
  abbrev pub run_by : (workers : ℕ) → Command
  run_by workers = record { files = c.files; settings = c.settings; task = task.Run workers }

  abbrev pub resume_by : (workers : ℕ) → Command
  resume_by workers = record { files = c.files; settings = c.settings; task = task.Resume workers }

  -- the words are one
  abbrev pub IsRun : (words : List Bytes) → Type 0
  IsRun words = (workers : ℕ) × IsCommand words (run_by workers)

  abbrev pub IsResume : (words : List Bytes) → Type 0
  IsResume words = (workers : ℕ) × IsCommand words (resume_by workers)

  -- RESULT is the name of none of its inputs
  abbrev pub IsApart : Type 0
  IsApart = ForEach (λ file. c.files file ≢ c.files which.Result) (inputs_of kind.Planned)

  -- its inputs, read whole
  abbrev pub inputs_read : Reads
  inputs_read file = Whole (c.inputs file)

  -- ITS PLAN: no check refuses the inputs, and this is what they stand for
  abbrev pub IsPlanOf : Analysis → Type 0
  IsPlanOf p = plan_of (c.files which.Netlist) None c.settings inputs_read ≡ Ok p

  -- a shelf on which its inputs are known to be these, and this is known of RESULT
  pub record Holds (result : Content) (shelf : ShelfState) : Type 0 where
    pub inputs : ForEach (λ file. shelf.content (c.files file) ≡ Held (c.inputs file)) (inputs_of kind.Planned)
    pub here : shelf.content (c.files which.Result) ≡ result

  -- WHAT A STOP LEAVES of RESULT: it is as it was before the campaign, or a byte prefix of a result file of the campaign's batches with the
  -- planes that they truly have
  abbrev pub IsLeft : (start result : Content) → Type 0
  IsLeft start result = (result ≡ start) ⊎ ((p : Analysis) × IsPlanOf p × LeftPrefix (own_header inputs_read p) p (true_planes p) result)

  -- no false row would be kept of RESULT: there is no such file, or it is refused, or each row that is kept of it has the planes that its batch
  -- truly has
  abbrev pub HasNoFalseRow : Content → Type 0
  HasNoFalseRow result =
      (p : Analysis) (bytes : Bytes) (k : KeptRows) → IsPlanOf p → result ≡ Held bytes → kept (own_header inputs_read p) p bytes ≡ Ok k → AreTrue p (kept_entries k)

  -- the report of one thread that takes the faults in order was written, and RESULT has each batch once
  pub record Reports (before after : Outside) : Type 0 where
    pub p : Analysis
    pub plan : IsPlanOf p
    pub wrote : Wrote before.out after.out (true_report p)
    pub entries : List Entry
    pub whole : IsWhole p (true_planes p) entries
    pub result : HasIfKnown (after.shelf.content (c.files which.Result)) (result_text (own_header inputs_read p) p entries)

  -- CALLS OF IT, one behind the other, each stopped at any moment or ended by itself: a `run` that met this in RESULT, and any number of
  -- `resume`s, each of which met what the call before it left; nothing else writes its files
  pub data Calls (start : Content) : (left : Content) → Type 0 where
    Run : (words : List Bytes) (ended : Status) (before after : Outside) (left : Content) → IsRun words → Promises words ended before after
        → Holds start before.shelf → Holds left after.shelf → Calls start left
    Resume : (words : List Bytes) (ended : Status) (before after : Outside) (met left : Content) → Calls start met → met ≢ Unknown → IsResume words
        → Promises words ended before after → Holds met before.shelf → Holds left after.shelf → Calls start left
