-- What `progress` says of a target stays so as rows come, and in the report at the end: of the texts.
use Rattle.std.specs.Prelude.{◌≡◌, ◌⊎◌, List, codes}
use Rattle.fm_base.specs.Names.{Bytes}
use Rattle.campaign_plan.specs.Analysis.{Analysis}
use Rattle.campaign_plan.specs.Batches.{Entry}
use Rattle.fmeda_report.specs.Report.{report}
use Rattle.result_file.specs.RowPlanes.{Planes}
use Rattle.metric_bounds.specs.Laws.{IsKeptIn}
use Rattle.metric_bounds.specs.Missing.{AgreeWith}
use Rattle.metric_bounds.specs.Progress.{progress}
use Rattle.campaign_laws.specs.Prints.{Prints, Verdicts, verdicts_text}

-- what is met stays met, what is missed stays missed, and where there is no value there is none later
pub record Stays (first later : Bytes) : Type 0 where
  pub met : first ≡ codes "met" → later ≡ codes "met"
  pub missed : first ≡ codes "missed" → later ≡ codes "missed"
  pub none : first ≡ codes "-" → later ≡ codes "-"

-- the same, but that the value may go: the latent fault metric has none where all permanent faults turn out to be dangerous
pub record StaysOrGoes (first later : Bytes) : Type 0 where
  pub met : first ≡ codes "met" → (later ≡ codes "met") ⊎ (later ≡ codes "-")
  pub missed : first ≡ codes "missed" → (later ≡ codes "missed") ⊎ (later ≡ codes "-")
  pub none : first ≡ codes "-" → later ≡ codes "-"

-- both texts have a word on each target, and the second ones are as the first ones make sure
pub record KeepsVerdicts (first_text later_text : Bytes) : Type 0 where
  pub first : Verdicts
  pub later : Verdicts
  pub said_first : Prints first_text (verdicts_text first)
  pub said_later : Prints later_text (verdicts_text later)
  pub spfm_permanent : Stays first.spfm_permanent later.spfm_permanent
  pub spfm_transient : Stays first.spfm_transient later.spfm_transient
  pub lfm : StaysOrGoes first.lfm later.lfm
  pub term : Stays first.term later.term

-- more: so as rows come
-- ends: and so in the report, whatever planes the missing batches turn out to have
pub record VerdictsStay (p : Analysis) : Type 0 where
  pub more : (first later : List Entry) → IsKeptIn first later → KeepsVerdicts (progress p first) (progress p later)
  pub ends : (entries : List Entry) (planes : Planes) → AgreeWith entries planes → KeepsVerdicts (progress p entries) (report p planes)

-- A TARGET THAT IS MET OR MISSED STAYS SO, or the latent fault metric loses its value
abbrev pub PrintedVerdictsStay : Type 0
PrintedVerdictsStay = (p : Analysis) → VerdictsStay p
