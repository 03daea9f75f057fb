-- Laws of campaigns that are stopped.
use Rattle.std.specs.Prelude.{◌≡◌, ◌≢◌, List, Ok}
use Rattle.fm_base.specs.Names.{Bytes}
use Rattle.fm_shelf.specs.Content.{Content, Unknown, Absent, Held}
use Rattle.fm_shelf.specs.Outside.{Outside}
use Rattle.campaign_plan.specs.Analysis.{Analysis}
use Rattle.campaign_plan.specs.Batches.{true_planes}
use Rattle.campaign_plan.specs.Kept.{IsPlan}
use Rattle.result_file.specs.declared.KeptRows.{KeptRows}
use Rattle.result_file.specs.KeptRows.{kept}
use Rattle.campaign_run.specs.Left.{LeftPrefix}
use Rattle.refusals.specs.declared.status.Status.TheVariants as status
use Rattle.command_reads.specs.FirstRefusal.{own_header}
use Rattle.fmeda_top.specs.Promises.{Promises}
use Rattle.stopped_runs.specs.Campaigns.{Calls, Campaign, HasNoFalseRow, Holds, IsLeft, IsPlanOf, IsResume, IsRun, Reports, inputs_read}

-- WHAT IS LEFT, wherever the calls of a campaign are stopped
abbrev pub StopsLeave : Type 0
StopsLeave = (c : Campaign) (start left : Content) → HasNoFalseRow c start → Calls c start left → IsLeft c start left

-- STOPPED ANYWHERE: a `resume` behind them that ends by itself has written what one thread would have
abbrev pub StoppedAreResumed : Type 0
StoppedAreResumed =
    (c : Campaign) (start left : Content) → HasNoFalseRow c start → Calls c start left → left ≢ Unknown → (words : List Bytes) → IsResume c words
    → (before after : Outside) → Holds c left before.shelf → Promises words status.Done before after → Reports c before after

-- UNDISTURBED: so has a `run` that ends by itself
abbrev pub UndisturbedReport : Type 0
UndisturbedReport =
    (c : Campaign) (start : Content) (words : List Bytes) → IsRun c words → (before after : Outside) → Holds c start before.shelf
    → Promises words status.Done before after → Reports c before after

-- and both write the same: a campaign has one plan
abbrev pub PlansAreOne : Type 0
PlansAreOne = (c : Campaign) (p q : Analysis) → IsPlanOf c p → IsPlanOf c q → p ≡ q

-- where RESULT wasn't there, or was what such a campaign leaves, no false row would be kept of it
abbrev pub NoneIsFalse : Type 0
NoneIsFalse = (c : Campaign) → HasNoFalseRow c Absent

abbrev pub LeftIsTrue : Type 0
LeftIsTrue = (c : Campaign) (start left : Content) → HasNoFalseRow c start → IsLeft c start left → HasNoFalseRow c left

-- TAKEN UP: what is left of RESULT, once the campaign has changed it, isn't refused
abbrev pub LeftIsTaken : Type 0
LeftIsTaken =
    (c : Campaign) (p : Analysis) (bytes : Bytes) → IsPlanOf c p → IsPlan p → LeftPrefix (own_header (inputs_read c) p) p (true_planes p) (Held bytes)
    → (k : KeptRows) × (kept (own_header (inputs_read c) p) p bytes ≡ Ok k)
