-- Calls of a campaign, one behind the other.
use Rattle.std.proofs.Common.{◌≡◌, ◌≢◌, ◌∙◌, ap, refl, sym, subst, inl, inr, List, length, Ok}
use Rattle.fm_base.specs.Names.{Bytes}
use Rattle.fm_shelf.specs.Content.{Content, Unknown, Absent, Held}
use Rattle.fm_shelf.specs.Outside.{Outside}
use Rattle.campaign_plan.specs.Analysis.{Analysis}
use Rattle.campaign_plan.specs.Batches.{true_planes}
use Rattle.campaign_run.specs.Left.{LeftPrefix}
use Rattle.campaign_run.specs.Stopped.{StoppedAreTakenUp}
use Rattle.commands.specs.declared.command.Which.TheVariants as which
use Rattle.command_reads.specs.FirstRefusal.{own_header}
use Rattle.refusals.specs.declared.status.Status.TheVariants as status
use Rattle.stopped_runs.specs.Campaigns.{Calls, Campaign, HasNoFalseRow, Holds, IsLeft, IsPlanOf, IsResume, IsRun, Reports, inputs_read}
use Rattle.stopped_runs.specs.Campaigns.Calls.{Run, Resume}
use Rattle.stopped_runs.specs.Laws.{LeftIsTaken, LeftIsTrue, NoneIsFalse, PlansAreOne, StoppedAreResumed, StopsLeave, UndisturbedReport}
use Rattle.stopped_runs.proofs.Giving.{plan_ok}
use Rattle.stopped_runs.proofs.RowsTrue.{length-header, prefix_true}
use Rattle.stopped_runs.proofs.Ending.{leaves, reports, resume_call, run_call}

pub plans_are_one : PlansAreOne
plans_are_one c p q first second = let both : Ok p ≡ Ok q = sym first ∙ second in cc

length-own : (c : Campaign) (p : Analysis) → length (own_header (inputs_read c) p) ≡ 89
length-own c p = length-header _ _

pub left_is_true : LeftIsTrue
left_is_true c start left truth (inl same) = λ p bytes k plan is rows. truth p bytes k plan (sym same ∙ is) rows
left_is_true c start left truth (inr (q, of, prefix)) = λ p bytes k plan is rows.
    let one : q ≡ p = plans_are_one c q p of plan in
    let own : LeftPrefix (own_header (inputs_read c) p) p (true_planes p) left =
    subst (λ a. LeftPrefix (own_header (inputs_read c) a) a (true_planes a) left) one prefix in
    prefix_true (own_header (inputs_read c) p) p bytes k (length-own c p) (plan_ok (inputs_read c) c.settings (c.files which.Netlist) _ p plan).rated
    (subst (LeftPrefix (own_header (inputs_read c) p) p (true_planes p)) is own) rows

pub none_is_false : NoneIsFalse
none_is_false c = λ p bytes k plan is rows. absurd (cc)

pub stops_leave : StopsLeave
stops_leave c start left truth (Run words ended before after _ run promised met there) =
    subst (IsLeft c start) there.here
    (leaves c start before after met start ended (inl refl) (run_call c start before after met words run.0 ended run.1 promised))
stops_leave c start left truth (Resume words ended before after met _ calls known resume promised meets there) =
    let was = stops_leave c start met truth calls in
    subst (IsLeft c start) there.here
    (leaves c met before after meets start ended was
    (resume_call c met before after meets words resume.0 ended known (left_is_true c start met truth was) resume.1 promised))

pub stopped_resumed : StoppedAreResumed
stopped_resumed c start left truth calls known words resume before after meets promised =
    reports c left before after meets status.Done refl
    (resume_call c left before after meets words resume.0 status.Done known (left_is_true c start left truth (stops_leave c start left truth calls)) resume.1 promised)

pub undisturbed : UndisturbedReport
undisturbed c start words run before after met promised =
    reports c start before after met status.Done refl (run_call c start before after met words run.0 status.Done run.1 promised)

pub left_is_taken : StoppedAreTakenUp → LeftIsTaken
left_is_taken law c p bytes of plan left =
    let taken = law p plan (own_header (inputs_read c) p) bytes left.entries left.prefix.0 (length-own c p) left.part left.prefix.1 in
    (taken.k, taken.kept_rows)
