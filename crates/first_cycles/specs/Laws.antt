-- Laws of first cycles: what one simulation of a fault shows decides it for any points and any interval.
use Rattle.std.specs.Prelude.{◌≡◌, ℕ, Bool, true, false, not, ◌&&◌, ◌||◌, List, map}
use Rattle.circuit.specs.declared.parts.Fault.{Fault}
use Rattle.circuit.specs.Circuit.{Circuit}
use Rattle.workload.specs.declared.run.Run.{Run}
use Rattle.alarm_points.specs.declared.Points.{Points}
use Rattle.metric_sums.specs.declared.Role.{Role}
use Rattle.metric_sums.specs.Classes.{class_of, is_mechanism}
use Rattle.metric_sums.specs.Totals.{share_of}
use Rattle.campaign_plan.specs.Analysis.{Analysis}
use Rattle.campaign_plan.specs.Batches.{true_planes}
use Rattle.campaign_plan.specs.Danger.{is_dangerous, is_noticed}
use Rattle.first_cycles.specs.Shown.{danger_by, notice_by, planes_by, shown_in, shown_of}

-- DANGER, for every points, every interval and every list of runs, is by what the runs show
abbrev pub DangerIsShown : Type 0
DangerIsShown = (c : Circuit) (points : Points) (ftti : ℕ) (runs : List Run) (x : List Fault)
    → is_dangerous c points ftti runs x ≡ danger_by points ftti (map (shown_in c x) runs)

-- and so is NOTICE
abbrev pub NoticeIsShown : Type 0
NoticeIsShown = (c : Circuit) (points : Points) (runs : List Run) (x : List Fault)
    → is_noticed c points runs x ≡ notice_by points (map (shown_in c x) runs)

-- THE TRUE PLANES of a plan are those by what its runs show
abbrev pub PlanesAreShown : Type 0
PlanesAreShown = (p : Analysis) (batch : ℕ) → true_planes p batch ≡ planes_by (shown_of p) p batch

-- NOTICE COUNTS ON MECHANISMS ALONE: of a dangerous fault, and of one that isn't a permanent fault of a mechanism, the five sums are the same
-- whether it is noticed or not
abbrev pub NoticeIsIdle : Type 0
NoticeIsIdle = (dangerous : Bool) (role : Role) (covered permanent : Bool) (weight : ℕ) → (dangerous || not (permanent && is_mechanism role)) ≡ true
    → share_of (class_of dangerous true role covered permanent) permanent weight ≡ share_of (class_of dangerous false role covered permanent) permanent weight
