-- Several safety goals, each with its own interval, on a circuit whose alarm comes one cycle late.
use Rattle.std.proofs.Common.{◌≡◌, ℕ, List, [], ◌∷◌, ◌++◌, refl, codes}
use Rattle.std.specs.Prelude.{Some, None, Ok, Err}
use Rattle.test_definitions.specs.Opened.{opened}
use Rattle.alarm_points.specs.PointsFile.{points_of}
use Rattle.alarm_points.specs.declared.PointsKind.TheVariants as point
use Rattle.campaign_plan.specs.Analysis.{Analysis}
use Rattle.campaign_plan.specs.Batches.{true_planes}
use Rattle.refusals.specs.Texts.{check_text}
use Rattle.test_definitions.specs.Circuits.{dupl, net}
use Rattle.test_definitions.specs.Files.{plan_of, dupl_rates, five_vectors}

-- a points file with goals
abbrev points : List ℕ → List ℕ
points rows = codes "goal,ftti,kind,net\n" ++ rows

pub two_goals : Analysis
unfolding opened
two_goals = plan_of dupl five_vectors dupl_rates (points (codes "now,0,observe,y\nsoon,1,observe,y\n-,-,alarm,al\n")) 0 []

pub one_goal : Analysis
unfolding opened
one_goal = plan_of dupl five_vectors dupl_rates (points (codes "soon,1,observe,y\n-,-,alarm,al\n")) 0 []

pub no_interval : Analysis
unfolding opened
no_interval = plan_of dupl five_vectors dupl_rates (points (codes "now,-,observe,y\n-,-,alarm,al\n")) 1 []

-- dangerous for the goal whose interval ends before the alarm
pub danger_now : true_planes two_goals 0 ≡ record { danger = 0x3f; noticed = 0xbb0 }
unfolding two_goals opened
danger_now = refl

-- without that goal the alarm comes in time
pub danger_soon : true_planes one_goal 0 ≡ record { danger = 0xf; noticed = 0xbb0 }
unfolding one_goal opened
danger_soon = refl

-- a goal without an interval has that of the settings
pub danger_default : true_planes no_interval 0 ≡ record { danger = 0xf; noticed = 0xbb0 }
unfolding no_interval opened
danger_default = refl

pub goals_read : points_of dupl (points (codes "now,0,observe,y\nsoon,1,observe,y\n-,-,alarm,al\nnow,0,observe,a\n")) ≡ Ok (record {
  goals = record { name = codes "now"; ftti = Some 0; observe = net 2 ∷ net 0 ∷ [] } ∷ record { name = codes "soon"; ftti = Some 1; observe = net 2 ∷ [] } ∷ [];
  alarm = net 3 ∷ [];
})
unfolding opened
goals_read = refl

-- the observation points of all goals are counted
pub counted : check_text two_goals ≡ codes "netlist nets 6 inputs 2 tables 3 latches 1\nworkload workloads 1 cycles 5\nrates parts 3 units 10000000\npoints observe 2 alarm 1\nfaults 12 batches 1\n"
unfolding two_goals opened
counted = refl

-- ---- refusals

pub too_long : points_of dupl (points (codes "g,5000,observe,y\n")) ≡ Err (record { row = 2; kind = point.BadInterval })
unfolding opened
too_long = refl

pub longest : points_of dupl (points (codes "g,4096,observe,y\n")) ≡ Ok (record { goals = record { name = codes "g"; ftti = Some 4096; observe = net 2 ∷ [] } ∷ []; alarm = [] })
unfolding opened
longest = refl

pub just_too_long : points_of dupl (points (codes "g,4097,observe,y\n")) ≡ Err (record { row = 2; kind = point.BadInterval })
unfolding opened
just_too_long = refl

pub leading_zero : points_of dupl (points (codes "g,01,observe,y\n")) ≡ Err (record { row = 2; kind = point.BadInterval })
unfolding opened
leading_zero = refl

pub empty_interval : points_of dupl (points (codes "g,,observe,y\n")) ≡ Err (record { row = 2; kind = point.BadInterval })
unfolding opened
empty_interval = refl

pub no_number : points_of dupl (points (codes "g,1 ,observe,y\n")) ≡ Err (record { row = 2; kind = point.BadInterval })
unfolding opened
no_number = refl

pub other_interval : points_of dupl (points (codes "g,1,observe,y\nh,2,observe,y\ng,2,observe,a\n")) ≡ Err (record { row = 4; kind = point.BadInterval })
unfolding opened
other_interval = refl

pub interval_of_alarm : points_of dupl (points (codes "-,1,alarm,al\n")) ≡ Err (record { row = 2; kind = point.BadInterval })
unfolding opened
interval_of_alarm = refl

pub goal_of_alarm : points_of dupl (points (codes "g,-,alarm,al\n")) ≡ Err (record { row = 2; kind = point.BadGoal })
unfolding opened
goal_of_alarm = refl

pub no_goal : points_of dupl (points (codes ",1,observe,y\n")) ≡ Err (record { row = 2; kind = point.BadGoal })
unfolding opened
no_goal = refl

-- a dash is a goal's name like any other
pub dash_goal : points_of dupl (points (codes "-,-,observe,y\n")) ≡ Ok (record { goals = record { name = codes "-"; ftti = None; observe = net 2 ∷ [] } ∷ []; alarm = [] })
unfolding opened
dash_goal = refl

pub five_goals : points_of dupl (points (codes "a,-,observe,y\nb,-,observe,y\nc,-,observe,y\nd,-,observe,y\ne,-,observe,y\n")) ≡ Err (record { row = 6; kind = point.BadGoal })
unfolding opened
five_goals = refl

-- a further row of one of four goals is no fifth goal
pub four_goals : points_of dupl (points (codes "a,-,observe,y\nb,-,observe,y\nc,-,observe,y\nd,2,observe,y\nd,2,observe,z\n")) ≡ Ok (record {
  goals = record { name = codes "a"; ftti = None; observe = net 2 ∷ [] } ∷ record { name = codes "b"; ftti = None; observe = net 2 ∷ [] }
      ∷ record { name = codes "c"; ftti = None; observe = net 2 ∷ [] } ∷ record { name = codes "d"; ftti = Some 2; observe = net 2 ∷ net 4 ∷ [] } ∷ [];
  alarm = [];
})
unfolding opened
four_goals = refl

-- an alarm row is no first row of the goal that is called by a dash
pub dash_after_alarm : points_of dupl (points (codes "-,-,alarm,al\n-,1,observe,y\n")) ≡ Ok (record { goals = record { name = codes "-"; ftti = Some 1; observe = net 2 ∷ [] } ∷ []; alarm = net 3 ∷ [] })
unfolding opened
dash_after_alarm = refl

-- the kinds in their order: the fifth goal is looked at before its interval, and a point that stood before ahead of both
pub fifth_first : points_of dupl (points (codes "a,-,observe,y\nb,-,observe,y\nc,-,observe,y\nd,-,observe,y\ne,x,observe,y\n")) ≡ Err (record { row = 6; kind = point.BadGoal })
unfolding opened
fifth_first = refl

pub twice_first : points_of dupl (points (codes "g,1,observe,y\ng,2,observe,y\n")) ≡ Err (record { row = 3; kind = point.Twice })
unfolding opened
twice_first = refl

-- one net may be observed by several goals and may be an alarm, but only once for each
pub alarm_twice : points_of dupl (points (codes "g,1,observe,y\n-,-,alarm,y\n-,-,alarm,y\n")) ≡ Err (record { row = 4; kind = point.Twice })
unfolding opened
alarm_twice = refl

pub no_observe : points_of dupl (points (codes "-,-,alarm,y\n")) ≡ Err (record { row = 1; kind = point.NoObserve })
unfolding opened
no_observe = refl

pub two_fields : points_of dupl (points (codes "observe,y\n")) ≡ Err (record { row = 2; kind = point.BadCsv })
unfolding opened
two_fields = refl

pub four_fields : points_of dupl (codes "kind,net\ng,1,observe,y\n") ≡ Err (record { row = 2; kind = point.BadCsv })
unfolding opened
four_fields = refl

pub other_header : points_of dupl (codes "goal,kind,net\n") ≡ Err (record { row = 1; kind = point.BadCsv })
unfolding opened
other_header = refl

pub unknown_net : points_of dupl (points (codes ",x,observe,q\n")) ≡ Err (record { row = 2; kind = point.UnknownNet })
unfolding opened
unknown_net = refl
