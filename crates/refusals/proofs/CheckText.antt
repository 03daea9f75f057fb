-- The lines of `check`, and what they count.
use Rattle.std.proofs.Common.{◌≡◌, ℕ, ◌+◌, List, [], ◌++◌, sym, ◌∙◌, append_assoc, length, false}
use Rattle.std.specs.List.{sum_by}
use Rattle.alarm_points.specs.declared.Goal.{Goal}
use Rattle.metric_sums.specs.declared.Role.TheVariants.{Other}
use Rattle.rate_table.specs.declared.Part.{Part}
use Rattle.campaign_plan.specs.Analysis.{Analysis}
use Rattle.refusals.specs.Texts.{check_text}
use Rattle.refusals.specs.Steps.{faults_line, netlist_line, points_line, rates_line, workload_line}

five_together : (a b c d e : List ℕ) → a ++ (b ++ (c ++ (d ++ e))) ≡ a ++ b ++ c ++ d ++ e
five_together a b c d e = sym (append_assoc a b (c ++ (d ++ e))) ∙ sym (append_assoc (a ++ b) c (d ++ e)) ∙ sym (append_assoc (a ++ b ++ c) d e)

-- the lines one after the other are the text
pub check_is : (p : Analysis) → netlist_line p.circuit ++ (workload_line p.runs ++ (rates_line p.rates ++ (points_line p.points ++ faults_line p))) ≡ check_text p
unfolding check_text
check_is p = five_together (netlist_line p.circuit) (workload_line p.runs) (rates_line p.rates) (points_line p.points) (faults_line p)

-- the rates of parts, both kinds
abbrev pub part_units : Part → ℕ
part_units part = part.permanent + part.transient

abbrev pub units_of : List Part → ℕ
units_of parts = sum_by part_units parts

-- what stands for a part behind the last
abbrev pub no_part : Part
no_part = record { name = []; role = Other; covered = false; permanent = 0; transient = 0 }

-- the number of observation points of goals
abbrev pub goal_points : Goal → ℕ
goal_points goal = length goal.observe

abbrev pub points_of : List Goal → ℕ
points_of goals = sum_by goal_points goals
