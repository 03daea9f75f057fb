-- Shapes of private steps: how the parts of nets and the idle rates are looked up one by one. Nothing public cites them.
use Rattle.std.specs.Prelude.{ℕ, Bool, true, false, ◌&&◌, length, find, Option, Some, None, is_none, count_by, if◌then◌else◌, nat_lt, ◌==◌}
use Rattle.circuit.specs.Names.{net_name}
use Rattle.rate_table.specs.Table.{part_named}
use Rattle.fm_base.specs.Lists.{below}
use Rattle.campaign_plan.specs.declared.PlanRefusal.{PlanRefusal}
use Rattle.campaign_plan.specs.declared.PlanRefusal.TheVariants.{IdleRate}
use Rattle.campaign_plan.specs.Analysis.{Analysis, all_faults, part_numbered}
use Rattle.campaign_plan.specs.Weights.{has_part_and_kind, rate_of_kind}

-- the number of a net's part, where a pattern matches its name
abbrev pub part_of_net : Analysis → ℕ → Option ℕ
part_of_net p net = part_named p.rates (net_name p.circuit net)

-- the first net that no pattern matches
abbrev pub unrated_net : Analysis → Option ℕ
unrated_net p = find (λ net. is_none (part_of_net p net)) (below (length p.circuit.drivers))

-- a part has a rate of this kind above 0, and no fault of it
abbrev pub is_idle : Analysis → Bool → ℕ → Bool
is_idle p permanent k = nat_lt 0 (rate_of_kind permanent (part_numbered p k)) && (count_by (has_part_and_kind p k permanent) (all_faults p) == 0)

-- an idle rate of a part, permanent before transient
abbrev pub idle_rate_of : Analysis → ℕ → Option PlanRefusal
idle_rate_of p k =
    if is_idle p true k then Some (IdleRate (part_numbered p k).name true)
    else if is_idle p false k then Some (IdleRate (part_numbered p k).name false)
    else None
