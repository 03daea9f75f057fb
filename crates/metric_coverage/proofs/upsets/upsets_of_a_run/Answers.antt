use Rattle.std.proofs.Common.{◌≡◌, ◌∙◌, ap, subst, sym}
use Rattle.std.specs.List.Sorted.{IsStrictlyIncreasing}
use Rattle.fault_list.proofs.Stretches.{are_cycles}
use Rattle.campaign_plan.specs.declared.Settings.{Settings}
use Rattle.metric_coverage.proofs.upsets.upsets_of_a_run.Goals as goal

pub cycles_below-requires : goal.cycles_below-requires
cycles_below-requires c =
    let set : Settings = c.args.plan.now.settings in
    let flips : c.as_slice.result.now ≡ set.flips = c.as_slice.ensures ∙ ap (λ (s : Settings). s.flips) c.settings.ensures.value in
    subst IsStrictlyIncreasing (sym flips) (are_cycles set.stretch set.flips c.settings.ensures.plan.settings.flips).rising
