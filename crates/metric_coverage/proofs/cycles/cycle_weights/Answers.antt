use Rattle.std.proofs.Common.{◌≡◌, ◌<◌, ◌∙◌, ℕ, List, length, ap, subst, sym, arith}
use Rattle.std.specs.Prelude.{All}
use Rattle.std.specs.List.Sorted.{IsStrictlyIncreasing}
use Rattle.std.proofs.lemmas.List.{get_or-replicate, length-replicate}
use Rattle.fm_base.proofs.Lists.{written_whole}
use Rattle.fault_list.proofs.Stretches.{are_cycles}
use Rattle.campaign_plan.specs.declared.Settings.{Settings}
use Rattle.metric_coverage.specs.declared.cycles.CycleWeights.{CycleWeights}
use Rattle.metric_coverage.specs.Cycles.{AreCyclesWeighed, cycle_at, no_flip}
use Rattle.metric_coverage.specs.Freed.{evidence_at}
use Rattle.metric_coverage.proofs.cycles.cycle_weights.Goals as goal

pub places-requires : goal.places-requires
places-requires c =
    let set : Settings = c.args.plan.now.settings in
    let flips : c.as_slice-flips.result.now ≡ set.flips = c.as_slice-flips.ensures ∙ ap (λ (s : Settings). s.flips) c.settings.ensures.value in
    subst IsStrictlyIncreasing (sym flips) (are_cycles set.stretch set.flips c.settings.ensures.plan.settings.flips).rising

pub weigh_flips-requires-clause-none : goal.weigh_flips-requires-clause-none
weigh_flips-requires-clause-none c = λ k lt.
    let made = c.as_mut_slice.ensures.value ∙ c.in_ok-cycles.ensures.items in
    let inside : k < c.places.result = omega (arith, lt, ap length made, length-replicate c.places.result c.none.result) in
    ap (λ (ws : List CycleWeights). cycle_at ws k) made ∙ get_or-replicate c.places.result k c.none.result no_flip inside ∙ c.none.ensures

pub returns : goal.returns
returns c =
    let p = c.args.plan.now in
    let set : Settings = p.settings in
    let flips : c.as_slice-flips.result.now ≡ set.flips = c.as_slice-flips.ensures ∙ ap (λ (s : Settings). s.flips) c.settings.ensures.value in
    let old = c.in_ok-cycles.cycles in
    let new : List CycleWeights = c.weigh_flips.new.cycles in
    let count : length new ≡ length old.items = c.weigh_flips.auto.cycles ∙ ap length c.as_mut_slice.ensures.value in
    let size : c.places.result ≡ length new = sym (count ∙ ap length c.in_ok-cycles.ensures.items ∙ length-replicate c.places.result c.none.result) in
    let room : All (λ cycle. cycle < length new) set.flips =
    subst (λ (cycles : List ℕ). All (λ cycle. cycle < length new) cycles) flips
    (subst (λ n. All (λ cycle. cycle < n) c.as_slice-flips.result.now) size c.places.ensures) in
    let weighed : AreCyclesWeighed p (evidence_at c.args.evidence.now) new =
    record { room = room; each = c.weigh_flips.ensures.each; light = c.weigh_flips.ensures.light } in
    subst (AreCyclesWeighed p (evidence_at c.args.evidence.now)) (sym (written_whole new old.items old.len count old.ok.0)) weighed
