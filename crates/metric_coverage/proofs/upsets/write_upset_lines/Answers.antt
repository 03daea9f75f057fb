use Rattle.std.proofs.Common.{◌≡◌, ◌<◌, ◌∙◌, ℕ, List, length, ap, ap₂, subst, sym, arith}
use Rattle.std.specs.Prelude.{All, slice_index_or}
use Rattle.std.specs.List.{flat_map}
use Rattle.std.proofs.lemmas.Bool.{eqb-false, eqb-true}
use Rattle.std.proofs.lemmas.Result.{err_from_is_err_and}
use Rattle.campaign_plan.specs.declared.Settings.{Settings}
use Rattle.campaign_plan.specs.Analysis.{Analysis}
use Rattle.fm_shelf.proofs.Sending.{sends_as, sends_none, sends_stop, sends_then}
use Rattle.coverage.specs.Upsets.{all_upsets, tried_upsets}
use Rattle.metric_coverage.specs.Cycles.{IsCycleLight, cycle_at}
use Rattle.metric_coverage.specs.Freed.{evidence_at}
use Rattle.metric_coverage.specs.Text.{cycle_by, upsets_line}
use Rattle.metric_coverage.proofs.Moments.{no_upsets_told, upsets_told}
use Rattle.metric_coverage.proofs.upsets.write_upset_lines.Goals as goal

pub returns-then-is_empty : goal.returns-then-is_empty
returns-then-is_empty g c =
    let p : Analysis = c.args.plan.now in
    let flips : c.as_slice-flips.result.now ≡ c.args.plan.now.settings.flips = c.as_slice-flips.ensures ∙ ap (λ (s : Settings). s.flips) c.settings.ensures.value in
    let empty : length c.as_slice-flips.result.now ≡ 0 = eqb-true _ 0 (sym c.is_empty.ensures ∙ c.if-is_empty.true) in
    sends_as (no_upsets_told p (evidence_at c.args.evidence.now) (sym (ap length flips) ∙ empty)) (sends_none _)

pub write_cycles-requires-clause-room : goal.write_cycles-requires-clause-room
write_cycles-requires-clause-room g c =
    let flips : c.as_slice-flips.result.now ≡ c.args.plan.now.settings.flips = c.as_slice-flips.ensures ∙ ap (λ (s : Settings). s.flips) c.settings.ensures.value in
    subst (λ (cycles : List ℕ). All (λ cycle. cycle < length c.args.weights.now) cycles) (sym flips) c.requires.room

pub write_cycles-requires-clause-light : goal.write_cycles-requires-clause-light
write_cycles-requires-clause-light g c =
    let flips : c.as_slice-flips.result.now ≡ c.args.plan.now.settings.flips = c.as_slice-flips.ensures ∙ ap (λ (s : Settings). s.flips) c.settings.ensures.value in
    subst (λ (cycles : List ℕ). All (λ cycle. IsCycleLight (cycle_at c.args.weights.now cycle)) cycles) (sym flips)
    (λ k d lt. c.requires.light (slice_index_or c.args.plan.now.settings.flips k d) (c.requires.room k d lt))

pub returns-in_err-write_upsets : goal.returns-in_err-write_upsets
returns-in_err-write_upsets g c =
    let e = err_from_is_err_and c.from_residual.result c.from_residual.ensures.1 in
    let p : Analysis = c.args.plan.now in
    let flips : c.as_slice-flips.result.now ≡ c.args.plan.now.settings.flips = c.as_slice-flips.ensures ∙ ap (λ (s : Settings). s.flips) c.settings.ensures.value in
    let filled : length c.as_slice-flips.result.now ≡ 0 → ⊥ = eqb-false _ 0 (sym c.is_empty.ensures ∙ c.if-is_empty.false) in
    let some : 0 < length p.settings.flips = omega (arith, filled, ap length flips) in
    let first : upsets_line c.upsets_of.result.tried c.upsets_of.result.all ≡ upsets_line (tried_upsets p) (all_upsets p) = ap₂ upsets_line c.upsets_of.ensures.tried c.upsets_of.ensures.all in
    let rest : flat_map (λ cycle. cycle_by cycle (cycle_at c.args.weights.now cycle)) c.as_slice-flips.result.now
    ≡ flat_map (λ cycle. cycle_by cycle (cycle_at c.args.weights.now cycle)) p.settings.flips =
    ap (flat_map (λ cycle. cycle_by cycle (cycle_at c.args.weights.now cycle))) flips in
    let told = upsets_told p (evidence_at c.args.evidence.now) c.args.weights.now c.requires some in
    rw e.1 (sends_as told (sends_stop (flat_map (λ cycle. cycle_by cycle (cycle_at c.args.weights.now cycle)) p.settings.flips) e.0 (sends_as first c.in_err-write_upsets.ensures)))

pub returns : goal.returns
returns g c =
    let p : Analysis = c.args.plan.now in
    let flips : c.as_slice-flips.result.now ≡ c.args.plan.now.settings.flips = c.as_slice-flips.ensures ∙ ap (λ (s : Settings). s.flips) c.settings.ensures.value in
    let filled : length c.as_slice-flips.result.now ≡ 0 → ⊥ = eqb-false _ 0 (sym c.is_empty.ensures ∙ c.if-is_empty.false) in
    let some : 0 < length p.settings.flips = omega (arith, filled, ap length flips) in
    let first : upsets_line c.upsets_of.result.tried c.upsets_of.result.all ≡ upsets_line (tried_upsets p) (all_upsets p) = ap₂ upsets_line c.upsets_of.ensures.tried c.upsets_of.ensures.all in
    let rest : flat_map (λ cycle. cycle_by cycle (cycle_at c.args.weights.now cycle)) c.as_slice-flips.result.now
    ≡ flat_map (λ cycle. cycle_by cycle (cycle_at c.args.weights.now cycle)) p.settings.flips =
    ap (flat_map (λ cycle. cycle_by cycle (cycle_at c.args.weights.now cycle))) flips in
    let told = upsets_told p (evidence_at c.args.evidence.now) c.args.weights.now c.requires some in
    sends_as told (sends_then (sends_as first c.in_ok-write_upsets.ensures) (sends_as rest c.write_cycles.ensures))
