use Rattle.std.proofs.Common.{◌≡◌, ℕ, length, ap, ◌∙◌, arith}
use Rattle.std.proofs.lemmas.Grind.{common_steps}
use Rattle.fmeda_report.specs.Report.{summary}
use Rattle.fmeda_report.specs.Rooms.{Room}
use Rattle.result_file.specs.RowPlanes.{planes_in}
use Rattle.fmeda_report.specs.Tallies.{planes_in_order}
use Rattle.result_file.proofs.RowPlanes.{rows_within}
use Rattle.fm_shelf.proofs.Sending.{sends_as}
use Rattle.fmeda_report.proofs.report.write_summary.Goals as goal

pub place_planes-requires : goal.place_planes-requires
place_planes-requires g c =
    let count = c.deref_mut.ensures.len ∙ ap (λ (room : Room). room.batches) (c.space.view_is ∙ c.requires.space) in
    rows_within c.args.plan.now c.args.rows.now (length c.deref_mut.result.now) c.requires.rows count

pub returns-clause-summary : goal.returns-clause-summary
returns-clause-summary g c =
    let p = c.args.plan.now in
    let count = c.deref_mut.ensures.len ∙ ap (λ (room : Room). room.batches) (c.space.view_is ∙ c.requires.space) in
    let items : c.deref.result.now ≡ c.place_planes.new.planes = grind (arith, common_steps) in
    let same : (batch : ℕ) → planes_in_order c.deref.result.now batch ≡ planes_in c.args.rows.now batch =
    λ batch. ap (λ planes. planes_in_order planes batch) items ∙ c.place_planes.ensures p c.requires.rows count batch in
    let all : planes_in_order c.deref.result.now ≡ planes_in c.args.rows.now = λ j batch. same batch j in
    sends_as (ap (summary c.args.n p) all) c.summarize_for.ensures
