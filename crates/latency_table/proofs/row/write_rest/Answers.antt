use Rattle.std.proofs.Common.{◌∷◌, [], ◌∙◌, ap, decimal}
use Rattle.std.specs.List.{flat_map}
use Rattle.campaign_plan.specs.Analysis.{part_numbered}
use Rattle.metric_sums.specs.Words.{class_word}
use Rattle.fm_shelf.proofs.Sending.{sends_as}
use Rattle.campaign_tables.proofs.Quoting.{after_comma, next_same}
use Rattle.latency_table.specs.Fields.{point_word}
use Rattle.latency_table.proofs.row.write_rest.Goals as goal

pub returns : goal.returns
returns g c =
    let p = c.args.plan.now in
    let part = c.part-part.ensures ∙ ap (part_numbered p) c.part_of_fault.ensures.value in
    sends_as
    (ap (flat_map after_comma)
    (next_same (c.as_slice.ensures ∙ ap (λ q. q.name) part) (next_same (c.class_of.ensures ∙ ap class_word c.class_with-class.ensures)
    (next_same (c.bytes.ensures ∙ c.number_word.ensures ∙ ap decimal c.weight.ensures) (next_same c.bit_word.ensures
    (next_same (c.bytes-2.ensures ∙ c.run_word.ensures) (next_same (c.bytes-3.ensures ∙ c.cycle_word.ensures)
    (next_same (c.bytes-4.ensures ∙ c.run_word-2.ensures) (next_same (c.bytes-5.ensures ∙ c.cycle_word-2.ensures)
    (next_same (c.point_word.ensures ∙ ap (λ n. point_word n c.args.latency.now.point) c.net.ensures.value)
    (ap (λ w. w ∷ []) (c.bytes-6.ensures ∙ c.interval_word.ensures))))))))))))
    c.write_fields.ensures
