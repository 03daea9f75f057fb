use Rattle.std.proofs.Common.{◌∷◌, [], ◌∙◌, ap, ap₂, decimal}
use Rattle.std.specs.List.{flat_map}
use Rattle.circuit.specs.Names.{net_name}
use Rattle.fault_list.specs.Faults.{fault_at, net_of_fault}
use Rattle.campaign_plan.specs.Batches.{class_with}
use Rattle.metric_sums.specs.Words.{class_word, role_word}
use Rattle.fm_shelf.proofs.Sending.{sends_as}
use Rattle.campaign_tables.specs.Words.{bit_word, covered_word, kind_word}
use Rattle.campaign_tables.proofs.Quoting.{after_comma, next_same}
use Rattle.campaign_tables.proofs.row.write_rest.Goals as goal

pub returns : goal.returns
returns g c =
    let p = c.args.plan.now in
    let fault = c.fault-fault.ensures ∙ ap (λ fs. fault_at fs c.args.i) c.faults.ensures.value in
    let part = c.part_of_fault-part.ensures in
    let net = c.net_of.ensures ∙ ap (λ n. net_of_fault n c.fault-fault.result) c.net-2.ensures.value ∙ ap (net_of_fault p.circuit) fault in
    let name = c.name.ensures.value ∙ ap (λ n. net_name n c.net_of.result.0) c.net.ensures.value ∙ ap (net_name p.circuit) net in
    let class = c.class_with-class.ensures ∙ ap₂ (class_with p c.args.i) c.has_bit-dangerous.ensures c.has_bit-noticed.ensures in
    sends_as
    (ap (flat_map after_comma)
    (next_same name (next_same (c.kind_word.ensures ∙ ap kind_word fault) (next_same (c.as_slice.ensures ∙ ap (λ q. q.name) part)
    (next_same (c.role_of.ensures ∙ ap (λ q. role_word q.role) part) (next_same (c.covered_word.ensures ∙ ap (λ q. covered_word q.covered) part)
    (next_same (c.class_of.ensures ∙ ap class_word class) (next_same (c.bit_word.ensures ∙ ap bit_word c.has_bit-dangerous.ensures)
    (next_same (c.bit_word-2.ensures ∙ ap bit_word c.has_bit-noticed.ensures)
    (ap (λ w. w ∷ []) (c.bytes.ensures ∙ c.number_word.ensures ∙ ap decimal c.weight.ensures)))))))))))
    c.write_fields.ensures
