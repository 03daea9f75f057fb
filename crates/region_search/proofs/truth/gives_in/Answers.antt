use Rattle.std.proofs.Common.{◌≡◌, ◌≢◌, List, false, length, map, ap, sym, ◌∙◌, subst, below_more, arith, get_or-set_other, get_or-set_same}
use Rattle.std.specs.Prelude.{All, Contains}
use Rattle.std.proofs.lemmas.List.{ext_get_or, get_or-map, length-map}
use Rattle.circuit.specs.Order.{net_at}
use Rattle.circuit.specs.Table.{table_value}
use Rattle.circuit.specs.declared.parts.NetId.{NetId}
use Rattle.region_search.proofs.truth.gives_in.Goals as goal

pub value_in-requires-clause-there : goal.value_in-requires-clause-there
value_in-requires-clause-there c =
    let size : length c.as_slice-ins.result.now ≡ length c.args.table.now.ins = ap (λ (nets : List NetId). length nets) c.as_slice-ins.ensures in
    subst (All (Contains c.args.reads.now)) (sym c.as_slice-ins.ensures) c.requires.whole c.loop-i.i (record { 0 = 0 }) (omega (arith, c.loop-i-test.true, c.requires.size, size))

pub loop-i-preserved : goal.loop-i-preserved
loop-i-preserved c = λ values is. below_more _ _
    (λ k less. let apart : k ≢ c.loop-i.i = omega arith in get_or-set_other c.loop-i.bits c.loop-i.i k c.value_in.result false apart ∙ c.loop-i.invariant values is k less)
    (get_or-set_same c.loop-i.bits c.loop-i.i c.value_in.result false (omega (arith, c.loop-i-test.true, c.loop-i.auto.bits)) ∙ c.value_in.ensures values is)

pub returns : goal.returns
returns c = λ values is.
    let ins = c.args.table.now.ins in
    let size : length c.loop-i.bits ≡ length ins = c.loop-i.auto.bits ∙ c.requires.size in
    c.value_of_table.ensures
    ∙ ap (table_value c.args.table.now)
    (ext_get_or false c.loop-i.bits (map (λ (net : NetId). values net.0) ins) (size ∙ sym (length-map ins (λ (net : NetId). values net.0)))
    (λ k lt.
    c.loop-i.invariant values is k (omega (arith, lt, c.loop-i-test.false, c.loop-i.auto.bits))
    ∙ ap (λ (nets : List NetId). values (net_at nets k).0) c.as_slice-ins.ensures
    ∙ sym (get_or-map (λ (net : NetId). values net.0) ins k (record { 0 = 0 }) false (omega (arith, lt, size)))))
