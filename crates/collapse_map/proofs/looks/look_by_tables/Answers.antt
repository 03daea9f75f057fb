use Rattle.std.proofs.Common.{◌≡◌, ◌<◌, ◌≤◌, ◌+◌, ◌∙◌, ℕ, List, [], ◌∷◌, ◌++◌, length, map, take, get_or, set, ap, sym, subst, arith, refl}
use Rattle.std.proofs.Common.{true}
use Rattle.std.specs.Prelude.{flat_map}
use Rattle.std.specs.List.{All}
use Rattle.std.proofs.lemmas.List.{take_all}
use Rattle.circuit.specs.declared.parts.NetId.{NetId}
use Rattle.circuit.specs.declared.parts.Table.{Table}
use Rattle.circuit.specs.Value.{table_at}
use Rattle.collapse_map.specs.Looks.{AreLooks}
use Rattle.collapse_map.proofs.Looking.{parts_more, table_nets}
use Rattle.collapse_map.proofs.looks.look_by_tables.Goals as goal
use Rattle.circuit.proofs.FewTables.{few_tables}

pub overflow_cast-k : goal.overflow_cast-k
overflow_cast-k c =
    let sound = c.tables-k-end.ensures.sound in
    let few = few_tables c.args.net.now sound in
    let most = sound.few in
    let size = c.tables-k-end.ensures.count in
    omega arith

pub look_at-requires : goal.look_at-requires
look_at-requires c =
    let sound = c.tables-k-end.ensures.sound in
    let lt : c.loop-k.k < length c.args.net.now.tables = omega (arith, c.tables-k-end.ensures.count) in
    let size : length c.loop-k.looks ≡ length c.args.net.now.drivers = c.loop-k.auto.looks ∙ c.requires in
    subst (λ n. All (λ (net : NetId). net.0 < n) c.as_slice.result.now) (sym size)
    (table_nets c.args.net.now sound c.loop-k.k lt c.as_slice.result.now (c.as_slice.ensures ∙ ap (λ (table : Table). table.ins) c.table.ensures.value))

pub loop-k-preserved : goal.loop-k-preserved
loop-k-preserved c = λ seen are.
    let tables : List Table = c.args.net.now.tables in
    let none : Table = record { ins = []; rows = []; on = true } in
    let k : ℕ = c.loop-k.k in
    let ins : c.as_slice.result.now ≡ (table_at tables k).ins = c.as_slice.ensures ∙ ap (λ (table : Table). table.ins) c.table.ensures.value in
    let lt : k < length tables = omega (arith, c.tables-k-end.ensures.count) in
    subst (λ (xs : List NetId). AreLooks xs c.look_at.new.looks)
    (ap (λ (xs : List NetId). (seen ++ flat_map (λ table. table.ins) (take k tables)) ++ xs) ins ∙ parts_more (λ (table : Table). table.ins) seen tables k none lt)
    (c.look_at.ensures (seen ++ flat_map (λ table. table.ins) (take k tables)) (c.loop-k.invariant seen are))

pub returns : goal.returns
returns c = λ seen are.
    let size : length c.args.net.now.tables ≤ c.loop-k.k = omega (arith, c.tables-k-end.ensures.count) in
    subst (λ (xs : List Table). AreLooks (seen ++ flat_map (λ table. table.ins) xs) c.loop-k.looks) (take_all c.loop-k.k c.args.net.now.tables size) (c.loop-k.invariant seen are)
