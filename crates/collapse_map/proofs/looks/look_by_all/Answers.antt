use Rattle.std.proofs.Common.{◌≡◌, ◌<◌, ◌≤◌, ◌+◌, ◌-◌, ◌*◌, ◌∙◌, ℕ, List, [], ◌∷◌, ◌++◌, length, map, take, get_or, set, append_assoc, ap, sym, subst, arith, refl}
use Rattle.std.specs.Prelude.{flat_map}
use Rattle.std.specs.List.{All}
use Rattle.circuit.specs.declared.parts.NetId.{NetId}
use Rattle.circuit.specs.Sound.{IsNet}
use Rattle.alarm_points.specs.PointsFile.{observed}
use Rattle.collapse_map.specs.Looks.{AreLooks}
use Rattle.collapse_map.proofs.Looking.{observed_nets}
use Rattle.collapse_map.proofs.looks.look_by_all.Goals as goal

pub look_by_goals-requires : goal.look_by_goals-requires
look_by_goals-requires c =
    let size : length c.look_by_latches.new.looks ≡ length c.args.net.now.drivers = c.look_by_latches.auto.looks ∙ c.look_by_tables.auto.looks ∙ c.requires.looks in
    subst (λ n. All (λ (net : NetId). net.0 < n) (observed c.args.points.now)) (sym size) (observed_nets c.args.net.now c.args.points.now c.requires.points)

pub returns : goal.returns
returns c = λ none.
    let tables : List NetId = flat_map (λ table. table.ins) c.args.net.now.tables in
    let latches : List NetId = map (λ latch. latch.from) c.args.net.now.latches in
    let goals : List NetId = observed c.args.points.now in
    let whole : tables ++ latches ++ goals ++ c.as_slice.result.now ≡ tables ++ latches ++ (goals ++ c.args.points.now.alarm) =
    append_assoc (tables ++ latches) goals c.as_slice.result.now ∙ ap (λ (alarm : List NetId). tables ++ latches ++ (goals ++ alarm)) c.as_slice.ensures in
    subst (λ (nets : List NetId). AreLooks nets c.look_at.new.looks) whole
    (c.look_at.ensures (tables ++ latches ++ goals) (c.look_by_goals.ensures (tables ++ latches) (c.look_by_latches.ensures tables (c.look_by_tables.ensures [] none))))
