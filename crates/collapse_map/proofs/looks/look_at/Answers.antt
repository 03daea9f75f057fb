use Rattle.std.proofs.Common.{◌≡◌, ◌<◌, ◌≤◌, ◌+◌, ◌∙◌, ℕ, List, [], ◌∷◌, ◌++◌, length, map, take, get_or, set, ap, sym, subst, arith, refl}
use Rattle.std.proofs.lemmas.List.{take_all}
use Rattle.circuit.specs.declared.parts.NetId.{NetId}
use Rattle.collapse_map.specs.Looks.{AreLooks}
use Rattle.collapse_map.proofs.Looking.{nets_more}
use Rattle.collapse_map.proofs.looks.look_at.Goals as goal

pub loop-net-preserved : goal.loop-net-preserved
loop-net-preserved c = λ seen are.
    let nets : List NetId = c.args.nets.now in
    let i : ℕ = c.loop-net.net-index in
    subst (λ (xs : List NetId). AreLooks xs c.look.new.looks) (nets_more seen nets i (record { 0 = 0 }) c.loop-net-test.true)
    (c.look.ensures (seen ++ take i nets) (c.loop-net.invariant seen are))

pub returns : goal.returns
returns c = λ seen are.
    subst (λ (xs : List NetId). AreLooks (seen ++ xs) c.loop-net.looks) (take_all c.loop-net.net-index c.args.nets.now c.loop-net-test.false) (c.loop-net.invariant seen are)
