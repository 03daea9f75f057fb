use Rattle.std.proofs.Common.{◌≡◌, ◌<◌, ◌≤◌, ◌+◌, ◌∙◌, ℕ, List, [], ◌∷◌, ◌++◌, length, map, take, get_or, set, ap, sym, subst, arith, refl}
use Rattle.std.proofs.Common.{false}
use Rattle.std.proofs.lemmas.List.{take_all}
use Rattle.circuit.specs.declared.parts.Latch.{Latch}
use Rattle.circuit.specs.declared.parts.NetId.{NetId}
use Rattle.collapse_map.specs.Looks.{AreLooks}
use Rattle.collapse_map.proofs.Looking.{each_more}
use Rattle.collapse_map.proofs.looks.look_by_latches.Goals as goal

pub loop-latch-preserved : goal.loop-latch-preserved
loop-latch-preserved c = λ seen are.
    let latches : List Latch = c.latches-latches.result.now in
    let i : ℕ = c.loop-latch.latch-index in
    let none : Latch = record { from = record { 0 = 0 }; to = record { 0 = 0 }; start = false } in
    subst (λ (xs : List NetId). AreLooks xs c.look.new.looks) (each_more (λ (latch : Latch). latch.from) seen latches i none c.loop-latch-test.true)
    (c.look.ensures (seen ++ map (λ latch. latch.from) (take i latches)) (c.loop-latch.invariant seen are))

pub returns : goal.returns
returns c = λ seen are.
    subst (λ (xs : List Latch). AreLooks (seen ++ map (λ latch. latch.from) xs) c.loop-latch.looks)
    (take_all c.loop-latch.latch-index c.latches-latches.result.now c.loop-latch-test.false ∙ c.latches-latches.ensures.value) (c.loop-latch.invariant seen are)
