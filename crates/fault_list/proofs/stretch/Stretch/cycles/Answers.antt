use Rattle.std.proofs.Common.{◌≡◌, ℕ, suc, ◌+◌, ◌*◌, [], ◌∷◌, ◌++◌, map, ap, sym, ◌∙◌, arith}
use Rattle.fm_base.specs.Lists.{below}
use Rattle.fm_base.proofs.Below.{map-below}
use Rattle.fault_list.proofs.stretch.Stretch.cycles.Goals as goal

pub loop-k-init : goal.loop-k-init
unfolding below
loop-k-init c = c.new-cycles.ensures

pub loop-k-preserved : goal.loop-k-preserved
loop-k-preserved c =
    let s = c.args.self in
    let k = c.loop-k.k in
    let cycle : ℕ → ℕ = λ k. s.first + s.step * k in
    let next : suc k ≡ k + 1 = omega arith in
    c.in_ok-push.ensures.ok ∙ ap (λ cycles. cycles ++ cycle k ∷ []) c.loop-k.invariant ∙ sym (map-below cycle k) ∙ ap (λ n. map cycle (below n)) next
