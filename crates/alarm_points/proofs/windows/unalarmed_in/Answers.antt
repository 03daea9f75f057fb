use Rattle.std.proofs.Common.{◌≡◌, ◌||◌, ◌+◌, ℕ, suc, length, get_or, ap, ap₂, sym, ◌∙◌, subst, arith}
use Rattle.fm_base.specs.Lists.{some_below}
use Rattle.alarm_points.specs.Watch.{IsAfterPairs, Watch, lane_goes_unalarmed}
use Rattle.fm_base.proofs.Bits.{bit_of_or}
use Rattle.alarm_points.proofs.Planes.{bit_of_none}
use Rattle.alarm_points.proofs.Settled.{some_below-suc, some_below-zero}
use Rattle.std.proofs.lemmas.List.{get_or_default}
use Rattle.alarm_points.proofs.windows.unalarmed_in.Goals as goal

pub loop-window-init : goal.loop-window-init
loop-window-init c = λ none pairs k after lt.
    bit_of_none k ∙ sym (some_below-zero (λ g. lane_goes_unalarmed (get_or c.args.windows.now g none).ftti (pairs g) k))

pub loop-window-preserved : goal.loop-window-preserved
loop-window-preserved c = λ none pairs k after lt.
    let xs = c.args.windows.now in
    let i = c.loop-window.window-index in
    let test = λ (g : ℕ). lane_goes_unalarmed (get_or xs g none).ftti (pairs g) k in
    let own : get_or xs i none ≡ c.window-item.result = get_or_default xs i none c.window-item.result c.loop-window-test.true ∙ sym c.window-item.is in
    let next : suc i ≡ i + 1 = omega arith in
    bit_of_or c.loop-window.unalarmed c.end-unalarmed.result k
    ∙ ap₂ (λ a b. a || b) (c.loop-window.invariant none pairs k after lt)
    (c.end-unalarmed.ensures (pairs i) k (subst (IsAfterPairs (pairs i)) own (after i c.loop-window-test.true)) lt
    ∙ sym (ap (λ (w : Watch). lane_goes_unalarmed w.ftti (pairs i) k) own))
    ∙ sym (some_below-suc i test) ∙ ap (λ m. some_below m test) next

pub returns : goal.returns
returns c = λ none pairs k after lt.
    let all : c.loop-window.window-index ≡ length c.args.windows.now = omega (arith, c.loop-window-test.false, c.loop-window.auto.window-index-end) in
    c.loop-window.invariant none pairs k after lt
    ∙ ap (λ m. some_below m (λ g. lane_goes_unalarmed (get_or c.args.windows.now g none).ftti (pairs g) k)) all
