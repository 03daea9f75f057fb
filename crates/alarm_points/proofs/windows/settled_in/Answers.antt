use Rattle.std.proofs.Common.{◌≡◌, ◌||◌, ◌+◌, ℕ, suc, length, get_or, ap, ap₂, sym, ◌∙◌, arith}
use Rattle.fm_base.specs.Lists.{some_below}
use Rattle.fm_base.specs.Planes.{bit}
use Rattle.alarm_points.specs.Watch.{Watch}
use Rattle.fm_base.proofs.Bits.{bit_of_or}
use Rattle.alarm_points.proofs.Planes.{bit_of_none}
use Rattle.alarm_points.proofs.Settled.{some_below-suc, some_below-zero}
use Rattle.std.proofs.lemmas.List.{get_or_default}
use Rattle.alarm_points.proofs.windows.settled_in.Goals as goal

pub loop-window-init : goal.loop-window-init
loop-window-init c = λ none k. bit_of_none k ∙ sym (some_below-zero (λ g. bit (get_or c.args.windows.now g none).settled k))

pub loop-window-preserved : goal.loop-window-preserved
loop-window-preserved c = λ none k.
    let xs = c.args.windows.now in
    let i = c.loop-window.window-index in
    let test = λ (g : ℕ). bit (get_or xs g none).settled k in
    let own : get_or xs i none ≡ c.window-item.result = get_or_default xs i none c.window-item.result c.loop-window-test.true ∙ sym c.window-item.is in
    let next : suc i ≡ i + 1 = omega arith in
    bit_of_or c.loop-window.settled c.settled-settled.result k
    ∙ ap₂ (λ a b. a || b) (c.loop-window.invariant none k)
    (ap (λ n. bit n k) c.settled-settled.ensures ∙ sym (ap (λ (w : Watch). bit w.settled k) own))
    ∙ sym (some_below-suc i test) ∙ ap (λ m. some_below m test) next

pub returns : goal.returns
returns c = λ none k.
    let all : c.loop-window.window-index ≡ length c.args.windows.now = omega (arith, c.loop-window-test.false, c.loop-window.auto.window-index-end) in
    c.loop-window.invariant none k
    ∙ ap (λ m. some_below m (λ g. bit (get_or c.args.windows.now g none).settled k)) all
