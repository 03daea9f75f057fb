use Rattle.std.proofs.Common.{◌≡◌, ◌<◌, ◌≤◌, ◌||◌, ◌&&◌, Bool, true, false, List, [], length, get_or, take, ap, ap₂, sym, ◌∙◌, take_all}
use Rattle.std.specs.List.{list_any}
use Rattle.circuit.specs.declared.parts.NetId.{NetId}
use Rattle.reading_planes.specs.Readings.{is_other, others}
use Rattle.reading_planes.proofs.Lists.{any_more, any_others}
use Rattle.std.proofs.lemmas.List.Folds.{list_any_at}
use Rattle.reading_planes.proofs.notice.some_other.Goals as goal
use Rattle.testbench.specs.Points.{alarm_at}

pub loop-a-preserved : goal.loop-a-preserved
loop-a-preserved c = λ gives same.
    let i = c.loop-a.a in
    let nets = c.args.nets.now in
    let lt : i < length nets = c.loop-a-test.true in
    let none : NetId = alarm_at [] 0 in
    sym (any_more gives c.args.out nets i none lt)
    ∙ ap₂ (λ a b. a || b) (c.loop-a.invariant gives same)
    (ap (λ b. is_other (get_or nets i none) c.args.out && b) (sym (same i lt)) ∙ sym c.is_other_notice.ensures ∙ c.if-is_other_notice.false)

pub returns-then-is_other_notice : goal.returns-then-is_other_notice
returns-then-is_other_notice c = λ gives same.
    let i = c.loop-a.a in
    let nets = c.args.nets.now in
    let lt : i < length nets = c.loop-a-test.true in
    let none : NetId = alarm_at [] 0 in
    sym (any_others (λ net. is_other net c.args.out) gives nets
    ∙ list_any_at (λ net. is_other net c.args.out && gives net) nets i none lt
    (ap (λ b. is_other (get_or nets i none) c.args.out && b) (sym (same i lt)) ∙ sym c.is_other_notice.ensures ∙ c.if-is_other_notice.true))

pub returns : goal.returns
returns c = λ gives same.
    let done : length c.args.nets.now ≤ c.loop-a.a = c.loop-a-test.false in
    sym (c.loop-a.invariant gives same) ∙ ap (λ (nets : List NetId). list_any gives (others c.args.out nets)) (take_all c.loop-a.a c.args.nets.now done)
