use Rattle.std.proofs.Common.{◌≡◌, ◌+◌, ◌∙◌, ◌++◌, ◌∷◌, [], append_assoc, ap, arith, Bool, cond, drop, false, get_or, List, not, sym}
use Rattle.std.specs.Prelude.{count_by}
use Rattle.std.proofs.lemmas.Bool.Decides.{nat_tests}
use Rattle.std.proofs.lemmas.Grind.{common_steps}
use Rattle.std.proofs.lemmas.List.{at_drop_more}
use Rattle.std.proofs.lemmas.List.Sums.{sum_by-drop_more}
use Rattle.circuit.specs.declared.parts.NetId.{NetId}
use Rattle.blif_reader.specs.Numbers.{numbers_from}
use Rattle.blif_reader.proofs.nets.numbers_by.Goals as goal

pub loop-clock-preserved : goal.loop-clock-preserved
loop-clock-preserved c =
    let now = c.loop-clock in
    let clocks = c.args.clocks.now in
    let left = at_drop_more (numbers_from now.next c.net_count-behind.result) clocks now.clock-index false c.loop-clock-test.true in
    let fewer : count_by not (drop now.clock-index clocks) ≡ cond (not (get_or clocks now.clock-index false)) 1 0 + count_by not (drop (now.clock-index + 1) clocks) =
    sum_by-drop_more (λ (b : Bool). cond (not b) 1 0) clocks now.clock-index false c.loop-clock-test.true in
    record {
      few = grind (arith, nat_tests, common_steps);
      left = rw (c.in_ok-push.ensures.items, c.net_number.ensures, c.next_number-next.ensures)
          (append_assoc now.numbers.items (_ ∷ []) _ ∙ ap (λ (more : List NetId). now.numbers.items ++ more) (sym left) ∙ now.invariant.left);
    }
