use Rattle.std.proofs.Common.{◌≡◌, ◌<◌, ◌≤◌, ◌+◌, ◌-◌, ◌*◌, ◌∙◌, ℕ, List, [], ◌∷◌, ◌++◌, length, map, take, get_or, set, ap, sym, subst, arith, refl}
use Rattle.std.proofs.Common.{add-one, suc, length-append}
use Rattle.fault_list.specs.Faults.{fault_at}
use Rattle.fm_base.specs.Lists.{below}
use Rattle.fm_base.proofs.Below.{map-below}
use Rattle.collapse_map.specs.Collapsed.{number_in_list}
use Rattle.collapse_map.proofs.numbers.own_numbers.Goals as goal

pub loop-i-init : goal.loop-i-init
unfolding below
loop-i-init c = record { sized = ap length c.in_ok-numbers.ensures.items; numbers = λ circuit listed. c.in_ok-numbers.ensures.items }

pub loop-i-preserved : goal.loop-i-preserved
loop-i-preserved c =
    let i : ℕ = c.loop-i.i in
    let pushed : c.push.new.v.items ≡ c.loop-i.numbers.items ++ c.first_like.result ∷ [] = c.in_ok-push.ensures.items in
    record {
      sized = ap length pushed ∙ length-append c.loop-i.numbers.items (c.first_like.result ∷ []) ∙ ap (λ n. n + 1) c.loop-i.invariant.sized;
      numbers = λ circuit listed.
          let number : ℕ → ℕ = λ k. number_in_list c.args.faults.now (fault_at c.args.faults.now k) in
          pushed
          ∙ ap (λ (xs : List ℕ). xs ++ c.first_like.result ∷ []) (c.loop-i.invariant.numbers circuit listed)
          ∙ ap (λ n. map number (below i) ++ n ∷ []) (c.first_like.ensures circuit listed)
          ∙ sym (map-below number i)
          ∙ ap (λ n. map number (below n)) (sym (add-one i));
    }

pub returns : goal.returns
returns c =
    let end : c.loop-i.i ≡ length c.args.faults.now = omega (arith, c.loop-i-test.false, c.loop-i.auto.i-end, c.len-i-end.ensures.count) in
    record {
      numbers = λ circuit listed.
          let number : ℕ → ℕ = λ k. number_in_list c.args.faults.now (fault_at c.args.faults.now k) in
          c.loop-i.invariant.numbers circuit listed ∙ ap (λ n. map number (below n)) end;
      sized = c.loop-i.invariant.sized ∙ end;
      few = c.len-i-end.ensures.few;
    }
