use Rattle.std.proofs.Common.{refl, ◌≡◌, ◌≢◌, ◌<◌, ◌^◌, ◌∙◌, ◌+◌, ◌*◌, true, is_some, inl, inr, length, w64, ap, sym, subst, arith}
use Rattle.std.specs.Int.{trailing_zeros}
use Rattle.std.proofs.lemmas.Bool.{cases_eq}
use Rattle.fm_base.specs.Planes.{bit}
use Rattle.fm_base.proofs.Tests.{clash}
use Rattle.place_set.proofs.Masks.{clear_bit_other, lowest, zero_bit}
use Rattle.fault_runs.specs.First.{SeesSome, fault_in, first_in}
use Rattle.fault_runs.proofs.Seeing.{cleared_lt, sees_more, sees_none}
use Rattle.fault_runs.proofs.first.see_lanes.Goals as goal

pub loop-left-init : goal.loop-left-init
loop-left-init c = record {
  inside = λ k lt is. is;
  seen = λ k lt within is out. absurd (clash _ is out);
  sees = λ is_seen each. sees_none c.args.group.now is_seen c.args.cycle c.args.cycles.now;
}

pub loop-left-smaller : goal.loop-left-smaller
loop-left-smaller c =
    let left = c.loop-left.left in
    let some : left ≢ 0 = omega (arith, c.loop-left-test.true) in
    let small : left < 2 ^ 64 = omega (arith, c.loop-left.auto.left-fits) in
    let first = lowest left some small in
    cleared_lt left (trailing_zeros w64 left) first.0 first.1

pub loop-left-preserved : goal.loop-left-preserved
loop-left-preserved c =
    let left = c.loop-left.left in
    let inv = c.loop-left.invariant in
    let some : left ≢ 0 = omega (arith, c.loop-left-test.true) in
    let small : left < 2 ^ 64 = omega (arith, c.loop-left.auto.left-fits) in
    let first = lowest left some small in
    let lane = trailing_zeros w64 left in
    let group = c.args.group.now in
    let new = c.see_lane.new.cycles in
    let was : bit c.args.lanes lane ≡ true = inv.inside lane first.0 first.1 in
    let same : SeesSome group (λ i. true) c.args.cycle c.loop-left.cycles new = c.see_lane.ensures.sees (λ i. true) (λ within. refl) in
    record {
      inside = λ k lt is.
          elim (cases_eq k lane) [
            | inl here ↦ ap (λ j. bit c.args.lanes j) here ∙ was
            | inr apart ↦ inv.inside k lt (sym (clear_bit_other left lane k first.0 lt apart) ∙ is)
          ];
      seen = λ k lt within is out.
          elim (cases_eq k lane) as (λ _. is_some (first_in new (fault_in group (c.args.word * 64 + k))) ≡ true) [
            | inl here ↦
                ap (λ j. is_some (first_in new (fault_in group (c.args.word * 64 + j)))) here
                ∙ c.see_lane.ensures.seen (subst (λ j. c.args.word * 64 + j < length group) here within)
            | inr apart ↦
                same.stays (fault_in group (c.args.word * 64 + k))
                (inv.seen k lt within is (sym (clear_bit_other left lane k first.0 lt apart) ∙ out))
          ];
      sees = λ is_seen each.
          sees_more group is_seen c.args.cycle c.args.cycles.now c.loop-left.cycles new (inv.sees is_seen each)
          (c.see_lane.ensures.sees is_seen (λ within. each lane first.0 within was));
    }

pub returns : goal.returns
returns c =
    let inv = c.loop-left.invariant in
    record {
      seen = λ k lt within is. inv.seen k lt within is (zero_bit c.loop-left.left k c.loop-left-test.false);
      sees = inv.sees;
    }
