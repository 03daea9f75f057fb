use Rattle.std.proofs.Common.{inl, inr, ◌+◌, ◌*◌, cond, ap, sym, ◌∙◌, arith}
use Rattle.std.proofs.lemmas.Bool.{cases_eq, eq-eqb, ne_eqb}
use Rattle.fm_base.specs.Planes.{bit}
use Rattle.differential_kernel.specs.Picked.{bit_at_place, place_in}
use Rattle.differential_kernel.proofs.picks.Picks.spread.Goals as goal

pub loop-lane-preserved : goal.loop-lane-preserved
loop-lane-preserved c = λ k lt.
    let lane = c.loop-lane.lane in
    let old = c.loop-lane.plane in
    let value = c.bit_at.result in
    let picks = c.args.self.now in
    c.put-plane.ensures k (omega (arith, lt, c.loop-lane-test.true)) ∙ elim (cases_eq k lane) [
      | inl same ↦
          ap (λ b. cond b value (bit old k)) (eq-eqb k lane same) ∙ c.bit_at.ensures ∙ ap (bit_at_place c.args.bits) c.place-place.ensures.place
          ∙ ap (λ i. bit_at_place c.args.bits (place_in picks (c.args.word * 64 + i))) (sym same)
      | inr apart ↦ ap (λ b. cond b value (bit old k)) (ne_eqb k lane apart) ∙ c.loop-lane.invariant k (omega (arith, lt, apart))
    ]
