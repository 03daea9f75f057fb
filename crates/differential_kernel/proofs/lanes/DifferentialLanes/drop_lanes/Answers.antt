use Rattle.std.proofs.Common.{◌≡◌, inl, inr, ◌+◌, ◌*◌, ◌<◌, false, ap, ◌∙◌, arith}
use Rattle.std.proofs.lemmas.Bool.{cases_eq}
use Rattle.differential_kernel.proofs.lanes.DifferentialLanes.drop_lanes.Goals as goal

pub returns-clause-dropped : goal.returns-clause-dropped
returns-clause-dropped g c = λ k lt is.
    let lane = c.args.word * 64 + k in
    let low : lane < g.W.Word.lanes = omega (arith, c.requires, lt, g.met.W.Word.whole) in
    c.take_out.ensures.dropped lane low (c.of_part.ensures.own k lt ∙ is)

pub returns-clause-others : goal.returns-clause-others
returns-clause-others g c = λ other k within lt quiet.
    let bit = g.W.Word.lane_bit in
    let lane = other * 64 + k in
    let low : lane < g.W.Word.lanes = omega (arith, within, lt, g.met.W.Word.whole) in
    let none : bit c.of_part.result lane ≡ false = elim quiet [
      | inl apart ↦ c.of_part.ensures.others other k within apart lt
      | inr unset ↦ elim (cases_eq other c.args.word) [
        | inl same ↦ ap (λ w. bit c.of_part.result (w * 64 + k)) same ∙ c.of_part.ensures.own k lt ∙ unset
        | inr apart ↦ c.of_part.ensures.others other k within apart lt
      ]
    ] in
    c.take_out.ensures.others lane low none
