use Rattle.std.proofs.Common.{◌≡◌, ◌⊎◌, inl, inr, true, [], ap, ◌∙◌}
use Rattle.std.proofs.lemmas.Bool.{cases_Bool, cases_eq}
use Rattle.fm_base.specs.Planes.{bit}
use Rattle.classifier.proofs.Stretches.{place_same}
use Rattle.classifier.proofs.run.drop_more.Goals as goal

pub returns-then-out-before-clause-dropped : goal.returns-then-out-before-clause-dropped
returns-then-out-before-clause-dropped g c = λ other k lt lane.
    let word = c.args.word in
    let out = c.args.out in
    let new = (g.F.Followed.in_run c.drop_lanes.new.self).faults in
    let old = (g.F.Followed.in_run c.args.lanes.now).faults in
    elim (cases_eq other word) as (λ _. (new other k ≡ old other k) ⊎ ((other ≡ word) × (bit out k ≡ true) × (new other k ≡ []))) [
      | inr apart ↦ inl (c.drop_lanes.ensures.others other k lt lane (inl apart))
      | inl same ↦
          elim (cases_Bool (bit out k)) [
            | inl is ↦ inr (same, is, ap (λ w. new w k) same ∙ c.drop_lanes.ensures.dropped k lane is)
            | inr none ↦ inl (c.drop_lanes.ensures.others other k lt lane (inr none))
          ]
    ]

pub returns-else-out-before-clause-place : goal.returns-else-out-before-clause-place
returns-else-out-before-clause-place g c = place_same (g.F.Followed.in_run c.args.lanes.now)
