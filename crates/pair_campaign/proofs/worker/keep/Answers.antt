use Rattle.std.proofs.Common.{◌≡◌, ◌<◌, ◌^◌, ℕ, List, length, bit_and, inl, inr, sym, ◌∙◌, subst, arith, set, get_or, get_or-set_other, get_or-set_same}
use Rattle.std.proofs.lemmas.Bool.{cases_eq}
use Rattle.pair_campaign.specs.PairPlanes.{pair_plane}
use Rattle.pair_campaign.proofs.Masking.{masked_plane}
use Rattle.pair_campaign.proofs.worker.keep.Goals as goal

pub returns-then-plane-planes_for-clause-right : goal.returns-then-plane-planes_for-clause-right
returns-then-plane-planes_for-clause-right c = λ p q shown before.
    let planes : List ℕ = c.args.worker.now.planes.items in
    let i : ℕ = c.args.plane in
    let own : ℕ = bit_and c.args.found.danger c.used_lanes.result in
    let small : c.used_lanes.result < 2 ^ 64 = omega (arith, c.used_lanes.type_inv) in
    let within : i < length planes = omega (arith, c.if-plane-planes_for.true, c.planes_for.ensures.planes, c.requires) in
    elim (cases_eq q i) as (λ _. get_or (set planes i own) q 0 ≡ pair_plane p c.args.pairs.now q) [
      | inl same ↦ subst (λ j. get_or (set planes i own) j 0 ≡ pair_plane p c.args.pairs.now j) (sym same)
          (get_or-set_same planes i own 0 within ∙ masked_plane p c.args.pairs.now i c.args.found c.used_lanes.result small shown c.used_lanes.ensures)
      | inr apart ↦ get_or-set_other planes i q own 0 apart ∙ before
    ]

pub returns-then-plane-planes_for-clause-own : goal.returns-then-plane-planes_for-clause-own
returns-then-plane-planes_for-clause-own c = λ p shown lt.
    let planes : List ℕ = c.args.worker.now.planes.items in
    let i : ℕ = c.args.plane in
    let own : ℕ = bit_and c.args.found.danger c.used_lanes.result in
    let small : c.used_lanes.result < 2 ^ 64 = omega (arith, c.used_lanes.type_inv) in
    let within : i < length planes = omega (arith, c.if-plane-planes_for.true, c.planes_for.ensures.planes, c.requires) in
    get_or-set_same planes i own 0 within ∙ masked_plane p c.args.pairs.now i c.args.found c.used_lanes.result small shown c.used_lanes.ensures
