use Rattle.std.proofs.Common.{◌≡◌, ◌+◌, ◌-◌, ◌*◌, ◌/◌, ◌%◌, length, ap, sym, subst, ◌∙◌, arith}
use Rattle.std.proofs.Math.Nat.{div-add-mod'}
use Rattle.region_search.specs.Going.{IsLookedAt}
use Rattle.region_search.specs.Search.{places_of}
use Rattle.region_search.proofs.search.Search.look_at.Goals as goal

pub returns-then-place-first-clause-work : goal.returns-then-place-first-clause-work
returns-then-place-first-clause-work c =
    subst (IsLookedAt c.args.self.now c.look_at_place.new.self)
    (ap (λ n. c.args.at / c.places-first.result.1 * n + c.args.at % c.places-first.result.1) (sym c.places-first.ensures.all) ∙ div-add-mod' c.args.at c.places-first.result.1)
    c.look_at_place.ensures.work

pub returns-clause-work : goal.returns-clause-work
returns-clause-work c =
    let back : length c.args.watchers.now.order + (c.args.at % c.places-first.result.1 - c.places-first.result.0) ≡ c.args.at % c.places-first.result.1 =
    omega (arith, c.places-first.ensures.tables, c.if-place-first.false) in
    subst (IsLookedAt c.args.self.now c.look_at_number.new.self)
    (ap (λ n. c.args.at / c.places-first.result.1 * places_of c.args.watchers.now + n) back
    ∙ ap (λ n. c.args.at / c.places-first.result.1 * n + c.args.at % c.places-first.result.1) (sym c.places-first.ensures.all) ∙ div-add-mod' c.args.at c.places-first.result.1)
    c.look_at_number.ensures.work
