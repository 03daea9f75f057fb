use Rattle.std.proofs.Common.{◌≡◌, true, false, sym, ◌∙◌}
use Rattle.coverage_claim.specs.Largest.{IsRefuted}
use Rattle.pair_sets.specs.Pairs.{has}
use Rattle.region_search.proofs.Standing.{of_four}
use Rattle.region_search.specs.Refute.{NoneHave}
use Rattle.region_search.proofs.search.Search.standing.Goals as goal

pub returns-clause-among : goal.returns-clause-among
returns-clause-among c =
    of_four (λ a b. has c.of.result a b ≡ true → has c.args.pairs a b ≡ true)
    (λ e. c.stands-zeros.ensures.among (sym (c.of.ensures false false) ∙ e))
    (λ e. c.stands-golden.ensures.among (sym (c.of.ensures true false) ∙ e))
    (λ e. c.stands-faulty.ensures.among (sym (c.of.ensures false true) ∙ e))
    (λ e. c.stands-ones.ensures.among (sym (c.of.ensures true true) ∙ e))

pub returns-clause-none : goal.returns-clause-none
returns-clause-none c = λ s bounds q sites goes.
    of_four (λ a b. has c.args.pairs a b ≡ true → has c.of.result a b ≡ false → NoneHave s bounds c.args.frame c.args.net.0 a b)
    (λ there e. c.stands-zeros.ensures.none (sym (c.of.ensures false false) ∙ e) there s bounds q sites goes)
    (λ there e. c.stands-golden.ensures.none (sym (c.of.ensures true false) ∙ e) there s bounds q sites goes)
    (λ there e. c.stands-faulty.ensures.none (sym (c.of.ensures false true) ∙ e) there s bounds q sites goes)
    (λ there e. c.stands-ones.ensures.none (sym (c.of.ensures true true) ∙ e) there s bounds q sites goes)

pub returns-clause-open : goal.returns-clause-open
returns-clause-open c = λ s bounds q sites goes.
    of_four (λ a b. has c.of.result a b ≡ true → ¬ (IsRefuted s c.args.frame c.args.net.0 a b))
    (λ e. c.stands-zeros.ensures.open (sym (c.of.ensures false false) ∙ e) s bounds q sites goes)
    (λ e. c.stands-golden.ensures.open (sym (c.of.ensures true false) ∙ e) s bounds q sites goes)
    (λ e. c.stands-faulty.ensures.open (sym (c.of.ensures false true) ∙ e) s bounds q sites goes)
    (λ e. c.stands-ones.ensures.open (sym (c.of.ensures true true) ∙ e) s bounds q sites goes)
