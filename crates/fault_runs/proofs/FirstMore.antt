-- The first cycle of one cycle more.
use Rattle.std.proofs.Common.{◌≡◌, ℕ, suc, ◌+◌, Bool, [], ◌∷◌, None, find, refl, ap, sym, ◌∙◌, arith}
use Rattle.std.proofs.lemmas.List.Folds.{find-append}
use Rattle.fm_base.specs.Lists.{below}
use Rattle.fm_base.proofs.Below.{below_push}
use Rattle.first_cycles.specs.FirstCycles.{first_below, first_with}

-- before the first cycle there is none
pub first_none : (test : ℕ → Bool) → first_below 0 test ≡ None
unfolding below
first_none test = refl

-- one cycle more
pub first_more : (n : ℕ) (test : ℕ → Bool) → first_with (first_below n test) (test n) n ≡ first_below (n + 1) test
first_more n test =
    let next : n + 1 ≡ suc n = omega arith in
    sym (ap (λ m. first_below m test) next ∙ ap (find test) (below_push n) ∙ find-append test (below n) (n ∷ []))
