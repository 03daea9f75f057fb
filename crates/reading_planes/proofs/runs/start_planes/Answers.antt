use Rattle.std.proofs.Common.{◌≡◌, ◌≢◌, ◌<◌, ℕ, List, [], length, get_or, set, inl, inr, ap, sym, ◌∙◌, subst, arith, below_more, get_or-set_other, get_or-set_same}
use Rattle.std.proofs.lemmas.Bool.{cases_eq}
use Rattle.std.proofs.lemmas.List.{get_or_default}
use Rattle.campaign_plan.specs.declared.Outcome.{Outcome}
use Rattle.classifier.specs.Planes.{outcome_at}
use Rattle.reading_planes.proofs.runs.start_planes.Goals as goal

pub loop-word-preserved : goal.loop-word-preserved
loop-word-preserved c =
    let i = c.loop-word.word in
    let ps : List (List Outcome) = c.loop-word.planes in
    let new : List Outcome = c.start.new.self in
    let inv = c.loop-word.invariant in
    let inside : i < length ps = omega (arith, c.loop-word-test.true, c.loop-word.auto.planes) in
    let old : get_or ps i c.index-planes-word.result ≡ get_or ps i [] = get_or_default ps i c.index-planes-word.result [] inside in
    record {
      count = λ word.
          elim (cases_eq word i) [
            | inl same ↦ subst (λ (m : ℕ). length (get_or (set ps i new) m []) ≡ length (get_or c.args.planes.now m [])) (sym same)
                (ap length (get_or-set_same ps i new [] inside) ∙ c.start.ensures.count ∙ ap length old ∙ inv.count i)
            | inr apart ↦ ap length (get_or-set_other ps i word new [] apart) ∙ inv.count word
          ];
      nothing = λ word r lt small.
          below_more (λ (m : ℕ). r < length (get_or c.args.planes.now m []) → outcome_at (get_or (set ps i new) m []) r ≡ record { danger = 0; noticed = 0 }) i
          (λ m early within.
          let apart : m ≢ i = omega (arith, early) in
          ap (λ (os : List Outcome). outcome_at os r) (get_or-set_other ps i m new [] apart) ∙ inv.nothing m r early within)
          (λ within.
          ap (λ (os : List Outcome). outcome_at os r) (get_or-set_same ps i new [] inside) ∙ c.start.ensures.nothing r (subst (λ n. r < n) (sym (ap length old ∙ inv.count i)) within))
          word lt small;
    }

pub returns-clause-fit : goal.returns-clause-fit
returns-clause-fit c = λ readings fits word lt. c.loop-word.invariant.count word ∙ fits word (subst (λ n. word < n) c.loop-word.auto.planes lt)
