-- Notice, one cycle after the other.
use Rattle.std.proofs.Common.{◌≡◌, ℕ, suc, ◌+◌, ◌⊎◌, inl, inr, Bool, true, false, ◌&&◌, ◌||◌, List, refl, ap, ap₂, sym, ◌∙◌, arith}
use Rattle.std.proofs.lemmas.Bool.{cases_Bool, or_left, or_parts, or_right, true≢false}
use Rattle.std.proofs.Math.Bool.{or-false}
use Rattle.circuit.specs.declared.parts.Fault.{Fault}
use Rattle.circuit.specs.Circuit.{Circuit}
use Rattle.workload.specs.declared.run.Run.{Run}
use Rattle.workload.specs.declared.run.Kind.TheVariants.{Mission, Test}
use Rattle.workload.specs.declared.run.Kind.{Kind}
use Rattle.workload.specs.Runs.{is_mission, is_test}
use Rattle.alarm_points.specs.declared.Points.{Points}
use Rattle.alarm_points.proofs.Settled.{some_below-suc, some_below-zero}
use Rattle.fm_base.specs.Lists.{some_below}
use Rattle.campaign_plan.specs.Danger.{is_raised, is_silenced}
use Rattle.classifier.specs.Seen.{is_noticed_by}

-- what is so in some cycle up to one more
pub some_more : (n : ℕ) (test : ℕ → Bool) → some_below (n + 1) test ≡ (some_below n test || test n)
some_more n test = let next : n + 1 ≡ suc n = omega arith in ap (λ m. some_below m test) next ∙ some_below-suc n test

-- notice of one cycle more
regroup : (a b kind p q : Bool) → ((a || b) || (kind && (p || q))) ≡ ((a || (kind && p)) || (b || (kind && q)))
regroup true b kind p q = refl
regroup false true true p q = sym (or_right p true refl)
regroup false true false p q = refl
regroup false false true p q = refl
regroup false false false p q = refl

pub noticed_more : (c : Circuit) (points : Points) (x : List Fault) (run : Run) (n : ℕ)
    → is_noticed_by c points x run (n + 1) ≡ (is_noticed_by c points x run n || (is_raised c points x run n || (is_test run.kind && is_silenced c points x run n)))
noticed_more c points x run n =
    ap₂ (λ a b. a || (is_test run.kind && b)) (some_more n (is_raised c points x run)) (some_more n (is_silenced c points x run))
    ∙ regroup (some_below n (is_raised c points x run)) (is_raised c points x run n) (is_test run.kind) (some_below n (is_silenced c points x run)) (is_silenced c points x run n)

none_before : (kind : Bool) → (false || (kind && false)) ≡ false
none_before true = refl
none_before false = refl

pub noticed_none : (c : Circuit) (points : Points) (x : List Fault) (run : Run) → is_noticed_by c points x run 0 ≡ false
noticed_none c points x run =
    ap₂ (λ a b. a || (is_test run.kind && b)) (some_below-zero (is_raised c points x run)) (some_below-zero (is_silenced c points x run)) ∙ none_before (is_test run.kind)

-- of a lane that was noticed it is no matter what is seen later
pub notice_after : (c : Circuit) (points : Points) (x : List Fault) (run : Run) (n : ℕ) (before own : Bool) → before ≡ is_noticed_by c points x run n
    → (is_noticed_by c points x run n ≡ false → own ≡ (is_raised c points x run n || (is_test run.kind && is_silenced c points x run n)))
    → (before || own) ≡ is_noticed_by c points x run (n + 1)
notice_after c points x run n before own is none = by_cases (cases_Bool (is_noticed_by c points x run n))
  where
    by_cases : (is_noticed_by c points x run n ≡ true) ⊎ (is_noticed_by c points x run n ≡ false) → (before || own) ≡ is_noticed_by c points x run (n + 1)
    by_cases (inl some) =
        or_left before own (is ∙ some)
        ∙ sym (noticed_more c points x run n ∙ or_left (is_noticed_by c points x run n) (is_raised c points x run n || (is_test run.kind && is_silenced c points x run n)) some)
    by_cases (inr quiet) = ap₂ (λ a b. a || b) is (none quiet) ∙ sym (noticed_more c points x run n)

-- what is noticed stays so
pub noticed_stays : (c : Circuit) (points : Points) (x : List Fault) (run : Run) (n : ℕ) → is_noticed_by c points x run (n + 1) ≡ false → is_noticed_by c points x run n ≡ false
noticed_stays c points x run n none = (or_parts _ _ (sym (noticed_more c points x run n) ∙ none)).0

-- a mission is no test
no_test : (kind : Kind) → is_mission kind ≡ true → is_test kind ≡ false
no_test Mission e = refl
no_test Test e = absurd (true≢false (sym e))

-- in a mission a raised alarm is what is noticed
pub raised_in_mission : (c : Circuit) (points : Points) (x : List Fault) (run : Run) (n : ℕ) → is_mission run.kind ≡ true
    → is_noticed_by c points x run n ≡ some_below n (is_raised c points x run)
raised_in_mission c points x run n mission =
    ap (λ test. some_below n (is_raised c points x run) || (test && some_below n (is_silenced c points x run))) (no_test run.kind mission)
    ∙ or-false (some_below n (is_raised c points x run))
