-- Notice is by each alarm point.
use Rattle.std.proofs.Common.{◌≡◌, ℕ, zero, suc, ◌<◌, Bool, true, false, ◌||◌, ◌&&◌, List, [], ◌∷◌, Option, Some, None, is_some, refl, ap, ap₂, sym, ◌∙◌}
use Rattle.std.specs.List.{list_any}
use Rattle.circuit.specs.declared.parts.Fault.{Fault}
use Rattle.circuit.specs.Circuit.{Circuit}
use Rattle.fm_base.specs.Lists.{some_below}
use Rattle.fm_base.proofs.Below.{some_below-at, some_below-true}
use Rattle.fm_base.proofs.Finding.{list_any-map}
use Rattle.fm_base.proofs.Tests.{clash, false_of}
use Rattle.workload.specs.declared.run.Run.{Run}
use Rattle.workload.specs.Runs.{cycles_of, is_test}
use Rattle.alarm_points.specs.declared.Points.{Points}
use Rattle.campaign_plan.specs.Danger.{is_noticed, is_noticed_in}
use Rattle.first_cycles.specs.FirstCycles.{first_below, is_raised_at}
use Rattle.first_cycles.specs.Laws.{NoticeIsShown}
use Rattle.first_cycles.specs.Shown.{Shown, is_silenced_at, shown_in}
use Rattle.first_cycles.proofs.Firsts.{IsFirstOf, first_is}

-- some cycle passes where there is a first one
found_some : (n : ℕ) (test : ℕ → Bool) (first : Option ℕ) → IsFirstOf n test first → some_below n test ≡ is_some first
found_some n test None none = false_of _ (λ some.
    let found : (t : ℕ) × (t < n) × (test t ≡ true) = some_below-true n test some in
    clash (test found.0) found.2 (none found.0 found.1))
found_some n test (Some t) first = some_below-at n test t first.within first.passes

pub some_first : (n : ℕ) (test : ℕ → Bool) → some_below n test ≡ is_some (first_below n test)
some_first n test = found_some n test (first_below n test) (first_is n test)

crossed : (a b c d : Bool) → ((a || b) || (c || d)) ≡ ((a || c) || (b || d))
crossed true b c d = refl
crossed false true true d = refl
crossed false true false d = refl
crossed false false c d = refl

-- some number passes one of two tests
some_either : (n : ℕ) (f g : ℕ → Bool) → some_below n (λ t. f t || g t) ≡ (some_below n f || some_below n g)
unfolding some_below
some_either zero f g = refl
some_either (suc n) f g = ap (λ b. b || (f n || g n)) (some_either n f g) ∙ crossed (some_below n f) (some_below n g) (f n) (g n)

none_passes : (n : ℕ) → some_below n (λ t. false) ≡ false
unfolding some_below
none_passes zero = refl
none_passes (suc n) = ap (λ b. b || false) (none_passes n)

joined : (a c k b d : Bool) → ((a || c) || (k && (b || d))) ≡ ((a || (k && b)) || (c || (k && d)))
joined true c k b d = refl
joined false true k true d = crossed_true k
  where
    crossed_true : (k : Bool) → true ≡ ((k && true) || true)
    crossed_true true = refl
    crossed_true false = refl
joined false true true false d = refl
joined false true false false d = refl
joined false false true b d = refl
joined false false false b d = refl

module _ {X : Type 0} (n : ℕ) (test : X → ℕ → Bool) where
  -- some number passes some of the tests
  swapped : (xs : List X) → some_below n (λ t. list_any (λ x. test x t) xs) ≡ list_any (λ x. some_below n (test x)) xs
  swapped [] = none_passes n
  swapped (x ∷ xs) = some_either n (test x) (λ t. list_any (λ y. test y t) xs) ∙ ap (λ b. some_below n (test x) || b) (swapped xs)

-- what some alarm point gives, and what some gives in a test
both_any : {X : Type 0} (k : Bool) (a b : X → Bool) (xs : List X) → (list_any a xs || (k && list_any b xs)) ≡ list_any (λ x. a x || (k && b x)) xs
both_any true a b [] = refl
both_any false a b [] = refl
both_any k a b (x ∷ xs) = joined (a x) (list_any a xs) k (b x) (list_any b xs) ∙ ap (λ t. (a x || (k && b x)) || t) (both_any k a b xs)

-- what a run shows of notice
abbrev run_notice : Points → Shown → Bool
run_notice points s = list_any (λ net. is_some (s.alarm net) || (is_test s.kind && s.is_silenced net)) points.alarm

in_run : (c : Circuit) (points : Points) (x : List Fault) (run : Run) → is_noticed_in c points x run ≡ run_notice points (shown_in c x run)
in_run c points x run =
    ap₂ (λ raised silenced. raised || (is_test run.kind && silenced)) (swapped (cycles_of run) (is_raised_at c x run) points.alarm)
    (swapped (cycles_of run) (is_silenced_at c x run) points.alarm)
    ∙ both_any (is_test run.kind) (λ net. some_below (cycles_of run) (is_raised_at c x run net)) (λ net. some_below (cycles_of run) (is_silenced_at c x run net)) points.alarm
    ∙ (λ i. list_any (λ net. some_first (cycles_of run) (is_raised_at c x run net) i || (is_test run.kind && some_below (cycles_of run) (is_silenced_at c x run net))) points.alarm)

each_run : (c : Circuit) (points : Points) (x : List Fault) → is_noticed_in c points x ≡ (λ run. run_notice points (shown_in c x run))
each_run c points x = λ i run. in_run c points x run i

-- NOTICE in some run
pub notice_shown : NoticeIsShown
unfolding is_noticed
notice_shown c points runs x =
    ap (λ (test : Run → Bool). list_any test runs) (each_run c points x) ∙ sym (list_any-map (run_notice points) (shown_in c x) runs)
