-- A window that sees one cycle more of a run.
use Rattle.std.proofs.Common.{◌≡◌, ℕ, zero, suc, ◌+◌, ◌-◌, ◌<◌, ◌≤◌, ◌⊎◌, inl, inr, true, false, ◌&&◌, ◌||◌, List, [], ◌∷◌, ◌++◌, length, refl, ap, ap₂, sym, ◌∙◌, subst, arith}
use Rattle.std.proofs.lemmas.Bool.{cases_Bool, cases_lt, or_left}
use Rattle.std.proofs.lemmas.List.{get_or_past, length_push}
use Rattle.circuit.specs.declared.parts.Fault.{Fault}
use Rattle.circuit.specs.Circuit.{Circuit}
use Rattle.workload.specs.declared.run.Run.{Run}
use Rattle.workload.specs.Runs.{cycles_of, is_test}
use Rattle.alarm_points.specs.declared.Goal.{Goal}
use Rattle.alarm_points.specs.declared.Points.{Points}
use Rattle.alarm_points.specs.Watch.{AreMadeFor, IsAfterPairs, Pair, Watch, Watches, pair_at, window_at}
use Rattle.alarm_points.proofs.Rings.{pair_before, pair_last}
use Rattle.alarm_points.proofs.Planes.{bit_of_none}
use Rattle.fm_base.specs.Planes.{bit}
use Rattle.campaign_plan.specs.Danger.{differs, is_raised, is_silenced}
use Rattle.alarm_points.specs.Dropped.{IsStillFrom}
use Rattle.alarm_points.proofs.Still.{some_below-still}
use Rattle.classifier.specs.Seen.{HasSeen, HaveSeen, IsShown, IsStill, has_left, is_noticed_by}
use Rattle.classifier.proofs.Notice.{noticed_more, noticed_none}
use Rattle.classifier.proofs.WindowCounts.{window_count}
use Rattle.testbench.specs.Points.{goal_at}

-- one cycle more
pub sees_more : (c : Circuit) (points : Points) (ftti : ℕ) (run : Run) (faults : ℕ → List Fault) (known : ℕ) (goal : Goal) (n : ℕ) (old new : Watch) (d r : ℕ)
    → HasSeen c points ftti run faults known goal n old
    → ((k : ℕ) → k < 64 → has_left c points ftti (bit known k) (faults k) run n ≡ false → bit d k ≡ differs c goal (faults k) run n)
    → ((k : ℕ) → k < 64 → has_left c points ftti (bit known k) (faults k) run n ≡ false → bit r k ≡ is_raised c points (faults k) run n)
    → ((pairs : List Pair) → IsAfterPairs pairs old → IsAfterPairs (pairs ++ record { differs = d; raised = r } ∷ []) new)
    → HasSeen c points ftti run faults known goal (n + 1) new
sees_more c points ftti run faults known goal n old new d r seen differ raise step = record {
  pairs = seen.pairs ++ pair ∷ [];
  count = length_push seen.pairs pair ∙ ap (λ m. m + 1) seen.count;
  after = step seen.pairs seen.after;
  shown = λ k t lane lt stays. by_cases k t lane lt stays (cases_lt t n);
}
  where
    pair : Pair
    pair = record { differs = d; raised = r }

    by_cases : (k t : ℕ) → k < 64 → t < n + 1 → has_left c points ftti (bit known k) (faults k) run t ≡ false → (t < n) ⊎ (n ≤ t)
        → IsShown c points run (faults k) goal (seen.pairs ++ pair ∷ []) k t
    by_cases k t lane lt stays (inl early) =
        let same : pair_at (seen.pairs ++ pair ∷ []) t ≡ pair_at seen.pairs t = pair_before seen.pairs pair t (omega (arith, early, seen.count)) in
        let own : IsShown c points run (faults k) goal seen.pairs k t = seen.shown k t lane early stays in
        record { differ = ap (λ (p : Pair). bit p.differs k) same ∙ own.differ; raise = ap (λ (p : Pair). bit p.raised k) same ∙ own.raise }
    by_cases k t lane lt stays (inr late) =
        let now : t ≡ n = omega (arith, lt, late) in
        let last : t ≡ length seen.pairs = omega (arith, now, seen.count) in
        let same : pair_at (seen.pairs ++ pair ∷ []) t ≡ pair = ap (pair_at (seen.pairs ++ pair ∷ [])) last ∙ pair_last seen.pairs pair in
        let here : has_left c points ftti (bit known k) (faults k) run n ≡ false = ap (has_left c points ftti (bit known k) (faults k) run) (sym now) ∙ stays in
        record {
          differ = ap (λ (p : Pair). bit p.differs k) same ∙ differ k lane here ∙ ap (differs c goal (faults k) run) (sym now);
          raise = ap (λ (p : Pair). bit p.raised k) same ∙ raise k lane here ∙ ap (is_raised c points (faults k) run) (sym now);
        }

-- before the first cycle
pub sees_none : (c : Circuit) (points : Points) (ftti : ℕ) (run : Run) (faults : ℕ → List Fault) (known : ℕ) (goal : Goal) (w : Watch)
    → IsAfterPairs [] w → HasSeen c points ftti run faults known goal 0 w
sees_none c points ftti run faults known goal w after = record {
  pairs = [];
  count = refl;
  after = after;
  shown = λ k t lane lt stays. absurd (omega (arith, lt));
}

-- behind the pairs that were seen there are none
pub unseen_pair : (pairs : List Pair) (t : ℕ) → length pairs ≤ t → pair_at pairs t ≡ record { differs = 0; raised = 0 }
unseen_pair pairs t past = get_or_past pairs t (record { differs = 0; raised = 0 }) past

-- a run is still in a lane that hasn't left it
pub still_lane : (c : Circuit) (points : Points) (run : Run) (x : List Fault) (g n : ℕ) → g < length points.goals → n ≤ cycles_of run
    → ((t : ℕ) → n ≤ t → t < cycles_of run → IsStill c points run x t)
    → IsStillFrom n (cycles_of run) (differs c (goal_at points.goals g) x run) (is_raised c points x run)
still_lane c points run x g n lt le still = record {
  within = le;
  differ = λ t from late. (still t from late).differ g lt;
  raise = λ t from late. (still t from late).raise;
}

-- notice over the whole run is that of the cycles that were seen
pub noticed_still : (c : Circuit) (points : Points) (run : Run) (x : List Fault) (n : ℕ) → n ≤ cycles_of run
    → (is_noticed_by c points x run n ≡ false → (t : ℕ) → n ≤ t → t < cycles_of run → (is_raised c points x run t ≡ false) × (is_silenced c points x run t ≡ false))
    → is_noticed_by c points x run n ≡ is_noticed_by c points x run (cycles_of run)
noticed_still c points run x n le still = by_cases (cases_Bool (is_noticed_by c points x run n))
  where
    more : (j : ℕ) → is_noticed_by c points x run n ≡ true → is_noticed_by c points x run (n + j) ≡ true
    more zero some = let here : n + 0 ≡ n = omega arith in ap (is_noticed_by c points x run) here ∙ some
    more (suc j) some =
        let next : n + suc j ≡ n + j + 1 = omega arith in
        ap (is_noticed_by c points x run) next ∙ noticed_more c points x run (n + j) ∙ or_left _ _ (more j some)

    by_cases : (is_noticed_by c points x run n ≡ true) ⊎ (is_noticed_by c points x run n ≡ false)
        → is_noticed_by c points x run n ≡ is_noticed_by c points x run (cycles_of run)
    by_cases (inl some) =
        let last : n + (cycles_of run - n) ≡ cycles_of run = omega (arith, le) in
        some ∙ sym (ap (is_noticed_by c points x run) (sym last) ∙ more (cycles_of run - n) some)
    by_cases (inr none) =
        ap₂ (λ a b. a || (is_test run.kind && b))
        (some_below-still n (cycles_of run) (is_raised c points x run) le (λ t from late. (still none t from late).0))
        (some_below-still n (cycles_of run) (is_silenced c points x run) le (λ t from late. (still none t from late).1))

-- before the first cycle a word's windows have seen nothing, and no lane is noticed
pub unseen : (c : Circuit) (points : Points) (run : Run) (faults : ℕ → List Fault) (known : ℕ) (windows : Watches) → AreMadeFor points windows
    → ((g : ℕ) → g < length windows.windows → IsAfterPairs [] (window_at windows g)) → HaveSeen c points run faults known 0 windows 0
unseen c points run faults known windows made fresh = record {
  made = made;
  seen = λ g lt.
      sees_none c points windows.ftti run faults known (goal_at points.goals g) (window_at windows g) (fresh g (subst (λ n. g < n) (sym (window_count points windows made)) lt));
  noticed_is = λ k lane free. bit_of_none k ∙ sym (noticed_none c points (faults k) run);
  stays = λ k lane stays. bit_of_none k;
}
