-- A window that sees one cycle more of a run.
use Rattle.std.proofs.Common.{◌≡◌, ℕ, ◌+◌, ◌<◌, ◌≤◌, ◌⊎◌, inl, inr, Bool, List, [], ◌∷◌, ◌++◌, length, refl, ap, sym, ◌∙◌, subst, arith}
use Rattle.std.specs.Prelude.{Option}
use Rattle.std.proofs.lemmas.Bool.{cases_lt}
use Rattle.std.proofs.lemmas.List.{length_push}
use Rattle.circuit.specs.declared.parts.Fault.{Fault}
use Rattle.circuit.specs.Circuit.{Circuit}
use Rattle.workload.specs.declared.run.Run.{Run}
use Rattle.alarm_points.specs.declared.Goal.{Goal}
use Rattle.alarm_points.specs.declared.Points.{Points}
use Rattle.alarm_points.specs.Watch.{AreMadeFor, IsAfterPairs, Pair, Watch, Watches, pair_at, window_at}
use Rattle.alarm_points.proofs.Rings.{pair_before, pair_last}
use Rattle.alarm_points.proofs.Planes.{bit_of_none}
use Rattle.alarm_points.proofs.Settled.{some_below-zero}
use Rattle.fm_base.specs.Planes.{bit}
use Rattle.campaign_plan.specs.declared.Outcome.{Outcome}
use Rattle.campaign_plan.specs.Danger.{differs, is_raised, is_silenced}
use Rattle.classifier.proofs.WindowCounts.{window_count}
use Rattle.row_audit.specs.Watched.{HasWatched, HaveWatched}

-- a fact of each pair so far, and of one more
each_pair_more : (says : Pair → Bool) (want : ℕ → Bool) (pairs : List Pair) (p : Pair) (n : ℕ) → length pairs ≡ n
    → ((t : ℕ) → t < n → says (pair_at pairs t) ≡ want t) → says p ≡ want n
    → (t : ℕ) → t < n + 1 → says (pair_at (pairs ++ p ∷ []) t) ≡ want t
each_pair_more says want pairs p n size each own t lt = by_cases (cases_lt t n)
  where
    by_cases : (t < n) ⊎ (n ≤ t) → says (pair_at (pairs ++ p ∷ []) t) ≡ want t
    by_cases (inl before) = ap says (pair_before pairs p t (omega (arith, before, size))) ∙ each t before
    by_cases (inr late) =
        let same : t ≡ n = omega (arith, lt, late) in
        let last : t ≡ length pairs = omega (arith, same, size) in
        ap (λ m. says (pair_at (pairs ++ p ∷ []) m)) last ∙ ap says (pair_last pairs p) ∙ own ∙ sym (ap want same)

-- one cycle more
pub sees_more : (c : Circuit) (points : Points) (run : Run) (faults : ℕ → List Fault) (goal : Goal) (n : ℕ) (old new : Watch) (d r : ℕ)
    → HasWatched c points run faults goal n old
    → ((k : ℕ) → k < 64 → bit d k ≡ differs c goal (faults k) run n)
    → ((k : ℕ) → k < 64 → bit r k ≡ is_raised c points (faults k) run n)
    → ((pairs : List Pair) → IsAfterPairs pairs old → IsAfterPairs (pairs ++ record { differs = d; raised = r } ∷ []) new)
    → HasWatched c points run faults goal (n + 1) new
sees_more c points run faults goal n old new d r seen differ raise step = record {
  pairs = seen.pairs ++ pair ∷ [];
  count = length_push seen.pairs pair ∙ ap (λ m. m + 1) seen.count;
  after = step seen.pairs seen.after;
  differ = λ k t lane lt.
      each_pair_more (λ p. bit p.differs k) (differs c goal (faults k) run) seen.pairs pair n seen.count (λ u early. seen.differ k u lane early) (differ k lane) t lt;
  raise = λ k t lane lt.
      each_pair_more (λ p. bit p.raised k) (is_raised c points (faults k) run) seen.pairs pair n seen.count (λ u early. seen.raise k u lane early) (raise k lane) t lt;
}
  where
    pair : Pair
    pair = record { differs = d; raised = r }

-- before the first cycle a word's windows have seen nothing, and no alarm is known
pub unwatched : (c : Circuit) (points : Points) (run : Run) (faults : ℕ → List Fault) (batch : Option ℕ) (windows : Watches) (planes : Outcome) → AreMadeFor points windows
    → ((g : ℕ) → g < length windows.windows → IsAfterPairs [] (window_at windows g))
    → HaveWatched c points run faults 0 (record { batch = batch; windows = windows; alarms = record { raised = 0; silenced = 0 }; planes = planes })
unwatched c points run faults batch windows planes made fresh = record {
  made = made;
  seen = λ g lt. record {
    pairs = [];
    count = refl;
    after = fresh g (subst (λ n. g < n) (sym (window_count points windows made)) lt);
    differ = λ k t lane less. absurd (omega (arith, less));
    raise = λ k t lane less. absurd (omega (arith, less));
  };
  raised = λ k lane. bit_of_none k ∙ sym (some_below-zero (is_raised c points (faults k) run));
  silenced = λ k lane. bit_of_none k ∙ sym (some_below-zero (is_silenced c points (faults k) run));
}
