-- One cycle more that was looked at, and one stretch more.
use Rattle.std.proofs.Common.{◌≡◌, ℕ, ◌+◌, ◌*◌, min, Bool, true, false, not, ◌||◌, List, [], ◌∷◌, ◌++◌, length, inl, inr, ap, subst, sym, ◌∙◌, arith}
use Rattle.std.proofs.lemmas.Bool.{cases_lt}
use Rattle.std.proofs.lemmas.List.{get_or_append_left, get_or_push}
use Rattle.circuit.specs.Circuit.{Circuit}
use Rattle.fm_base.proofs.Tests.{not_false, or_second}
use Rattle.place_set.specs.Places.{value_in}
use Rattle.workload.specs.declared.run.Run.{Run}
use Rattle.workload.specs.Runs.{cycles_of}
use Rattle.testbench.specs.Seen.{AreStretchesOf, HasSeen, SeenValues, is_seen, stretch_at}

module _ (old new : SeenValues) (row : List ℕ) (net : ℕ)
    (ones : value_in new.ones net ≡ (value_in old.ones net || value_in row net))
    (zeros : value_in new.zeros net ≡ (value_in old.zeros net || not (value_in row net))) where
  pub seen_still : (v : Bool) → is_seen old net v ≡ true → is_seen new net v ≡ true
  seen_still true is = ones ∙ ap (λ b. b || value_in row net) is
  seen_still false is = zeros ∙ ap (λ b. b || not (value_in row net)) is

  pub seen_now : (v : Bool) → value_in row net ≡ v → is_seen new net v ≡ true
  seen_now true is = ones ∙ or_second (value_in old.ones net) (value_in row net) is
  seen_now false is = zeros ∙ or_second (value_in old.zeros net) (not (value_in row net)) (not_false (value_in row net) is)

-- A STRETCH MORE
pub stretches_more : (c : Circuit) (run : Run) (s : ℕ) (old new : List SeenValues) (own : SeenValues) → new ≡ old ++ own ∷ [] → length old ≡ s
    → AreStretchesOf c run s old → HasSeen c run (s * 256) (min (cycles_of run) (s * 256 + 256)) own → AreStretchesOf c run (s + 1) new
stretches_more c run s old new own now count before seen k lt =
    let none : SeenValues = stretch_at [] 0 in
    elim (cases_lt k s) as (λ _. HasSeen c run (k * 256) (min (cycles_of run) (k * 256 + 256)) (stretch_at new k)) [
      | inl less ↦ subst (λ (x : SeenValues). HasSeen c run (k * 256) (min (cycles_of run) (k * 256 + 256)) x)
          (sym (ap (λ (xs : List SeenValues). stretch_at xs k) now ∙ get_or_append_left old (own ∷ []) none k (omega (arith, less, count)))) (before k less)
      | inr most ↦
          (let last : k ≡ s = omega (arith, lt, most) in
          subst (λ (x : SeenValues). HasSeen c run (k * 256) (min (cycles_of run) (k * 256 + 256)) x)
          (sym (ap (λ (xs : List SeenValues). stretch_at xs k) now ∙ get_or_push old own none k (omega (arith, last, count))))
          (subst (λ n. HasSeen c run (n * 256) (min (cycles_of run) (n * 256 + 256)) own) (sym last) seen))
    ]
