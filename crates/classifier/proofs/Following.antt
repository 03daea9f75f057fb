-- Lanes that are followed from cycle to cycle.
use Rattle.std.proofs.Common.{◌≡◌, ◌≢◌, ◌<◌, ◌≤◌, ◌+◌, ◌*◌, ◌⊎◌, ◌||◌, ◌&&◌, inl, inr, ℕ, true, false, List, [], length, ap, sym, ◌∙◌, arith}
use Rattle.std.proofs.lemmas.Bool.{cases_lt, true≢false}
use Rattle.std.proofs.Math.Bool.{or-false}
use Rattle.circuit.specs.declared.parts.Fault.{Fault}
use Rattle.circuit.specs.Circuit.{Circuit}
use Rattle.workload.specs.declared.run.Run.{Run}
use Rattle.alarm_points.specs.declared.Points.{Points}
use Rattle.alarm_points.specs.Watch.{Watches, window_at}
use Rattle.fm_base.specs.Lists.{some_below}
use Rattle.fm_base.specs.Planes.{bit}
use Rattle.classifier.specs.Seen.{AreFollowed, HaveSeen, has_left, is_dropped}
use Rattle.classifier.proofs.Leaving.{left_stays, not_dropped}

-- where the same faults are in force
pub followed_alike : (c : Circuit) (points : Points) (ftti : ℕ) (run : Run) (faults : ℕ → List Fault) (known n : ℕ) (old new : ℕ → List Fault)
    → ((k : ℕ) → k < 64 → new k ≡ old k)
    → AreFollowed c points ftti run faults known n old → AreFollowed c points ftti run faults known n new
followed_alike c points ftti run faults known n old new same is = record {
  follow = λ k lane stays. same k lane ∙ is.follow k lane stays;
}

-- one cycle more, behind which those lanes are dropped in which nothing more decides
pub followed_more : (c : Circuit) (points : Points) (ftti : ℕ) (run : Run) (faults : ℕ → List Fault) (known t : ℕ) (old new : ℕ → List Fault) (ws : Watches) (left out : ℕ)
    → ws.ftti ≡ ftti
    → AreFollowed c points ftti run faults known t old
    → HaveSeen c points run faults known (t + 1) ws left
    → ((k : ℕ) → bit out k ≡ is_dropped known ws left k)
    → ((k : ℕ) → k < 64 → (new k ≡ old k) ⊎ ((bit out k ≡ true) × (new k ≡ [])))
    → AreFollowed c points ws.ftti run faults known (t + 1) new
followed_more c points ftti run faults known t old new ws left out keeps before seen is dropped = record {
  follow = λ k lane stays.
      let here : has_left c points ftti (bit known k) (faults k) run (t + 1) ≡ false =
      sym (ap (λ f. has_left c points f (bit known k) (faults k) run (t + 1)) keeps) ∙ stays in
      elim (dropped k lane) [
        | inl same ↦ same ∙ before.follow k lane (left_stays c points ftti (bit known k) (faults k) run t here)
        | inr gone ↦ absurd (true≢false (sym gone.0 ∙ is k ∙ not_dropped c points run faults known (t + 1) ws left k lane seen stays))
      ];
}

-- the lanes that leave behind the last cycle have left
pub seen_left : (c : Circuit) (points : Points) (run : Run) (faults : ℕ → List Fault) (known n : ℕ) (ws : Watches) (left out : ℕ)
    → HaveSeen c points run faults known n ws left → ((k : ℕ) → bit out k ≡ is_dropped known ws left k) → HaveSeen c points run faults known n ws out
seen_left c points run faults known n ws left out seen is = record {
  made = seen.made;
  seen = seen.seen;
  noticed_is = λ k lane free.
      is k ∙ ap (λ b. bit left k || (b && some_below (length ws.windows) (λ g. bit (window_at ws g).settled k))) free ∙ or-false (bit left k)
      ∙ seen.noticed_is k lane free;
  stays = λ k lane stays. is k ∙ not_dropped c points run faults known n ws left k lane seen stays;
}

-- a lane of another word
pub elsewhere : (word i k : ℕ) → k < 64 → word ≢ i → (word * 64 + k < i * 64) ⊎ (i * 64 + 64 ≤ word * 64 + k)
elsewhere word i k lane apart = elim (cases_lt word i) [ inl less ↦ inl (omega (arith, lane, less)) | inr most ↦ inr (omega (arith, most, apart)) ]
