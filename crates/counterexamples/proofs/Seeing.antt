-- A run that is followed by one cycle more, and what it contradicts.
use Rattle.std.proofs.Common.{true, ◌≡◌, ◌≢◌, inl, inr, ◌||◌, ℕ, ◌+◌, ◌<◌, ◌≤◌, Bool, false, List, [], ◌∷◌, ◌++◌, length, get_or, set, refl, ap, ap₂, sym, subst, ◌∙◌, arith, below_more, get_or-set_other, get_or-set_same}
use Rattle.std.specs.Prelude.{All, Some}
use Rattle.std.proofs.lemmas.List.{length_push}
use Rattle.circuit.specs.declared.parts.Fault.{Fault}
use Rattle.circuit.specs.Circuit.{Circuit}
use Rattle.circuit.specs.Trace.{trace}
use Rattle.circuit.proofs.Cycles.{trace-append}
use Rattle.claim_search.specs.declared.question.Posed.{Posed}
use Rattle.coverage_claim.specs.Stretch.{held_at}
use Rattle.coverage_claim.specs.declared.parts.Held.{Held}
use Rattle.fm_base.specs.Planes.{bit}
use Rattle.fm_base.proofs.Tests.{or_cases}
use Rattle.lane_words.specs.Bank.{AreAfter, Bank}
use Rattle.counterexamples.specs.Contradicted.{AreContradicted, some_differs, some_raised}
use Rattle.counterexamples.specs.Runs.{AreHeldIn, HasFollowed, IsFollowedTo, IsSeen, IsUnalarmed, LanesContradicted, Looks, seen_at}
use Rattle.counterexamples.specs.declared.look.Seen.{Seen}

abbrev none : Seen
none = record { differs = 0; raised = 0 }

module _ (c : Circuit) (p : Posed) (faults : ℕ → List Fault) where
  -- before the first cycle
  pub followed_none : (lanes : Bank ℕ) (seen : List Seen) → AreAfter 64 bit [] lanes → IsFollowedTo c p faults lanes seen 0 0
  followed_none lanes seen after = record {
    vectors = [];
    count = refl;
    after = after;
    seen = record {
      each = λ t lt. absurd (omega (arith, lt));
      quiet = λ t lt. absurd (omega (arith, lt));
      held = λ t lt. absurd (omega (arith, lt));
    };
    raised = λ k u lane e from lt. absurd (omega (arith, lt));
  }

  module _ (vectors more : List (List Bool)) where
    -- vectors that come later change no earlier cycle
    same : (x : List Fault) (t : ℕ) → t < length vectors → trace c x (vectors ++ more) t ≡ trace c x vectors t
    same x t lt = λ i net. trace-append c x vectors more t net lt i

    still_seen : (t : ℕ) (seen : Seen) → t < length vectors → IsSeen c p faults vectors t seen → IsSeen c p faults (vectors ++ more) t seen
    still_seen t seen lt was = record {
      differs = λ k lane e. ap₂ (some_differs p.observed.now) (same [] t lt) (same (faults k) t lt) ∙ was.differs k lane e;
      raised = λ k u lane e from le. ap (some_raised p.alarms.now) (same (faults k) u (omega (arith, lt, le))) ∙ was.raised k u lane e from le;
    }

    still_held : (t : ℕ) → t < length vectors → All (λ (h : Held). (value : Bool) → held_at h t ≡ Some value → trace c [] vectors t h.net.0 ≡ value) p.held.now
        → All (λ (h : Held). (value : Bool) → held_at h t ≡ Some value → trace c [] (vectors ++ more) t h.net.0 ≡ value) p.held.now
    still_held t lt was j d less value e = ap (λ (values : ℕ → Bool). values (get_or p.held.now j d).net.0) (same [] t lt) ∙ was j d less value e

  -- ONE CYCLE MORE
  module _ (lanes after : Bank ℕ) (seen : List Seen) (n raised : ℕ) (now : Seen) (inputs : List Bool) (so : IsFollowedTo c p faults lanes seen n raised) (room : n < length seen)
      (step : (vectors : List (List Bool)) → AreAfter 64 bit vectors lanes → AreAfter 64 bit (vectors ++ inputs ∷ []) after)
      (looks : Looks c p faults after n raised now) (held : AreHeldIn c p.held.now after n) (quiet : bit now.raised 0 ≡ false) where
    abbrev longer : List (List Bool)
    longer = so.vectors ++ inputs ∷ []

    size : length longer ≡ n + 1
    size = length_push so.vectors inputs ∙ ap (λ m. m + 1) so.count

    reached : AreAfter 64 bit longer after
    reached = step so.vectors so.after

    before : (t : ℕ) → t < n → t < length so.vectors
    before t lt = let count = so.count in omega (arith, lt, count)

    raised_more : (k u : ℕ) → k < 64 → bit now.raised k ≡ false → p.from ≤ u → u < n + 1 → some_raised p.alarms.now (trace c (faults k) longer u) ≡ false
    raised_more k u lane e from lt = below_more (λ v. p.from ≤ v → some_raised p.alarms.now (trace c (faults k) longer v) ≡ false) n
        (λ v less later. ap (some_raised p.alarms.now) (same so.vectors (inputs ∷ []) (faults k) v (before v less)) ∙ so.raised k v lane (looks.before k e) later less)
        (λ later. looks.raised later longer k reached (sym size) lane e) u lt from

    now_seen : IsSeen c p faults longer n now
    now_seen = record {
      differs = λ k lane e. sym (looks.differs longer k reached (sym size) lane) ∙ e;
      raised = λ k u lane e from le. raised_more k u lane e from (omega (arith, le));
    }

    there : (t : ℕ) → t < n → seen_at (set seen n now) t ≡ seen_at seen t
    there t lt = let apart : t ≢ n = omega (arith, lt) in get_or-set_other seen n t now none apart

    here : seen_at (set seen n now) n ≡ now
    here = get_or-set_same seen n now none room

    pub followed_more : IsFollowedTo c p faults after (set seen n now) (n + 1) now.raised
    followed_more = record {
      vectors = longer;
      count = size;
      after = reached;
      seen = record {
        each = λ t lt. below_more (λ u. IsSeen c p faults longer u (seen_at (set seen n now) u)) n
            (λ u less. subst (IsSeen c p faults longer u) (sym (there u less)) (still_seen so.vectors (inputs ∷ []) u (seen_at seen u) (before u less) (so.seen.each u (before u less))))
            (subst (IsSeen c p faults longer n) (sym here) now_seen) t (omega (arith, lt, size));
        quiet = λ t lt. below_more (λ u. bit (seen_at (set seen n now) u).raised 0 ≡ false) n
            (λ u less. ap (λ (each : Seen). bit each.raised 0) (there u less) ∙ so.seen.quiet u (before u less))
            (ap (λ (each : Seen). bit each.raised 0) here ∙ quiet) t (omega (arith, lt, size));
        held = λ t lt. below_more (λ u. All (λ (h : Held). (value : Bool) → held_at h u ≡ Some value → trace c [] longer u h.net.0 ≡ value) p.held.now) n
            (λ u less. still_held so.vectors (inputs ∷ []) u (before u less) (so.seen.held u (before u less)))
            (held longer reached (sym size)) t (omega (arith, lt, size));
      };
      raised = raised_more;
    }

  -- WHAT A RUN CONTRADICTS: a lane in which no alarm comes
  pub contradicts : (n : ℕ) (seen : List Seen) (k : ℕ) → faults 0 ≡ [] → HasFollowed c p faults n seen → k < 64 → IsUnalarmed p n seen k → AreContradicted c p (faults k)
  contradicts n seen k golden run lane un =
      let vectors = run.0 in
      let count = run.1 in
      let shown = run.2 in
      let lasts = un.lasts in (
        vectors,
        un.t,
        record {
          later = un.later;
          lasts = omega (arith, lasts, count);
          held = shown.held;
          quiet = λ u from lt. subst (λ (x : List Fault). some_raised p.alarms.now (trace c x vectors u) ≡ false) golden
              ((shown.each u lt).raised 0 u (omega arith) (shown.quiet u lt) from (omega arith));
          differs = (shown.each un.t (omega (arith, lasts, count))).differs k lane un.differs;
          silent = λ u from le. (shown.each (un.t + p.window) (omega (arith, lasts, count))).raised k u lane un.silent from le;
        },
      )

  -- so it is of all lanes in which none comes
  pub followed_lanes : (n : ℕ) (seen : List Seen) (found own both : ℕ) → faults 0 ≡ [] → HasFollowed c p faults n seen → LanesContradicted c p faults found
      → ((k : ℕ) → k < 64 → bit own k ≡ true → IsUnalarmed p n seen k) → ((k : ℕ) → bit both k ≡ (bit found k || bit own k)) → LanesContradicted c p faults both
  followed_lanes n seen found own both golden run before un either k lane e = elim (or_cases (bit found k) (bit own k) (sym (either k) ∙ e)) as (λ _. AreContradicted c p (faults k)) [
    | inl earlier ↦ before k lane earlier
    | inr now ↦ contradicts n seen k golden run lane (un k lane now)
  ]
