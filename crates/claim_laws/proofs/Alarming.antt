-- Where an observation net differs, an alarm comes: by induction over the cycles from the claim's first one on.
use Rattle.std.proofs.Common.{◌≡◌, inl, inr, ℕ, zero, suc, ◌+◌, ◌-◌, ◌<◌, ◌≤◌, get_or, Bool, true, false, not, ◌&&◌, ◌||◌, List, [], refl, ap, sym, subst, ◌∙◌, arith, Some}
use Rattle.std.specs.Prelude.{Contains, nat_le, if◌then◌else◌}
use Rattle.std.specs.List.{slice_get, list_any}
use Rattle.std.proofs.lemmas.List.Folds.{list_any_at}
use Rattle.std.proofs.lemmas.Bool.{cases_Bool, le-ltb, le-leb, leb-true}
use Rattle.std.proofs.lemmas.List.Elements.{All-contains, Contains-get_or}
use Rattle.fm_base.specs.Lists.{same_bit, some_below}
use Rattle.fm_base.proofs.Below.{some_below-false, some_below-true}
use Rattle.fm_base.proofs.Tests.{and_both, both_true, clash, false_of, not_true, or_false}
use Rattle.circuit.specs.declared.parts.Fault.{Fault}
use Rattle.circuit.specs.declared.parts.Latch.{Latch}
use Rattle.circuit.specs.declared.parts.NetId.{NetId}
use Rattle.circuit.specs.Trace.{trace}
use Rattle.workload.specs.declared.run.Run.{Run}
use Rattle.workload.specs.Runs.{cycles_of}
use Rattle.alarm_points.specs.declared.Goal.{Goal}
use Rattle.alarm_points.specs.PointsFile.{observed}
use Rattle.campaign_plan.specs.Danger.{differs, golden, is_raised, with_faults}
use Rattle.claim_laws.specs.Faults.{LieWithin}
use Rattle.coverage_claim.specs.Region.{may_show}
use Rattle.coverage_claim.specs.Stretch.{AreSo, held_at}
use Rattle.coverage_claim.specs.declared.parts.Held.{Held}
use Rattle.coverage_claim.specs.Claim.{Claim, GoesOn, IsNeverEarly, lead_in, leaves, window_of}
use Rattle.claim_laws.specs.Runs.{IsAdmitted}
use Rattle.claim_laws.specs.Laws.{AlarmComes, AlarmsCome, Stands}
use Rattle.claim_laws.proofs.Finding.{any_says, in_some}
use Rattle.claim_laws.proofs.Lying.{same_self}
use Rattle.claim_laws.proofs.Watching.{are_so, latches, starts}

-- a net that isn't raised while the golden run has 0 has 0
silent_of : (f g : Bool) → (f && not g) ≡ false → g ≡ false → f ≡ false
silent_of true true e k = absurd (cc)
silent_of true false e k = absurd (cc)
silent_of false g e k = refl

-- no element of the list passes
none_passes : {X : Type 0} (f : X → Bool) (xs : List X) → list_any f xs ≡ false → (x : X) → Contains xs x → f x ≡ false
none_passes f xs none x has = false_of (f x) (λ e. clash (list_any f xs) (found_in f xs x has e) none)
  where
    found_in : {X : Type 0} (f : X → Bool) (xs : List X) (x : X) → Contains xs x → f x ≡ true → list_any f xs ≡ true
    found_in f xs x has e = list_any_at f xs has.0 x has.1 (ap f has.2 ∙ e)

pub differ_at : (f g : Bool) → not (same_bit f g) ≡ true → g ≡ f → ⊥
differ_at f g e same = clash (same_bit f g) (ap (same_bit f) same ∙ same_self f) (not_true (same_bit f g) e)

-- a latch that may not leave its pairs is in them
stays_in : (may inside : Bool → Bool) → ((may false && not (inside false)) || (may true && not (inside true))) ≡ false → (shown : Bool) → may shown ≡ true → inside shown ≡ true
stays_in may inside none shown e = by_shown shown e
  where
    inside_of : (m i : Bool) → (m && not i) ≡ false → m ≡ true → i ≡ true
    inside_of true true n k = refl
    inside_of true false n k = absurd (cc)
    inside_of false i n k = absurd (cc)

    by_shown : (b : Bool) → may b ≡ true → inside b ≡ true
    by_shown false k = inside_of (may false) (inside false) (or_false (may false && not (inside false)) (may true && not (inside true)) none).0 k
    by_shown true k = inside_of (may true) (inside true) (or_false (may false && not (inside false)) (may true && not (inside true)) none).1 k

-- from the cycle on in which an input is held it has its later value
later_value : (h : Held) (t : ℕ) → h.from ≤ t → held_at h t ≡ Some h.value
later_value h t le = ap (λ b. if b then h.before else Some h.value) (le-ltb t h.from le)

module _ (claim : Claim) (order : List NetId) (stands : Stands claim order) (faults : List Fault) (within : LieWithin claim.circuit faults claim.region)
    (run : Run) (admitted : IsAdmitted claim run) where
  abbrev gold : ℕ → ℕ → Bool
  gold t net = trace claim.circuit [] run.vectors t net

  abbrev fault : ℕ → ℕ → Bool
  fault t net = trace claim.circuit faults run.vectors t net

  -- each latch is at the start of a cycle as it may start a window
  abbrev AreAlike : ℕ → Type 0
  AreAlike t = (l : ℕ) (latch : Latch) → slice_get claim.circuit.latches l ≡ Some latch → claim.apart latch (gold t latch.to.0) (fault t latch.to.0) ≡ true

  -- no alarm is raised up to a cycle
  abbrev IsQuiet : ℕ → Type 0
  IsQuiet last = (u : ℕ) → claim.from ≤ u → u ≤ last → is_raised claim.circuit claim.points faults run u ≡ false

  -- a window that begins in such a cycle
  window_so : (t : ℕ) → claim.from ≤ t → t + claim.window + claim.ahead < cycles_of run → IsQuiet (t + claim.window) → AreAlike t
      → AreSo (window_of claim) (λ frame net. gold (t + frame) net) (λ frame net. fault (t + frame) net)
  window_so t from ends quiet alike =
      are_so (window_of claim) order stands.netlist stands.ordered run.vectors faults within t
      (λ frame le i d lt value e.
      admitted.held (t + frame) (omega (arith, ends, le)) i d lt value
      (later_value (get_or claim.held i d) (t + frame) (omega (arith, stands.settled i d lt, from))
      ∙ sym (later_value (get_or claim.held i d) (claim.from + frame) (omega (arith, stands.settled i d lt))) ∙ e))
      (λ frame le i d lt.
      let none : gold (t + frame) (get_or claim.points.alarm i d).0 ≡ false = admitted.quiet (t + frame) (omega (arith, from)) (omega (arith, ends, le)) i d lt in (
        none,
        λ until. silent_of (fault (t + frame) (get_or claim.points.alarm i d).0) (gold (t + frame) (get_or claim.points.alarm i d).0)
            (none_passes (λ net. with_faults claim.circuit faults run (t + frame) net && not (with_faults claim.circuit [] run (t + frame) net)) claim.points.alarm
            (quiet (t + frame) (omega (arith, from)) (omega (arith, until))) (get_or claim.points.alarm i d) (Contains-get_or claim.points.alarm i d lt))
            none,
      ))
      (λ l latch at. ap (λ u. claim.apart latch (gold u latch.to.0) (fault u latch.to.0)) (none_more t) ∙ alike l latch at)
    where
      none_more : (n : ℕ) → n + 0 ≡ n
      none_more n = omega arith

  goes : (t : ℕ) → claim.from ≤ t → t + claim.window + claim.ahead < cycles_of run → IsQuiet (t + claim.window) → AreAlike t
      → GoesOn claim (λ frame net. gold (t + frame) net) (λ frame net. fault (t + frame) net)
  goes t from ends quiet alike = stands.proved.goes_on _ _ (window_so t from ends quiet alike)

  at_once : (n : ℕ) → n + 0 ≡ n
  at_once n = omega arith

  -- the next cycle begins alike
  next_alike : (t : ℕ) → GoesOn claim (λ frame net. gold (t + frame) net) (λ frame net. fault (t + frame) net) → AreAlike (suc t)
  next_alike t goes l latch at =
      let over = latches claim.circuit order stands.netlist stands.ordered run.vectors claim.region faults within t l latch at in
      let none : leaves claim latch (gold t latch.from.0) (fault t latch.from.0) ≡ false =
      ap (λ u. leaves claim latch (gold u latch.from.0) (fault u latch.from.0)) (sym (at_once t)) ∙ goes.again l latch at in
      ap (λ b. claim.apart latch b (fault (suc t) latch.to.0)) over.0
      ∙ stays_in (may_show (claim.region latch.to.0) (fault t latch.from.0)) (claim.apart latch (gold t latch.from.0)) none (fault (suc t) latch.to.0) over.1

  -- the lead-in
  lead_so : AreSo (lead_in claim) (λ frame net. gold (0 + frame) net) (λ frame net. fault (0 + frame) net)
  lead_so =
      are_so (lead_in claim) order stands.netlist stands.ordered run.vectors faults within 0
      (λ frame le i d lt. admitted.held (0 + frame) (omega (arith, le, admitted.lasts)) i d lt)
      (λ frame le i d lt. absurd (omega arith))
      (λ l latch at.
      let first = starts claim.circuit order stands.netlist stands.ordered run.vectors claim.region faults within l latch at in
      both_true (same_bit (gold 0 latch.to.0) latch.start) (may_show (claim.region latch.to.0) latch.start (fault 0 latch.to.0))
      (ap (λ b. same_bit b latch.start) first.0 ∙ same_self latch.start) first.1)

  none_before : (n : ℕ) → 0 + n ≡ n
  none_before n = omega arith

  begins : AreAlike claim.from
  begins l latch at =
      ap (λ u. claim.apart latch (gold u latch.to.0) (fault u latch.to.0)) (sym (none_before claim.from)) ∙ stands.proved.begins _ _ lead_so l latch at

  -- all cycles up to the last window begin alike
  alike : (n : ℕ) → claim.from + n + claim.window + claim.ahead < cycles_of run → IsQuiet (claim.from + n + claim.window) → AreAlike (claim.from + n)
  alike zero ends quiet = subst (λ (u : ℕ). AreAlike u) (sym (at_once claim.from)) begins
  alike (suc n) ends quiet =
      let calm : IsQuiet (claim.from + n + claim.window) = λ u from late. quiet u from (omega (arith, late)) in
      let before : AreAlike (claim.from + n) = alike n (omega (arith, ends)) calm in
      let next : suc (claim.from + n) ≡ claim.from + suc n = omega arith in
      subst (λ (u : ℕ). AreAlike u) next (next_alike (claim.from + n) (goes (claim.from + n) (omega arith) (omega (arith, ends)) calm before))

  -- without an alarm nothing differs
  same_at : (t : ℕ) → claim.from ≤ t → t + claim.window + claim.ahead < cycles_of run → IsQuiet (t + claim.window) → (net : NetId) → Contains (observed claim.points) net
      → gold t net.0 ≡ fault t net.0
  same_at t from ends quiet net has =
      let n : ℕ = t - claim.from in
      let here : claim.from + n ≡ t = omega (arith, from) in
      let before : AreAlike t = subst (λ (u : ℕ). AreAlike u) here (alike n (omega (arith, here, ends)) (λ u after late. quiet u after (omega (arith, here, late)))) in
      let same : gold (t + 0) net.0 ≡ fault (t + 0) net.0 =
      All-contains (λ (m : NetId). gold (t + 0) m.0 ≡ fault (t + 0) m.0) (observed claim.points) net (goes t from ends quiet before).same has in
      ap (λ u. gold u net.0) (sym (at_once t)) ∙ same ∙ ap (λ u. fault u net.0) (at_once t)

  -- a net of the goal that differs
  one_differs : (goal : Goal) → Contains claim.points.goals goal → (t : ℕ) → differs claim.circuit goal faults run t ≡ true
      → (net : NetId) × Contains (observed claim.points) net × (gold t net.0 ≡ fault t net.0 → ⊥)
  one_differs goal of t e =
      let found = any_says (λ net. not (same_bit (with_faults claim.circuit faults run t net) (golden claim.circuit run t net))) goal.observe e in (
        found.0,
        in_some (λ (g : Goal). g.observe) claim.points.goals goal found.0 of found.1,
        λ same. differ_at (fault t found.0.0) (gold t found.0.0) found.2 same,
      )

  abbrev raised_by : ℕ → Bool
  raised_by u = nat_le claim.from u && is_raised claim.circuit claim.points faults run u

  pub comes : (goal : Goal) → Contains claim.points.goals goal → (t : ℕ) → claim.from ≤ t → t + claim.window + claim.ahead < cycles_of run
      → differs claim.circuit goal faults run t ≡ true → AlarmComes claim faults run t
  comes goal of t from ends e = elim (cases_Bool (some_below (suc (t + claim.window)) raised_by)) [
    | inl some ↦ (
        let found = some_below-true (suc (t + claim.window)) raised_by some in
        let parts = and_both (nat_le claim.from found.0) (is_raised claim.circuit claim.points faults run found.0) found.2 in
        record { at = found.0; late = omega (arith, found.1); early = leb-true claim.from found.0 parts.0; raised = parts.1 })
    | inr none ↦ (
        let quiet : IsQuiet (t + claim.window) = λ u after late.
        false_of (is_raised claim.circuit claim.points faults run u) (λ raised.
        clash (raised_by u) (both_true (nat_le claim.from u) (is_raised claim.circuit claim.points faults run u) (le-leb claim.from u after) raised)
        (some_below-false (suc (t + claim.window)) raised_by none u (omega (arith, late)))) in
        let one = one_differs goal of t e in
        absurd (one.2 (same_at t from ends quiet one.0 one.1)))
  ]

  -- where the lead-in has no difference there is none before the claim's first cycle
  pub not_early : IsNeverEarly claim → (goal : Goal) → Contains claim.points.goals goal → (t : ℕ) → t < claim.from → differs claim.circuit goal faults run t ≡ true → ⊥
  not_early never goal of t lt e =
      let one = one_differs goal of t e in
      let same : gold (0 + t) one.0.0 ≡ fault (0 + t) one.0.0 =
      All-contains (λ (m : NetId). gold (0 + t) m.0 ≡ fault (0 + t) m.0) (observed claim.points) one.0 (never _ _ lead_so t lt) one.1 in
      one.2 (ap (λ u. gold u one.0.0) (sym (none_before t)) ∙ same ∙ ap (λ u. fault u one.0.0) (none_before t))

pub alarms : AlarmsCome
alarms claim order stands faults within run admitted goal of t from ends e = comes claim order stands faults within run admitted goal of t from ends e
