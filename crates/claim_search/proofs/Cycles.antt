-- The cycles before a claim that is asked.
use Rattle.std.proofs.Common.{◌≡◌, ℕ, suc, ◌+◌, ◌≤◌, Bool, true, false, ◌||◌, List, Some, ap, sym, subst, ◌∙◌, arith}
use Rattle.std.specs.Prelude.{All, Contains, slice_index_or, if◌then◌else◌}
use Rattle.std.specs.List.{slice_get}
use Rattle.circuit.specs.Circuit.{Circuit}
use Rattle.circuit.specs.Order.{IsOrder}
use Rattle.circuit.specs.Sound.{IsNetlist}
use Rattle.circuit.specs.declared.parts.Latch.{Latch}
use Rattle.circuit.specs.declared.parts.NetId.{NetId}
use Rattle.coverage_claim.specs.Claim.{Claim, unequal}
use Rattle.coverage_claim.specs.Rules.{Sets, everything, this_pair}
use Rattle.coverage_claim.specs.Stretch.{AreSo, Pairs, Values}
use Rattle.coverage_claim.specs.declared.parts.Held.{Held}
use Rattle.coverage_claim.specs.declared.parts.Site.{Site}
use Rattle.coverage_claim.specs.declared.parts.Site.TheVariants.{Intact}
use Rattle.pair_sets.specs.Choice.{set_at}
use Rattle.pair_sets.specs.Pairs.{has, shown}
use Rattle.pair_sets.specs.declared.pairs.PairSet.{PairSet}
use Rattle.claim_search.specs.LeadIn.{HasNoRuns, IsCycle, IsKnownTo, IsLedIn, lead_cycle}
use Rattle.claim_search.specs.Question.{IsAsked, IsSearched, MayBeAsked}
use Rattle.claim_search.specs.declared.lead.LeadIn.TheVariants.{Agrees, MayDiffer}
use Rattle.claim_search.specs.declared.question.Question.{Question}
use Rattle.claim_search.specs.declared.question.Searched.{Searched}
use Rattle.claim_search.proofs.Leading.{leaves_starts, led_first, led_on, may_be_early, more, never_early, one_cycle, seen_on}
use Rattle.claim_search.proofs.Taking.{latch_site}

-- what each latch shows of some pairs
abbrev AreShown : List Latch → List Site → List PairSet → (Latch → Pairs) → Type 0
AreShown latches sites starts pairs = (l : ℕ) (latch : Latch) → slice_get latches l ≡ Some latch → (a b : Bool)
    → has (set_at starts l) a b ≡ shown (slice_index_or sites latch.to.0 Intact) (pairs latch) a b

-- none of some nets differs
abbrev AreSame : List NetId → Sets → Type 0
AreSame nets sets = All (λ net. (a b : Bool) → unequal a b ≡ true → sets 0 net.0 a b ≡ false) nets

module _ (searched : Searched) (q : Question) (is : IsSearched searched) (may : MayBeAsked searched.netlist.now q) (claim : Claim) (asked : IsAsked searched.netlist.now q claim) where
  same_circuit : searched.watchers.now.circuit ≡ claim.circuit
  same_circuit = is.netlist ∙ sym asked.posed.circuit

  sound : IsNetlist claim.circuit
  sound = subst IsNetlist same_circuit is.sound

  ordered : IsOrder claim.circuit searched.watchers.now.order
  ordered = subst (λ (c : Circuit). IsOrder c searched.watchers.now.order) same_circuit is.order

  held : All (λ (h : Held). Contains claim.circuit.inputs h.net) claim.held
  held = subst (λ (all : List Held). All (λ (h : Held). Contains claim.circuit.inputs h.net) all) (sym asked.posed.held)
      (subst (λ (c : Circuit). All (λ (h : Held). Contains c.inputs h.net) q.posed.held.now) (sym asked.posed.circuit) may.posed.held)

  shown_in : (latches : List Latch) → latches ≡ searched.netlist.now.latches → (starts : List PairSet) (pairs : Latch → Pairs) → AreShown latches q.sites.now starts pairs
      → (l : ℕ) (latch : Latch) → slice_get claim.circuit.latches l ≡ Some latch → (a b : Bool) → has (set_at starts l) a b ≡ shown (claim.region latch.to.0) (pairs latch) a b
  shown_in latches own starts pairs are l latch at a b =
      let here : slice_get searched.netlist.now.latches l ≡ Some latch = subst (λ (c : Circuit). slice_get c.latches l ≡ Some latch) asked.posed.circuit at in
      let there : slice_get latches l ≡ Some latch = subst (λ (all : List Latch). slice_get all l ≡ Some latch) (sym own) here in
      are l latch there a b
      ∙ ap (λ (site : Site). shown site (pairs latch) a b) (sym (latch_site searched.netlist.now q claim (subst IsNetlist is.netlist is.sound) may asked l latch here))

  -- before the first one
  pub first_known : (latches : List Latch) → latches ≡ searched.netlist.now.latches → (starts : List PairSet) → AreShown latches q.sites.now starts (λ latch. this_pair latch.start latch.start)
      → IsKnownTo claim 0 starts false
  first_known latches own starts are =
      (everything, led_first claim starts (shown_in latches own starts (λ latch. this_pair latch.start latch.start) are), λ frame lt. absurd (omega (arith, lt)))

  -- where no runs have a cycle
  pub none_known : (cycle : ℕ) → cycle ≤ q.posed.from → (starts : List PairSet) (differs : Bool) → IsKnownTo claim cycle starts differs
      → ((golden faulty : Values) → AreSo (lead_cycle claim cycle starts) golden faulty → ⊥) → HasNoRuns claim
  none_known cycle le starts differs known none golden faulty so =
      none (λ _. golden cycle) (λ _. faulty cycle) (one_cycle claim sound cycle (omega (arith, le, asked.posed.from)) starts known.0 known.1 golden faulty so)

  module _ (cycle : ℕ) (le : cycle ≤ q.posed.from) (starts : List PairSet) (differs : Bool) (known : IsKnownTo claim cycle starts differs) (last : Sets) (one : IsCycle claim cycle starts last) where
    within : cycle ≤ claim.from
    within = omega (arith, le, asked.posed.from)

    -- before the next one
    pub next_known : (latches : List Latch) → latches ≡ searched.netlist.now.latches → (next : List PairSet) → AreShown latches q.sites.now next (λ latch. last 0 latch.from.0)
        → (found : Bool) → (found ≡ false → AreSame q.posed.observed.now last) → (found ≡ true → AreSame q.posed.observed.now last → ⊥) → IsKnownTo claim (cycle + 1) next (differs || found)
    next_known latches own next are found same other =
        let later : suc cycle ≡ cycle + 1 = omega arith in
        let sets = more claim searched.watchers.now.order sound ordered held cycle within starts known.0 last known.1 one in
        subst (λ n. IsKnownTo claim n next (differs || found)) later (
          sets,
          led_on claim searched.watchers.now.order sound ordered held cycle within starts known.0 last known.1 one next (shown_in latches own next (λ latch. last 0 latch.from.0) are),
          seen_on claim searched.watchers.now.order sound ordered held cycle within starts known.0 last known.1 one differs found known.2
              (λ e. subst (λ nets. AreSame nets last) (sym asked.posed.observed) (same e)) (λ e all. other e (subst (λ nets. AreSame nets last) asked.posed.observed all)),
        )

  -- and at the end
  pub end_known : (starts : List PairSet) (differs : Bool) → IsKnownTo claim q.posed.from starts differs → (last : Sets) → IsCycle claim q.posed.from starts last
      → IsLedIn claim starts (if differs then MayDiffer else Agrees)
  end_known starts true known last one =
      let le : q.posed.from ≤ claim.from = omega (arith, asked.posed.from) in (
        leaves_starts claim searched.watchers.now.order sound ordered held q.posed.from le starts known.0 last known.1 one asked.posed.from,
        may_be_early claim searched.watchers.now.order sound ordered held q.posed.from le starts known.0 last known.1 one asked.posed.from known.2,
      )
  end_known starts false known last one =
      let le : q.posed.from ≤ claim.from = omega (arith, asked.posed.from) in (
        leaves_starts claim searched.watchers.now.order sound ordered held q.posed.from le starts known.0 last known.1 one asked.posed.from,
        never_early claim searched.watchers.now.order sound ordered held q.posed.from le starts known.0 last known.1 one asked.posed.from known.2,
      )
