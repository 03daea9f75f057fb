-- The cycles before a claim, one after the other: what is known of all of them.
use Rattle.std.proofs.Common.{◌≡◌, ◌≢◌, ◌⊎◌, inl, inr, ℕ, zero, suc, ◌+◌, ◌<◌, ◌≤◌, Bool, true, false, ◌&&◌, ◌||◌, List, [], Some, length, get_or, refl, ap, ap₂, sym, subst, ◌∙◌, arith}
use Rattle.std.specs.Prelude.{◌==◌, All, Contains, if◌then◌else◌}
use Rattle.std.specs.List.{slice_get}
use Rattle.std.proofs.lemmas.Bool.{cases_eq, eq-eqb, ne_eqb}
use Rattle.fm_base.specs.Lists.{same_bit}
use Rattle.fm_base.proofs.Tests.{and_both, clash}
use Rattle.alarm_points.specs.PointsFile.{observed}
use Rattle.circuit.specs.Circuit.{Circuit}
use Rattle.circuit.specs.Order.{IsOrder}
use Rattle.circuit.specs.Sound.{IsNet, IsNetlist}
use Rattle.circuit.specs.Value.{driver_at, table_at}
use Rattle.circuit.specs.declared.parts.Driver.TheVariants.{Table as FromTable}
use Rattle.circuit.specs.declared.parts.Latch.{Latch}
use Rattle.circuit.specs.declared.parts.NetId.{NetId}
use Rattle.coverage_claim.specs.Claim.{Claim, IsNeverEarly, initial, lead_in, unequal}
use Rattle.coverage_claim.specs.Largest.{AreSettled, most_inputs}
use Rattle.coverage_claim.specs.Region.{Region, may_show}
use Rattle.coverage_claim.specs.Rules.{Sets, everything, this_pair}
use Rattle.coverage_claim.specs.Stretch.{AreSo, Stretch, Values, held_at}
use Rattle.coverage_claim.specs.declared.parts.Site.{Site}
use Rattle.coverage_claim.specs.declared.parts.Site.TheVariants.{Intact, Free, Only}
use Rattle.pair_sets.specs.Choice.{IsLeft, set_at}
use Rattle.pair_sets.specs.Pairs.{has, shown}
use Rattle.pair_sets.specs.Tables.{IsTruth}
use Rattle.pair_sets.specs.declared.pairs.PairSet.{PairSet}
use Rattle.region_search.proofs.Latches.{shown_by, shows}
use Rattle.region_search.proofs.Settling.{settles}
use Rattle.region_search.proofs.Standing.{equal_of}
use Rattle.region_search.specs.Begin.{BeginsSo}
use Rattle.region_search.specs.declared.begin.Beginning.{Beginning}
use Rattle.claim_search.specs.Question.{IsAsked}
use Rattle.claim_search.specs.declared.question.Question.{Question}
use Rattle.region_search.specs.Settled.{IsLatchSettled, IsTableSettled, PassesAlone}
use Rattle.claim_search.specs.LeadIn.{AreNext, HasSeen, IsCycle, IsLedTo, IsNeverEarlySimply, LeavesStarts, lead_cycle}
use Rattle.claim_search.proofs.Runs.{all_start}
use Rattle.claim_search.proofs.Starting.{starts_are}

-- ---- the same sets in other words

pub table_moved : (s t : Stretch) (q r : Sets) (i frame k : ℕ) (own : NetId) → s.circuit ≡ t.circuit → s.region ≡ t.region → frame ≤ t.last
    → ((net : ℕ) (a b : Bool) → r frame net a b ≡ q i net a b) → IsTableSettled s q i k own → IsTableSettled t r frame k own
table_moved s t q r i frame k own circuit region le same (inr wide) = inr (subst (λ (c : Circuit). most_inputs < length (table_at c.tables k).ins) circuit wide)
table_moved s t q r i frame k own circuit region le same (inl takes) = inl (record {
  reads = takes.reads;
  truth = takes.truth;
  left = takes.left;
  own_left = takes.own_left;
  is_left = record {
    sets = takes.is_left.sets;
    own_set = takes.is_left.own_set;
    within = le;
    is_truth = subst (λ (c : Circuit). IsTruth c k own takes.reads takes.truth) circuit takes.is_left.is_truth;
    are = record { count = takes.is_left.are.count; each = λ j lt a b. takes.is_left.are.each j lt a b ∙ sym (same _ a b) };
    own_is = λ a b. takes.is_left.own_is a b ∙ sym (same own.0 a b);
    is_left = subst (λ (each : Region). IsLeft takes.truth (each own.0) takes.is_left.sets takes.is_left.own_set takes.left takes.own_left) region takes.is_left.is_left;
  };
  same = record { count = takes.same.count; each = λ j lt a b. takes.same.each j lt a b ∙ sym (same _ a b) };
  own_same = λ a b. takes.own_same a b ∙ sym (same own.0 a b);
})

latch_moved : (s : Stretch) (q r : Sets) (frame : ℕ) (latch : Latch) → ((net : ℕ) (a b : Bool) → r frame net a b ≡ q frame net a b)
    → ((net : ℕ) (a b : Bool) → r (suc frame) net a b ≡ q (suc frame) net a b) → IsLatchSettled s q frame latch → IsLatchSettled s r frame latch
latch_moved s q r frame latch here there settled = record {
  read = λ a b e. (
      let found = settled.read a b (sym (here latch.from.0 a b) ∙ e) in
      (found.0, found.1, record { read = here _ _ _ ∙ found.2.read; own = there _ _ _ ∙ found.2.own; golden_is = found.2.golden_is; faulty_may = found.2.faulty_may }));
  next = λ x y e. (
      let found = settled.next x y (sym (there latch.to.0 x y) ∙ e) in
      (found.0, found.1, record { read = here _ _ _ ∙ found.2.read; own = there _ _ _ ∙ found.2.own; golden_is = found.2.golden_is; faulty_may = found.2.faulty_may }));
}

-- whatever drives it, a net shows something
some_shown : (site : Site) (b : Bool) → (y : Bool) × (may_show site b y ≡ true)
some_shown Intact true = (true, refl)
some_shown Intact false = (false, refl)
some_shown Free b = (b, refl)
some_shown (Only true) b = (true, refl)
some_shown (Only false) b = (false, refl)

cases_zero : (n : ℕ) → (n ≡ 0) ⊎ ((m : ℕ) × (suc m ≡ n))
cases_zero zero = inl refl
cases_zero (suc m) = inr (m, refl)

-- ---- one cycle

-- as a search begins with it
pub begins_cycle : (c : Circuit) (q : Question) (claim : Claim) (cycle : ℕ) (starts : List PairSet) (b : Beginning) (many : ℕ) → IsNetlist c → IsAsked c q claim → many ≡ 1
    → b.sites.now ≡ q.sites.now → b.held.now ≡ q.posed.held.now → b.first ≡ cycle → b.silent.now ≡ [] → b.until ≡ 0 → b.starts.now ≡ starts
    → BeginsSo c (lead_cycle claim cycle starts) many b
begins_cycle c q claim cycle starts b many sound asked one sites held first silent until own = record {
  circuit = asked.posed.circuit;
  frames = one;
  sites = λ net site at. asked.sites net site (subst (λ all. slice_get all net ≡ Some site) sites at);
  held = asked.posed.held ∙ sym held;
  first = sym first;
  silent = sym silent;
  until = sym until;
  start = λ l latch at x y. (
      let there : slice_get claim.circuit.latches l ≡ Some latch = subst (λ (each : Circuit). slice_get each.latches l ≡ Some latch) (sym asked.posed.circuit) at in
      starts_are claim.circuit starts l latch (subst IsNetlist (sym asked.posed.circuit) sound) there x y ∙ ap (λ (all : List PairSet). has (set_at all l) x y) (sym own));
}

module _ (claim : Claim) (sound : IsNetlist claim.circuit) (cycle : ℕ) (within : cycle ≤ claim.from) (starts : List PairSet) (q : Sets) (led : IsLedTo claim cycle starts q) where
  -- a cycle of two runs, by itself
  pub one_cycle : (golden faulty : Values) → AreSo (lead_in claim) golden faulty → AreSo (lead_cycle claim cycle starts) (λ _. golden cycle) (λ _. faulty cycle)
  one_cycle golden faulty so = record {
    tables = λ frame k net le. so.tables cycle k net within;
    latches = λ frame l latch lt _. absurd (omega (arith, lt));
    inputs = λ frame k net le. so.inputs cycle k net within;
    held = λ frame le i d lt value given. (
        let now : cycle + frame ≡ 0 + cycle = omega (arith, le) in
        so.held cycle within i d lt value (subst (λ (n : ℕ). held_at (get_or claim.held i d) n ≡ Some value) now given));
    silent = λ frame le i d lt. absurd (omega (arith, lt));
    start = λ l latch at. starts_are claim.circuit starts l latch sound at _ _ ∙ led.starts_hold within golden faulty so l latch at;
  }

-- ---- one cycle more

module _ (claim : Claim) (order : List NetId) (sound : IsNetlist claim.circuit) (ordered : IsOrder claim.circuit order)
    (held : All (λ h. Contains claim.circuit.inputs h.net) claim.held) (cycle : ℕ) (within : cycle ≤ claim.from) (starts : List PairSet) (q last : Sets)
    (led : IsLedTo claim cycle starts q) (is : IsCycle claim cycle starts last) where
  abbrev pub more : Sets
  more frame net a b = if frame == cycle then last 0 net a b else q frame net a b

  here : (frame net : ℕ) (a b : Bool) → frame ≡ cycle → more frame net a b ≡ last 0 net a b
  here frame net a b same = rw (eq-eqb frame cycle same) refl

  there : (frame net : ℕ) (a b : Bool) → frame ≢ cycle → more frame net a b ≡ q frame net a b
  there frame net a b apart = rw (ne_eqb frame cycle apart) refl

  starts_show : (l : ℕ) (latch : Latch) → slice_get claim.circuit.latches l ≡ Some latch → (a b : Bool) → has (set_at starts l) a b ≡ true
      → (v : Bool) × (may_show (claim.region latch.to.0) v b ≡ true)
  starts_show l latch at a b e = elim (cases_zero cycle) as (λ _. (v : Bool) × (may_show (claim.region latch.to.0) v b ≡ true)) [
    | inl first ↦ (
        let parts = and_both (same_bit a latch.start) (may_show (claim.region latch.to.0) latch.start b) (sym (led.starts_first first l latch at a b) ∙ e) in
        (latch.start, parts.1))
    | inr later ↦ (
        let found = shown_by (claim.region latch.to.0) (q later.0 latch.from.0) a b (sym (led.starts_from later.0 later.1 l latch at a b) ∙ e) in
        (found.0, found.2))
  ]

  -- no start is lost
  pub not_lost : (l : ℕ) (latch : Latch) → slice_get claim.circuit.latches l ≡ Some latch → (x y : Bool) → has (set_at starts l) x y ≡ true → last 0 latch.to.0 x y ≡ true
  not_lost l latch at x y e = all_start claim order sound ordered held cycle starts last is starts_show l latch at x y e

  pub more_some : (frame net : ℕ) → frame ≤ cycle → (a : Bool) × (b : Bool) × (more frame net a b ≡ true)
  more_some frame net le = elim (cases_eq frame cycle) as (λ _. (a : Bool) × (b : Bool) × (more frame net a b ≡ true)) [
    | inl same ↦ (let found = is.some 0 net (omega arith) in (found.0, found.1, here frame net found.0 found.1 same ∙ found.2))
    | inr apart ↦ (let found = led.some frame net (omega (arith, le, apart)) in (found.0, found.1, there frame net found.0 found.1 apart ∙ found.2))
  ]

  pub more_alone : (frame net : ℕ) (a b : Bool) → frame ≤ cycle → more frame net a b ≡ true → PassesAlone (lead_in claim) frame net a b
  more_alone frame net a b le e = elim (cases_eq frame cycle) as (λ _. PassesAlone (lead_in claim) frame net a b) [
    | inr apart ↦ led.alone frame net a b (omega (arith, le, apart)) (sym (there frame net a b apart) ∙ e)
    | inl same ↦ (
        let passes : PassesAlone (lead_cycle claim cycle starts) 0 net a b = is.nothing.alone 0 net a b (omega arith) (sym (here frame net a b same) ∙ e) in
        let now : cycle + 0 ≡ 0 + frame = omega (arith, same) in
        record {
          input = passes.input;
          held = λ i d lt own value given. passes.held i d lt own value (subst (λ (n : ℕ). held_at (get_or claim.held i d) n ≡ Some value) (sym now) given);
          silent = λ i d lt. absurd (omega (arith, lt));
          start = λ l latch begins at own.
              sym (led.starts_first (sym same ∙ begins) l latch at a b) ∙ sym (starts_are claim.circuit starts l latch sound at a b) ∙ passes.start l latch refl at own;
        })
  ]

  pub more_tables : (frame k : ℕ) (own : NetId) → frame ≤ cycle → IsNet claim.circuit own → driver_at claim.circuit own.0 ≡ FromTable k → IsTableSettled (lead_in claim) more frame k own
  more_tables frame k own le net driver = elim (cases_eq frame cycle) as (λ _. IsTableSettled (lead_in claim) more frame k own) [
    | inl same ↦ table_moved (lead_cycle claim cycle starts) (lead_in claim) last more 0 frame k own refl refl (omega (arith, le, within)) (λ n a b. here frame n a b same)
        (is.nothing.tables 0 k own (omega arith) net driver)
    | inr apart ↦ table_moved (lead_in claim) (lead_in claim) q more frame frame k own refl refl (omega (arith, le, within)) (λ n a b. there frame n a b apart)
        (led.tables frame k own (omega (arith, le, apart)) net driver)
  ]

  -- between the last two cycles
  latch_between : (before l : ℕ) (latch : Latch) → suc before ≡ cycle → slice_get claim.circuit.latches l ≡ Some latch → IsLatchSettled (lead_in claim) more before latch
  latch_between before l latch next at = record {
    read = λ a b e. (
        let had : q before latch.from.0 a b ≡ true = sym (there before latch.from.0 a b apart) ∙ e in
        let goes = some_shown (claim.region latch.to.0) b in
        let starts_so : has (set_at starts l) a goes.0 ≡ true = led.starts_from before next l latch at a goes.0 ∙ shows (claim.region latch.to.0) (q before latch.from.0) a b goes.0 had goes.1 in
        (a, goes.0, record { read = e; own = here (suc before) latch.to.0 a goes.0 next ∙ not_lost l latch at a goes.0 starts_so; golden_is = refl; faulty_may = goes.1 }));
    next = λ x y e. (
        let had : last 0 latch.to.0 x y ≡ true = sym (here (suc before) latch.to.0 x y next) ∙ e in
        let starts_so : has (set_at starts l) x y ≡ true =
        sym (starts_are claim.circuit starts l latch sound at x y) ∙ (is.nothing.alone 0 latch.to.0 x y (omega arith) had).start l latch refl at refl in
        let comes = shown_by (claim.region latch.to.0) (q before latch.from.0) x y (sym (led.starts_from before next l latch at x y) ∙ starts_so) in
        (x, comes.0, record { read = there before latch.from.0 x comes.0 apart ∙ comes.1; own = e; golden_is = refl; faulty_may = comes.2 }));
  }
    where
      apart : before ≢ cycle
      apart same = absurd (omega (arith, same, next))

  pub more_latches : (frame l : ℕ) (latch : Latch) → frame < cycle → slice_get claim.circuit.latches l ≡ Some latch → IsLatchSettled (lead_in claim) more frame latch
  more_latches frame l latch lt at = elim (cases_eq (suc frame) cycle) as (λ _. IsLatchSettled (lead_in claim) more frame latch) [
    | inl next ↦ latch_between frame l latch next at
    | inr apart ↦ latch_moved (lead_in claim) q more frame latch (λ n a b. there frame n a b (λ same. absurd (omega (arith, same, lt)))) (λ n a b. there (suc frame) n a b apart)
        (led.latches frame l latch (omega (arith, lt, apart)) at)
  ]

  last_holds : (golden faulty : Values) → AreSo (lead_in claim) golden faulty → (net : ℕ) → last 0 net (golden cycle net) (faulty cycle net) ≡ true
  last_holds golden faulty so net = is.holds (λ _. golden cycle) (λ _. faulty cycle) (one_cycle claim sound cycle within starts q led golden faulty so) (λ i n le. refl) 0 net (omega arith)

  pub more_holds : (golden faulty : Values) → AreSo (lead_in claim) golden faulty → (frame net : ℕ) → frame ≤ cycle → more frame net (golden frame net) (faulty frame net) ≡ true
  more_holds golden faulty so frame net le = elim (cases_eq frame cycle) as (λ _. more frame net (golden frame net) (faulty frame net) ≡ true) [
    | inl same ↦ here frame net (golden frame net) (faulty frame net) same
        ∙ ap (λ (i : ℕ). last 0 net (golden i net) (faulty i net)) same ∙ last_holds golden faulty so net
    | inr apart ↦ there frame net (golden frame net) (faulty frame net) apart ∙ led.holds golden faulty so frame net (omega (arith, le, apart))
  ]

  -- ONE CYCLE MORE, and what latches start the next one with
  pub led_on : (next : List PairSet) → AreNext claim last next → IsLedTo claim (suc cycle) next more
  led_on next are = record {
    some = λ frame net lt. more_some frame net (omega (arith, lt));
    alone = λ frame net a b lt. more_alone frame net a b (omega (arith, lt));
    tables = λ frame k own lt. more_tables frame k own (omega (arith, lt));
    latches = λ frame l latch lt. more_latches frame l latch (omega (arith, lt));
    holds = λ golden faulty so frame net lt. more_holds golden faulty so frame net (omega (arith, lt));
    starts_hold = λ le golden faulty so l latch at. (
        let over = so.latches cycle l latch (omega (arith, le)) at in
        let site = claim.region latch.to.0 in
        ap (λ v. has (set_at next l) v (faulty (suc cycle) latch.to.0)) over.0
        ∙ are l latch at (golden cycle latch.from.0) (faulty (suc cycle) latch.to.0)
        ∙ shows site (last 0 latch.from.0) (golden cycle latch.from.0) (faulty cycle latch.from.0) (faulty (suc cycle) latch.to.0) (last_holds golden faulty so latch.from.0) over.1);
    starts_from = λ before same l latch at a b. (
        let it : before ≡ cycle = omega (arith, same) in
        let site = claim.region latch.to.0 in
        are l latch at a b
        ∙ ap₂ (λ (x y : Bool). (x && may_show site false b) || (y && may_show site true b)) (sym (here before latch.from.0 a false it)) (sym (here before latch.from.0 a true it)));
    starts_first = λ none. absurd (omega (arith, none));
  }

  -- AND ALL CYCLES, where this was the last: no rule takes any pair away
  pub all_settled : claim.from ≡ cycle → AreSettled (lead_in claim) more
  all_settled end = settles (lead_in claim) more (record {
    alone = λ frame net a b le. more_alone frame net a b (omega (arith, le, end));
    tables = λ frame k own le. more_tables frame k own (omega (arith, le, end));
    latches = λ frame l latch lt. more_latches frame l latch (omega (arith, lt, end));
  }) (λ frame net le. more_some frame net (omega (arith, le, end)))

  -- whether an observation net may differ in one of them
  pub seen_on : (differs may : Bool) → HasSeen claim cycle q differs
      → (may ≡ false → All (λ net. (a b : Bool) → unequal a b ≡ true → last 0 net.0 a b ≡ false) (observed claim.points))
      → (may ≡ true → All (λ net. (a b : Bool) → unequal a b ≡ true → last 0 net.0 a b ≡ false) (observed claim.points) → ⊥)
      → HasSeen claim (suc cycle) more (differs || may)
  seen_on true may seen same other =
      let apart : seen.0 ≢ cycle = λ it. absurd (omega (arith, it, seen.1)) in
      (seen.0, omega (arith, seen.1), λ all. seen.2 (λ i d lt a b e. sym (there seen.0 _ a b apart) ∙ all i d lt a b e))
  seen_on false true seen same other = (cycle, omega arith, λ all. other refl (λ i d lt a b e. sym (here cycle _ a b refl) ∙ all i d lt a b e))
  seen_on false false seen same other = λ frame lt i d less a b e. elim (cases_eq frame cycle) as (λ _. more frame (get_or (observed claim.points) i d).0 a b ≡ false) [
    | inl it ↦ here frame _ a b it ∙ same refl i d less a b e
    | inr apart ↦ there frame _ a b apart ∙ seen frame (omega (arith, lt, apart)) i d less a b e
  ]

  -- THE PAIRS WITH WHICH THE CLAIM'S FIRST CYCLE STARTS
  pub leaves_starts : claim.from ≡ cycle → LeavesStarts claim starts
  leaves_starts end = record {
    holds = λ golden faulty so l latch at.
        ap (λ (i : ℕ). has (set_at starts l) (golden i latch.to.0) (faulty i latch.to.0)) end ∙ led.starts_hold within golden faulty so l latch at;
    simply = λ l latch at a b e gone.
        clash (more claim.from latch.to.0 a b) (here claim.from latch.to.0 a b end ∙ not_lost l latch at a b e) (gone more (all_settled end));
  }

  -- and whether an observation net differs before it
  pub never_early : claim.from ≡ cycle → HasSeen claim cycle q false → IsNeverEarly claim
  never_early end seen golden faulty so frame lt i d less = equal_of _ _ (λ e.
      clash (q frame (get_or (observed claim.points) i d).0 _ _) (led.holds golden faulty so frame _ (omega (arith, lt, end))) (seen frame (omega (arith, lt, end)) i d less _ _ e))

  pub may_be_early : claim.from ≡ cycle → HasSeen claim cycle q true → IsNeverEarlySimply claim → ⊥
  may_be_early end seen simply = seen.2 (λ i d lt a b e.
      sym (there seen.0 _ a b (λ it. absurd (omega (arith, it, seen.1)))) ∙ simply seen.0 (omega (arith, seen.1, end)) i d lt a b e more (all_settled end))

-- ---- the first cycle

shown_first : (site : Site) (start a b : Bool) → shown site (this_pair start start) a b ≡ (same_bit a start && may_show site start b)
shown_first site true true b = refl
shown_first site true false b = refl
shown_first site false true b = refl
shown_first site false false b = or_none (may_show site false b)
  where
    or_none : (x : Bool) → (x || false) ≡ x
    or_none true = refl
    or_none false = refl

pub led_first : (claim : Claim) (starts : List PairSet) → ((l : ℕ) (latch : Latch) → slice_get claim.circuit.latches l ≡ Some latch → (a b : Bool)
    → has (set_at starts l) a b ≡ shown (claim.region latch.to.0) (this_pair latch.start latch.start) a b) → IsLedTo claim 0 starts everything
led_first claim starts first = record {
  some = λ frame net lt. absurd (omega (arith, lt));
  alone = λ frame net a b lt. absurd (omega (arith, lt));
  tables = λ frame k own lt. absurd (omega (arith, lt));
  latches = λ frame l latch lt. absurd (omega (arith, lt));
  holds = λ golden faulty so frame net lt. absurd (omega (arith, lt));
  starts_hold = λ le golden faulty so l latch at. is l latch at _ _ ∙ so.start l latch at;
  starts_from = λ before same. absurd (omega (arith, same));
  starts_first = λ _ l latch at a b. is l latch at a b;
}
  where
    is : (l : ℕ) (latch : Latch) → slice_get claim.circuit.latches l ≡ Some latch → (a b : Bool) → has (set_at starts l) a b ≡ initial claim.region latch a b
    is l latch at a b = first l latch at a b ∙ shown_first (claim.region latch.to.0) latch.start a b
