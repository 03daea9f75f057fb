-- The parts of nets and of faults, one after the other.
use Rattle.std.proofs.Common.{◌≡◌, ℕ, zero, suc, ◌+◌, ◌-◌, ◌*◌, ◌/◌, ◌<◌, ◌≤◌, ◌⊎◌, inl, inr, Bool, true, false, List, [], ◌∷◌, ◌++◌, length, map, take, get_or, refl, ap, ap₂, sym, subst, ◌∙◌, arith, add-one}
use Rattle.std.specs.Prelude.{Option, Some, None, option_map, unwrap_or, is_none, find, All}
use Rattle.std.specs.Option.{option_or}
use Rattle.std.proofs.Math.Nat.{div-lt_iff_lt-mul}
use Rattle.std.proofs.lemmas.List.{take_more, map_push}
use Rattle.std.proofs.lemmas.List.Elements.{All-push, All-get_or}
use Rattle.std.proofs.lemmas.List.Folds.{find-append}
use Rattle.std.proofs.lemmas.Option.{slice_get_within, slice_get-get_or}
use Rattle.circuit.specs.declared.parts.Fault.{Fault}
use Rattle.circuit.specs.declared.parts.Fault.TheVariants.{Stuck}
use Rattle.circuit.specs.Circuit.{Circuit}
use Rattle.circuit.specs.Names.{net_name}
use Rattle.circuit.specs.Sound.{IsNetlist}
use Rattle.fault_list.specs.Faults.{net, faults_of, fault_at, net_of_fault, latch_numbered}
use Rattle.fault_list.specs.Kept.{stuck_count, flip_count}
use Rattle.fault_list.proofs.Rows.{some_wide}
use Rattle.fault_list.proofs.Numbers.{length_faults, stuck_at, flip_at, pulse_at}
use Rattle.fm_base.specs.Lists.{below}
use Rattle.fm_base.proofs.Below.{below_push, map-below}
use Rattle.rate_table.specs.declared.Pattern.{Pattern}
use Rattle.rate_table.specs.Table.{IsRateTable, matches}
use Rattle.rate_table.proofs.Rows.{find_holds}
use Rattle.campaign_plan.specs.Analysis.{Analysis, all_faults, part_count, part_of}
use Rattle.campaign_plan.specs.Steps.{part_of_net, unrated_net}
use Rattle.campaign_plan.specs.Making.{net_part, AreNetParts}
use Rattle.campaign_plan.proofs.Tabled.{length_table, table_at}
use Rattle.campaign_plan.specs.PlanFaults.{missing_rate}

-- ---- the first number that passes

pub find_none : (test : ℕ → Bool) → find test (below 0) ≡ None
unfolding below
find_none test = refl

pub find_more : (test : ℕ → Bool) (n : ℕ) → find test (below n) ≡ None → test n ≡ false → find test (below (n + 1)) ≡ None
find_more test n none here =
    ap (λ k. find test (below k)) (add-one n) ∙ ap (find test) (below_push n) ∙ find-append test (below n) (n ∷ [])
    ∙ ap (λ o. option_or o (find test (n ∷ []))) none ∙ rw here refl

pub find_at : (test : ℕ → Bool) (n k : ℕ) → k < n → find test (below k) ≡ None → test k ≡ true → find test (below n) ≡ Some k
find_at test zero k lt none here = absurd (omega arith)
find_at test (suc n) k lt none here =
    let split : (k < n) ⊎ (k ≡ n) = grind arith in
    ap (find test) (below_push n) ∙ find-append test (below n) (n ∷ []) ∙ elim split as (λ _. option_or (find test (below n)) (find test (n ∷ [])) ≡ Some k) [
      | inl less ↦ ap (λ o. option_or o (find test (n ∷ []))) (find_at test n k less none here)
      | inr e ↦ ap (λ m. option_or (find test (below m)) (find test (m ∷ []))) (sym e) ∙ ap (λ o. option_or o (find test (k ∷ []))) none ∙ rw here refl
    ]

-- ---- the parts of nets

-- the parts of the nets below n, which all have one
pub record HasParts (p : Analysis) (n : ℕ) (parts : List ℕ) : Type 0 where
  pub rated : find (λ net. is_none (part_of_net p net)) (below n) ≡ None
  pub numbers : parts ≡ map (net_part p) (below n)
  pub within : All (λ number. number < part_count p) parts

pub no_parts : (p : Analysis) → HasParts p 0 []
unfolding below
no_parts p = record { rated = refl; numbers = refl; within = λ k d lt. absurd (omega (arith, lt)) }

part_within : (p : Analysis) → IsRateTable p.rates → (n part : ℕ) → part_of_net p n ≡ Some part → part < part_count p
part_within p table n part e = by_cases (find (λ (pattern : Pattern). matches pattern (net_name p.circuit n)) p.rates.patterns) refl e
  where
    by_cases : (o : Option Pattern) → find (λ (pattern : Pattern). matches pattern (net_name p.circuit n)) p.rates.patterns ≡ o
        → option_map (λ (pattern : Pattern). pattern.part) o ≡ Some part → part < part_count p
    by_cases None found e = absurd (cc)
    by_cases (Some pattern) found e =
        let same : pattern.part ≡ part = cc in
        let below = find_holds (λ (pattern : Pattern). matches pattern (net_name p.circuit n)) (λ (pattern : Pattern). pattern.part < length p.rates.parts) p.rates.patterns pattern found table.numbers in
        omega (arith, same, below)

pub parts_push : (p : Analysis) → IsRateTable p.rates → (n : ℕ) (parts : List ℕ) (part : ℕ) → HasParts p n parts → part_of_net p n ≡ Some part
    → HasParts p (n + 1) (parts ++ part ∷ [])
parts_push p table n parts part has e = record {
  rated = find_more (λ net. is_none (part_of_net p net)) n has.rated (ap is_none e);
  numbers = ap₂ (λ ks k. ks ++ k ∷ []) has.numbers (sym (ap (λ o. unwrap_or o 0) e)) ∙ sym (ap (λ k. map (net_part p) (below k)) (add-one n) ∙ map-below (net_part p) n);
  within = All-push (λ number. number < part_count p) parts part has.within (part_within p table n part e);
}

pub all_parts : (p : Analysis) (n : ℕ) (parts : List ℕ) → HasParts p n parts → n ≡ length p.circuit.drivers
    → (missing_rate p ≡ None) × AreNetParts p parts
all_parts p n parts has e = (
  ap (option_map _) (ap (λ k. find (λ net. is_none (part_of_net p net)) (below k)) (sym e) ∙ has.rated),
  record { numbers = has.numbers ∙ ap (λ k. map (net_part p) (below k)) e; within = has.within },
)

pub net_without : (p : Analysis) (n : ℕ) (parts : List ℕ) → HasParts p n parts → n < length p.circuit.drivers → part_of_net p n ≡ None
    → unrated_net p ≡ Some n
net_without p n parts has lt e =
    find_at (λ net. is_none (part_of_net p net)) (length p.circuit.drivers) n lt has.rated (ap is_none e)

-- ---- the nets of faults

pub net_within : (c : Circuit) (flips pulses : List ℕ) → IsNetlist c → (i : ℕ) → i < length (faults_of c flips pulses)
    → net_of_fault c (fault_at (faults_of c flips pulses) i) < length c.drivers
net_within c flips pulses sound i lt =
    let nets = length c.drivers in
    let latches = length c.latches in
    let size = length_faults nets latches flips pulses in
    let cases : (i < stuck_count nets) ⊎ (stuck_count nets ≤ i) = grind arith in
    elim cases as (λ _. net_of_fault c (fault_at (faults_of c flips pulses) i) < nets) [
      | inl stuck ↦ subst (λ f. net_of_fault c f < nets) (sym (stuck_at nets latches flips pulses i stuck)) (omega (arith, stuck))
      | inr rest ↦ later rest
    ]
  where
    flipped : (q : ℕ) → q < length c.latches → (latch_numbered c q).to.0 < length c.drivers
    flipped q less =
        let found = slice_get-get_or c.latches q (record { from = net 0; to = net 0; start = false }) less in
        slice_get_within c.drivers (latch_numbered c q).to.0 _ (sound.latches q (latch_numbered c q) found)

    later : stuck_count (length c.drivers) ≤ i → net_of_fault c (fault_at (faults_of c flips pulses) i) < length c.drivers
    later rest =
        let nets = length c.drivers in
        let latches = length c.latches in
        let size = length_faults nets latches flips pulses in
        let cases : (i - stuck_count nets < flip_count latches flips) ⊎ (flip_count latches flips ≤ i - stuck_count nets) = grind arith in
        elim cases as (λ _. net_of_fault c (fault_at (faults_of c flips pulses) i) < nets) [
          | inl flip ↦ subst (λ f. net_of_fault c f < nets) (sym (flip_at nets latches flips pulses i rest flip))
              (flipped ((i - stuck_count nets) / length flips) ((div-lt_iff_lt-mul (some_wide latches (i - stuck_count nets) (length flips) flip)).1 flip))
          | inr past ↦ subst (λ f. net_of_fault c f < nets) (sym (pulse_at nets latches flips pulses i (omega (arith, rest, past)) (omega (arith, size, lt))))
              (let j = i - stuck_count nets - flip_count latches flips in
              let here : j < nets * length pulses = omega (arith, size, lt, rest, past) in
              (div-lt_iff_lt-mul (some_wide nets j (length pulses) here)).1 here)
        ]

-- ---- the parts of faults

pub faults_push : (p : Analysis) (parts numbers : List ℕ) (i : ℕ) (fault : Fault) (d n : ℕ) → AreNetParts p parts → IsNetlist p.circuit
    → (numbers ≡ map (part_of p) (take i (all_faults p))) × All (λ number. number < part_count p) numbers
    → i < length (all_faults p) → fault ≡ fault_at (all_faults p) i → n ≡ net_of_fault p.circuit fault
    → (numbers ++ get_or parts n d ∷ [] ≡ map (part_of p) (take (i + 1) (all_faults p))) × All (λ number. number < part_count p) (numbers ++ get_or parts n d ∷ [])
faults_push p parts numbers i fault d n are sound so_far lt f e =
    let fs = all_faults p in
    let own : n ≡ net_of_fault p.circuit (fault_at fs i) = e ∙ ap (net_of_fault p.circuit) f in
    let within = net_within p.circuit p.settings.flips p.settings.pulses sound i lt in
    let less : n < length p.circuit.drivers = omega (arith, own, within) in
    let size : length parts ≡ length p.circuit.drivers = length_table (net_part p) (length p.circuit.drivers) parts are.numbers in
    let here : get_or parts n d ≡ part_of p (fault_at fs i) = table_at (net_part p) (length p.circuit.drivers) parts n d are.numbers less ∙ ap (net_part p) own in (
      ap₂ (λ ks k. ks ++ k ∷ []) so_far.0 here ∙ sym (map_push (part_of p) (take i fs) (fault_at fs i)) ∙ sym (ap (map (part_of p)) (take_more fs i (Stuck (net 0) false) lt)),
      All-push (λ number. number < part_count p) numbers (get_or parts n d) so_far.1 (All-get_or (λ number. number < part_count p) parts n d (omega (arith, size, less)) are.within),
    )

pub net_in_table : (p : Analysis) (parts : List ℕ) (i n : ℕ) (fault : Fault) → AreNetParts p parts → IsNetlist p.circuit
    → i < length (all_faults p) → fault ≡ fault_at (all_faults p) i → n ≡ net_of_fault p.circuit fault → n < length parts
net_in_table p parts i n fault are sound lt f e =
    let own : n ≡ net_of_fault p.circuit (fault_at (all_faults p) i) = e ∙ ap (net_of_fault p.circuit) f in
    let within = net_within p.circuit p.settings.flips p.settings.pulses sound i lt in
    let size : length parts ≡ length p.circuit.drivers = length_table (net_part p) (length p.circuit.drivers) parts are.numbers in
    omega (arith, own, within, size)
