-- The checks of the plan refuse nothing of the generated one: faults are few, each net has a rate, and no rate is idle.
use Rattle.std.proofs.Common.{◌≡◌, ℕ, zero, suc, ◌<◌, ◌≤◌, ◌^◌, Bool, true, false, List, [], ◌∷◌, ◌++◌, length, map, refl, ap, ◌∙◌, arith}
use Rattle.std.specs.Prelude.{◌==◌, ◌&&◌, Contains, Some, None, codes, count_by, cond, filter_map, find, flat_map, is_none, nat_lt, slice_get, slice_index_or, unwrap_or}
use Rattle.std.specs.List.{AllByRecursion}
use Rattle.std.specs.Option.{option_map}
use Rattle.std.proofs.lemmas.List.Elements.{Contains-append_left, Contains-append_right}
use Rattle.std.proofs.lemmas.List.Sums.{sum_by-cons}
use Rattle.alarm_points.specs.declared.Points.{Points}
use Rattle.workload.specs.declared.run.Run.{Run}
use Rattle.circuit.specs.declared.parts.Latch.{Latch}
use Rattle.circuit.specs.declared.parts.Fault.{Fault}
use Rattle.circuit.specs.declared.parts.Fault.TheVariants.{Flip, Pulse, Stuck}
use Rattle.circuit.specs.Circuit.{Circuit}
use Rattle.circuit.specs.Names.{net_name}
use Rattle.circuit.specs.Sound.{IsNetlist}
use Rattle.fault_list.specs.Faults.{faults_for, net, net_of_fault}
use Rattle.fault_list.proofs.Numbers.{length_faults}
use Rattle.fm_base.specs.Lists.{below}
use Rattle.fm_base.specs.Names.{Name}
use Rattle.net_names.specs.Nets.{net_id}
use Rattle.rate_table.specs.declared.Pattern.{Pattern}
use Rattle.rate_table.specs.Table.{matches, part_named}
use Rattle.campaign_plan.specs.Analysis.{Analysis, all_faults, fault_count, part_numbered}
use Rattle.campaign_plan.specs.PlanFaults.{idle_rate, missing_rate, plan_refusal}
use Rattle.campaign_plan.specs.Steps.{idle_rate_of, is_idle}
use Rattle.campaign_plan.specs.Weights.{has_part_and_kind, rate_of_kind}
use Rattle.campaign_plan.proofs.Refusing.{rates_whole}
use Rattle.commands.specs.Commands.{settings_of}
use Rattle.campaign_laws.proofs.FirstNets.{HasFirstLatches, HasFirstNets, first_stage}
use Rattle.campaign_laws.proofs.Tabled.{sample_rates}

-- ---- each name has a rate

-- where the last of some passes, one is found
last_found : {X Y : Type 0} (test : X → Bool) (f : X → Y) (xs : List X) (last : X) → test last ≡ true → is_none (option_map f (find test (xs ++ last ∷ []))) ≡ false
last_found test f [] last e = rw e refl
last_found test f (x ∷ xs) last e = by_cases (test x) (last_found test f xs last e)
  where
    by_cases : (b : Bool) → is_none (option_map f (find test (xs ++ last ∷ []))) ≡ false
        → is_none (option_map f (cond b (Some x) (find test (xs ++ last ∷ [])))) ≡ false
    by_cases true more = refl
    by_cases false more = more

always_rated : (name : Name) → is_none (part_named sample_rates name) ≡ false
unfolding sample_rates
always_rated name =
    last_found (λ (pattern : Pattern). matches pattern name) (λ (pattern : Pattern). pattern.part)
    (record { name = codes "d"; star = false; part = 0 } ∷ record { name = codes "q"; star = false; part = 1 }
    ∷ record { name = codes "m"; star = true; part = 1 } ∷ record { name = codes "a"; star = true; part = 1 } ∷ [])
    (record { name = []; star = true; part = 2 }) refl

find_never : {X : Type 0} (test : X → Bool) → ((x : X) → test x ≡ false) → (xs : List X) → find test xs ≡ None
find_never test never [] = refl
find_never test never (x ∷ xs) = rw never (find_never test never xs)

-- ---- no rate is idle

counted : {X : Type 0} (test : X → Bool) (xs : List X) (k : ℕ) (x : X) → k < length xs → slice_index_or xs k x ≡ x → test x ≡ true → 0 < count_by test xs
counted test [] k x lt at e = absurd (omega arith)
counted test (y ∷ xs) zero x lt at e =
    let here : ◌≡◌ {A = ℕ} (cond (test y) 1 0) 1 = ap (λ z. cond (test z) 1 0) at ∙ rw e refl in
    omega (arith, here, sum_by-cons (λ z. cond (test z) 1 0) y xs)
counted test (y ∷ xs) (suc k) x lt at e =
    omega (arith, counted test xs k x (omega (arith, lt)) at e, sum_by-cons (λ z. cond (test z) 1 0) y xs)

not_idle : (p : Analysis) (permanent : Bool) (k : ℕ) (f : Fault) → Contains (all_faults p) f → has_part_and_kind p k permanent f ≡ true → is_idle p permanent k ≡ false
not_idle p permanent k f there e =
    let many = counted (has_part_and_kind p k permanent) (all_faults p) there.0 f there.1 there.2 e in
    let some : (count_by (has_part_and_kind p k permanent) (all_faults p) == 0) ≡ false = grind (arith, many) in
    rw some (and_no (nat_lt 0 (rate_of_kind permanent (part_numbered p k))))
  where
    and_no : (b : Bool) → (b && false) ≡ false
    and_no true = refl
    and_no false = refl

none_idle : (p : Analysis) (ks : List ℕ) → AllByRecursion (λ k. (is_idle p true k ≡ false) × (is_idle p false k ≡ false)) ks → filter_map (idle_rate_of p) ks ≡ []
none_idle p [] all = refl
none_idle p (k ∷ ks) all = rw (all.0.0, all.0.1) (none_idle p ks all.1)

-- ---- faults that are there

abbrev faults : ℕ → ℕ → List Fault
faults nets latches = faults_for nets latches (1 ∷ []) []

record HasFaults (nets latches : ℕ) : Type 0 where
  input : Contains (faults nets latches) (Stuck (net 0) false)
  end : Contains (faults nets latches) (Stuck (net 1) false)
  alarm : Contains (faults nets latches) (Stuck (net 2) false)
  mission : Contains (faults nets latches) (Flip 0 1)
  shadow : Contains (faults nets latches) (Flip 1 1)

has_faults : (nets latches : ℕ) → 3 ≤ nets → 2 ≤ latches → HasFaults nets latches
unfolding faults_for below
has_faults zero latches some flips = absurd (omega (arith, some))
has_faults (suc zero) latches some flips = absurd (omega (arith, some))
has_faults (suc (suc zero)) latches some flips = absurd (omega (arith, some))
has_faults (suc (suc (suc nets))) zero some flips = absurd (omega (arith, flips))
has_faults (suc (suc (suc nets))) (suc zero) some flips = absurd (omega (arith, flips))
has_faults (suc (suc (suc nets))) (suc (suc latches)) some flips =
    let n : ℕ = suc (suc (suc nets)) in
    let stuck : List Fault = flat_map (λ k. Stuck (net k) false ∷ Stuck (net k) true ∷ []) (below n) in
    let flipped : List Fault = flat_map (λ latch. map (λ cycle. Flip latch cycle) (1 ∷ [])) (below (suc (suc latches))) in
    let pulsed : List Fault = flat_map (λ k. map (λ cycle. Pulse (net k) cycle) []) (below n) in
    record {
      input = (0, omega arith, refl);
      end = (2, omega arith, refl);
      alarm = (4, omega arith, refl);
      mission = Contains-append_left (stuck ++ flipped) pulsed (Flip 0 1) (Contains-append_right stuck flipped (Flip 0 1) (0, omega arith, refl));
      shadow = Contains-append_left (stuck ++ flipped) pulsed (Flip 1 1) (Contains-append_right stuck flipped (Flip 1 1) (1, omega arith, refl));
    }

-- ---- the plan

-- the plan of the generated rates, with flips in cycle 1
abbrev pub sample_plan : Circuit → List Run → Points → Analysis
sample_plan c runs points = record { circuit = c; runs = runs; rates = sample_rates; points = points; settings = settings_of (1 ∷ []) [] }

module _ (c : Circuit) (runs : List Run) (points : Points) (netlist : IsNetlist c) (nets : HasFirstNets c.names) (latches : HasFirstLatches c) where
  abbrev plan : Analysis
  plan = sample_plan c runs points

  few : fault_count plan ≤ 2 ^ 20
  few = omega (arith, length_faults (length c.drivers) (length c.latches) (1 ∷ []) [], netlist.few, netlist.few_latches)

  all_rated : missing_rate plan ≡ None
  all_rated = rw (find_never (λ k. is_none (part_named sample_rates (net_name c k))) (λ k. always_rated (net_name c k)) (below (length c.drivers))) refl

  there : HasFaults (length c.drivers) (length c.latches)
  there =
      let names = ap length nets.are in
      let many = ap length latches.are in
      has_faults (length c.drivers) (length c.latches) (omega (arith, names, netlist.named)) (omega (arith, many))

  -- the part of a name
  abbrev part : Name → ℕ
  part name = unwrap_or (part_named sample_rates name) 0

  stuck_part : (j k : ℕ) (name : Name) → net_name c j ≡ name → (part name == k) ≡ true → has_part_and_kind plan k true (Stuck (net j) false) ≡ true
  stuck_part j k name e f = ap (λ (own : Name). part own == k) e ∙ f

  flip_part : (j k : ℕ) (name : Name) → net_name c (net_of_fault c (Flip j 1)) ≡ name → (part name == k) ≡ true → has_part_and_kind plan k false (Flip j 1) ≡ true
  flip_part j k name e f = ap (λ (own : Name). part own == k) e ∙ f

  -- the nets of the first stage by their latches
  first_latch : net_name c (net_of_fault c (Flip 0 1)) ≡ codes "a1"
  first_latch =
      ap (λ (all : List Latch). net_name c (slice_index_or all 0 (record { from = net 0; to = net 0; start = false })).to.0) latches.are
      ∙ ap (λ (names : List Name). slice_index_or names (net_id names (codes "a1")).0 []) nets.are

  second_latch : net_name c (net_of_fault c (Flip 1 1)) ≡ codes "b1"
  second_latch =
      ap (λ (all : List Latch). net_name c (slice_index_or all 1 (record { from = net 0; to = net 0; start = false })).to.0) latches.are
      ∙ ap (λ (names : List Name). slice_index_or names (net_id names (codes "b1")).0 []) nets.are

  name_at : (j : ℕ) (name : Name) → slice_index_or (codes "d" ∷ codes "q" ∷ codes "e" ∷ first_stage nets.rest) j [] ≡ name → net_name c j ≡ name
  name_at j name e = ap (λ (names : List Name). slice_index_or names j []) nets.are ∙ e

  busy : idle_rate plan ≡ None
  unfolding below sample_rates
  busy =
      ap (λ refusals. slice_get refusals 0) (none_idle plan (0 ∷ 1 ∷ 2 ∷ []) (
        (not_idle plan true 0 (Stuck (net 0) false) there.input (stuck_part 0 0 (codes "d") (name_at 0 (codes "d") refl) refl), refl),
        (
          (
            not_idle plan true 1 (Stuck (net 1) false) there.end (stuck_part 1 1 (codes "q") (name_at 1 (codes "q") refl) refl),
            not_idle plan false 1 (Flip 0 1) there.mission (flip_part 0 1 (codes "a1") first_latch refl),
          ),
          (
            (
              not_idle plan true 2 (Stuck (net 2) false) there.alarm (stuck_part 2 2 (codes "e") (name_at 2 (codes "e") refl) refl),
              not_idle plan false 2 (Flip 1 1) there.shadow (flip_part 1 2 (codes "b1") second_latch refl),
            ),
            tt,
          ),
        ),
      ))

  pub unrefused : plan_refusal (sample_plan c runs points) ≡ None
  unrefused = rates_whole plan few all_rated ∙ busy
