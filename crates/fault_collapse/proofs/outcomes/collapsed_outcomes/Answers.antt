use Rattle.std.proofs.Common.{◌≡◌, ◌<◌, ◌≤◌, ◌+◌, ◌*◌, ◌/◌, ◌%◌, ◌∙◌, ℕ, List, length, map, ap, ap₂, sym, subst, arith}
use Rattle.std.specs.Int.{div_ceil}
use Rattle.std.specs.List.{All}
use Rattle.std.proofs.Math.Nat.{mul-div_cancel, mul-mod_left}
use Rattle.std.proofs.lemmas.Grind.{common_steps}
use Rattle.workload.specs.Runs.{all_cycles}
use Rattle.campaign_plan.specs.declared.Outcome.{Outcome}
use Rattle.campaign_plan.specs.Analysis.{Analysis, all_faults, batch_count}
use Rattle.collapse_map.specs.Collapsed.{Collapsed, rep_count}
use Rattle.fm_base.specs.Lists.{below}
use Rattle.fault_collapse.specs.Chosen.{AreChosen, AreSimulated, HaveLanes, planes_shown}
use Rattle.fault_collapse.specs.Outcomes.{collapsed_of}
use Rattle.fault_collapse.proofs.Choosing.{all_true, has_lane, numbers_below, numbers_counted, numbers_few}
use Rattle.fault_collapse.proofs.Rounds.{rounds_hold}
use Rattle.fault_collapse.proofs.outcomes.collapsed_outcomes.Goals as goal

pub simulate-requires-clause-numbers : goal.simulate-requires-clause-numbers
simulate-requires-clause-numbers g c =
    let s : Collapsed = c.args.collapse.now in
    let below : All (λ k. k < length s.faults) c.in_ok-chosen.chosen.numbers.items =
    numbers_below s c.in_ok-chosen.chosen.numbers.items c.in_ok-chosen.chosen.places.items c.in_ok-chosen.ensures in
    subst (λ n. All (λ k. k < n) c.deref.result.now) (ap (λ (x : Collapsed). length x.faults) c.requires.collapse)
    (subst (λ (xs : List ℕ). All (λ k. k < length s.faults) xs) (sym c.deref.ensures.value) below)

pub simulate-requires-clause-few : goal.simulate-requires-clause-few
simulate-requires-clause-few g c =
    let n : ℕ = length c.in_ok-chosen.chosen.numbers.items in
    let listed : length c.faults.result.now ≡ length (all_faults c.args.plan.now) = ap length c.faults.ensures.value in
    let faults : length c.args.collapse.now.faults ≡ length (all_faults c.args.plan.now) = ap (λ (x : Collapsed). length x.faults) c.requires.collapse in
    let most : n ≤ length c.args.collapse.now.faults = numbers_few c.args.collapse.now c.in_ok-chosen.chosen.numbers.items c.in_ok-chosen.chosen.places.items c.in_ok-chosen.ensures in
    let len : c.len.result ≡ n = omega (arith, c.len.ensures, c.deref.ensures.len, ap length c.deref.ensures.value) in
    let rounds : c.div_ceil-rounds.result ≡ div_ceil n (256) = c.div_ceil-rounds.ensures ∙ ap (λ m. div_ceil m (256)) len in
    let whole : c.div_ceil-rounds.result * 4 ≡ div_ceil n (256) * 4 = ap (λ r. r * 4) rounds in
    let some : 0 < 4 = omega arith in
    let hold = (rounds_hold n 4 some).1 in
    omega (arith, hold, whole, most, faults, listed, c.len-count.ensures.few, c.deref_mut.ensures.len, c.in_ok-found.ensures.len)

pub simulate-requires-clause-rounds : goal.simulate-requires-clause-rounds
simulate-requires-clause-rounds g c =
    let rounds : ℕ = c.div_ceil-rounds.result in
    let long : length c.deref_mut.result.now ≡ rounds * 4 = omega (arith, c.deref_mut.ensures.len, c.in_ok-found.ensures.len) in
    ap (λ n. n % 4) long ∙ mul-mod_left rounds 4

pub spread-requires-clause-lanes : goal.spread-requires-clause-lanes
spread-requires-clause-lanes g c =
    let p : Analysis = c.args.plan.now in
    let numbers : List ℕ = c.in_ok-chosen.chosen.numbers.items in
    let places : List ℕ = c.in_ok-chosen.chosen.places.items in
    let chosen : AreChosen (collapsed_of p) numbers places = subst (λ (x : Collapsed). AreChosen x numbers places) c.requires.collapse c.in_ok-chosen.ensures in
    let found : List Outcome = c.simulate.new.found in
    let len : c.len.result ≡ length numbers = omega (arith, c.len.ensures, c.deref.ensures.len, ap length c.deref.ensures.value) in
    let rounds : c.div_ceil-rounds.result ≡ div_ceil (length numbers) (256) = c.div_ceil-rounds.ensures ∙ ap (λ m. div_ceil m (256)) len in
    let whole : c.div_ceil-rounds.result * 4 ≡ div_ceil (length numbers) (256) * 4 = ap (λ r. r * 4) rounds in
    let some : 0 < 4 = omega arith in
    let hold = (rounds_hold (length numbers) 4 some).0 in
    let room : length numbers ≤ 64 * length found = omega (arith, hold, whole, c.simulate.auto.found, c.deref_mut.ensures.len, c.in_ok-found.ensures.len) in
    let back : c.deref-3.result.now ≡ found = grind (arith, common_steps) in
    let simulated : AreSimulated p numbers found = subst (λ (xs : List ℕ). AreSimulated p xs found) c.deref.ensures.value c.simulate.ensures.found in
    let lanes : HaveLanes (collapsed_of p) places found = has_lane p c.args.bench.now.order c.faults.ensures.plan c.requires.order numbers places found chosen room simulated in
    subst (λ (x : Collapsed). HaveLanes x c.deref-2.result.now c.deref-3.result.now) (sym c.requires.collapse)
    (subst (λ (ps : List ℕ). HaveLanes (collapsed_of p) ps c.deref-3.result.now) (sym c.deref-2.ensures.value)
    (subst (λ (fs : List Outcome). HaveLanes (collapsed_of p) places fs) (sym back) lanes))

pub returns-clause-outcomes : goal.returns-clause-outcomes
returns-clause-outcomes g c =
    let p : Analysis = c.args.plan.now in
    let numbers : List ℕ = c.in_ok-chosen.chosen.numbers.items in
    let places : List ℕ = c.in_ok-chosen.chosen.places.items in
    let chosen : AreChosen (collapsed_of p) numbers places = subst (λ (x : Collapsed). AreChosen x numbers places) c.requires.collapse c.in_ok-chosen.ensures in
    let found : List Outcome = c.simulate.new.found in
    let len : c.len.result ≡ length numbers = omega (arith, c.len.ensures, c.deref.ensures.len, ap length c.deref.ensures.value) in
    let rounds : c.div_ceil-rounds.result ≡ div_ceil (length numbers) (256) = c.div_ceil-rounds.ensures ∙ ap (λ m. div_ceil m (256)) len in
    let whole : c.div_ceil-rounds.result * 4 ≡ div_ceil (length numbers) (256) * 4 = ap (λ r. r * 4) rounds in
    let some : 0 < 4 = omega arith in
    let hold = (rounds_hold (length numbers) 4 some).0 in
    let room : length numbers ≤ 64 * length found = omega (arith, hold, whole, c.simulate.auto.found, c.deref_mut.ensures.len, c.in_ok-found.ensures.len) in
    let back : c.deref-3.result.now ≡ found = grind (arith, common_steps) in
    let simulated : AreSimulated p numbers found = subst (λ (xs : List ℕ). AreSimulated p xs found) c.deref.ensures.value c.simulate.ensures.found in
    let batches : length c.deref_mut-2.result.now ≡ batch_count p = omega (arith, c.deref_mut-2.ensures.len, c.in_ok-list.ensures.len, c.batches.ensures.count) in
    let list : c.from_vec.result ≡ c.spread.new.list = grind (arith, common_steps) in
    list
    ∙ c.spread.ensures
    ∙ ap (λ n. map (planes_shown c.args.collapse.now c.deref-2.result.now c.deref-3.result.now) (below n)) batches
    ∙ ap (λ (x : Collapsed). map (planes_shown x c.deref-2.result.now c.deref-3.result.now) (below (batch_count p))) c.requires.collapse
    ∙ ap₂ (λ (ps : List ℕ) (fs : List Outcome). map (planes_shown (collapsed_of p) ps fs) (below (batch_count p))) c.deref-2.ensures.value back
    ∙ all_true p c.args.bench.now.order c.faults.ensures.plan c.requires.order numbers places found chosen room simulated (batch_count p)

pub returns-clause-cost : goal.returns-clause-cost
returns-clause-cost g c =
    let p : Analysis = c.args.plan.now in
    let numbers : List ℕ = c.in_ok-chosen.chosen.numbers.items in
    let each : ℕ = all_cycles p.runs * length p.circuit.tables in
    let len : c.len.result ≡ length numbers = omega (arith, c.len.ensures, c.deref.ensures.len, ap length c.deref.ensures.value) in
    let counted : length numbers ≡ rep_count c.args.collapse.now = numbers_counted c.args.collapse.now numbers c.in_ok-chosen.chosen.places.items c.in_ok-chosen.ensures in
    let reps : rep_count c.args.collapse.now ≡ rep_count (collapsed_of p) = ap rep_count c.requires.collapse in
    let rounds : c.div_ceil-rounds.result ≡ div_ceil (rep_count (collapsed_of p)) 256 = c.div_ceil-rounds.ensures ∙ ap (λ m. div_ceil m 256) (len ∙ counted ∙ reps) in
    let some : 0 < 4 = omega arith in
    let long : length c.deref_mut.result.now ≡ c.div_ceil-rounds.result * 4 = omega (arith, c.deref_mut.ensures.len, c.in_ok-found.ensures.len) in
    let shared : length c.deref_mut.result.now / 4 ≡ c.div_ceil-rounds.result = ap (λ n. n / 4) long ∙ mul-div_cancel c.div_ceil-rounds.result some in
    let spent : c.simulate.new.steps ≤ c.args.steps.now + div_ceil (rep_count (collapsed_of p)) 256 * each =
    subst (λ r. c.simulate.new.steps ≤ c.args.steps.now + r * each) (shared ∙ rounds) c.simulate.ensures.cost in
    omega (arith, spent)
