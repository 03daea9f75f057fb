use Rattle.std.proofs.Common.{◌≡◌, ◌<◌, ◌≤◌, ◌+◌, ◌-◌, ◌*◌, ◌⊎◌, ℕ, List, inl, inr, false, length, take, min, rules, refl, ap, sym, subst, ◌∙◌, arith}
use Rattle.std.proofs.lemmas.Bool.{cases_lt}
use Rattle.std.proofs.lemmas.List.{get_or-take, length-take-le}
use Rattle.fm_base.proofs.Tests.{clash}
use Rattle.workload.specs.Runs.{cycles_of, run_at}
use Rattle.lane_words.specs.Loads.{loaded_faults}
use Rattle.place_set.specs.Places.{has}
use Rattle.fault_runs.specs.First.{IsNotIn, fault_in}
use Rattle.fault_runs.specs.Records.{record_of}
use Rattle.fault_runs.specs.Resting.{AreAtRest}
use Rattle.fault_runs.specs.Stretch.{Stands, state_at}
use Rattle.fault_runs.proofs.Groups.{group_more, groups_all}
use Rattle.fault_runs.proofs.Rested.{rested}
use Rattle.fault_runs.proofs.Standing.{same_self, same_then, stands_same}
use Rattle.fault_runs.proofs.run.follow_active.Goals as goal

-- the members of a group, of the numbers that it has room for
module _ (group : List ℕ) (count : ℕ) (le : count ≤ length group) where
  size : length (take count group) ≡ count
  size = length-take-le count group le

  member : (k : ℕ) → k < length (take count group) → k < count
  member k lt = omega (arith, lt, size)

  there : (k : ℕ) → k < length (take count group) → fault_in (take count group) k ≡ fault_in group k
  there k lt = let within : k < count = member k lt in get_or-take count group k 0 within

  -- what isn't among the numbers of the group is in none of its lanes
  outside : (i : ℕ) → ((k : ℕ) → k < count → fault_in group k ≡ i → ⊥) → IsNotIn (take count group) i
  outside i none k lt same = none k (member k lt) (sym (there k lt) ∙ same)

pub groups-init : goal.groups-init
groups-init g c = record {
  within = omega arith;
  load = refl;
  bound = c.requires.bound;
  faults = refl;
  fit = c.requires.fit;
  done = λ i lt less. absurd (omega (arith, less));
  left = λ i lt le is. c.requires.stand i lt is;
  others = λ i off. same_self (record_of c.args.records.now i);
  cost = record { groups = 0; cost = omega arith; few = inl (omega arith) };
}

pub follow_stretch-requires-clause-stand : goal.follow_stretch-requires-clause-stand
follow_stretch-requires-clause-stand g c = λ k lt.
    let inv = c.groups.invariant in
    let bench = c.args.bench.now in
    let run = run_at bench.runs c.args.run in
    let fill = c.fill_group-members.ensures in
    let count = c.fill_group-members.result.count in
    let group = c.fill_group-members.new.group in
    let within : k < count = member group count fill.count k lt in
    let i = fault_in group k in
    let first_in : c.in-Some.first < c.args.active.now.bound = c.in-Some.ensures.1 in
    let behind : c.fill_group-members.result.next ≤ c.args.active.now.bound = fill.inside (omega (arith, first_in)) in
    let small : i < length c.args.draw.now = omega (arith, fill.high k within, behind, c.requires.active) in
    let from : c.groups.next ≤ i = omega (arith, c.in-Some.ensures.0, fill.low k within) in
    subst (λ j. Stands bench.circuit bench.points run (loaded_faults c.args.draw.now j) c.args.from (state_at c.groups.states j) (record_of c.groups.records j))
    (sym (there group count fill.count k lt)) (inv.left i small from (fill.active k within))

pub groups-preserved : goal.groups-preserved
groups-preserved g c =
    let inv = c.groups.invariant in
    let bench = c.args.bench.now in
    let run = run_at bench.runs c.args.run in
    let draw = c.args.draw.now in
    let active = c.args.active.now in
    let found = c.in-Some.ensures in
    let first = c.in-Some.first in
    let next = c.groups.next in
    let fill = c.fill_group-members.ensures in
    let count = c.fill_group-members.result.count in
    let after = c.fill_group-members.result.next in
    let group = c.fill_group-members.new.group in
    let ran = c.follow_stretch.ensures in
    let was = c.args.records.now in
    let old = c.groups.records in
    let new = c.follow_stretch.new.records in
    let states = c.groups.states in
    let states' = c.follow_stretch.new.states in
    let to = min (cycles_of run) (c.args.from + 256) in
    let to_is : c.min-to.result ≡ to = c.min-to.ensures ∙ ap (λ n. min n (c.args.from + 256)) c.cycles.ensures.count in
    let first_in : first < active.bound = found.1 in
    let from_next : next ≤ first = found.0 in
    let behind : after ≤ active.bound = fill.inside (omega (arith, first_in)) in
    let whole : g.W.Word.lanes ≡ g.W.Word.words * 64 = g.met.W.Word.whole in
    let some : 0 < g.W.Word.lanes = omega (arith, whole) in
    let size_of : length group ≡ g.W.Word.lanes = omega (arith, c.requires.room, c.groups.auto.group, c.fill_group-members.auto.group) in
    let full : (count ≡ g.W.Word.lanes) ⊎ ((p : ℕ) → after ≤ p → has active p ≡ false) = elim fill.full [ inl all ↦ inl (all ∙ size_of) | inr rest ↦ inr rest ] in
    record {
      within = omega (arith, behind, c.requires.active);
      load = ran.load ∙ inv.load;
      bound = λ i lt. ran.bound i (omega (arith, lt, c.groups.auto.states));
      faults = ran.faults ∙ inv.faults;
      fit = ran.fit;
      done = λ i small less is.
          elim (cases_lt i first) as (λ _. Stands bench.circuit bench.points run (loaded_faults draw i) to (state_at states' i) (record_of new i)) [
            | inl early ↦
                (let out = outside group count fill.count i (λ k lt same. absurd (omega (arith, fill.low k lt, same, early))) in
                elim (cases_lt i next) as (λ _. Stands bench.circuit bench.points run (loaded_faults draw i) to (state_at states' i) (record_of new i)) [
                  | inl before ↦
                      stands_same bench.circuit bench.points run (loaded_faults draw i) to (state_at states i) (state_at states' i) (record_of old i) (record_of new i)
                      (ran.other_states i out) (ran.other_records i out) (inv.done i small before is)
                  | inr from ↦ absurd (clash (has active i) is (found.3 i from early))
                ])
            | inr late ↦
                elim (fill.all i late less is) as (λ _. Stands bench.circuit bench.points run (loaded_faults draw i) to (state_at states' i) (record_of new i)) [
                  | inl among ↦
                      (let k : ℕ = among.0 in
                      let lt : k < count = among.1 in
                      let in_slice : k < length (take count group) = omega (arith, lt, size group count fill.count) in
                      let at : fault_in (take count group) k ≡ i = there group count fill.count k in_slice ∙ among.2 in
                      subst (λ n. Stands bench.circuit bench.points run (loaded_faults draw i) n (state_at states' i) (record_of new i)) ran.to
                      (subst (λ j. Stands bench.circuit bench.points run (loaded_faults draw j) c.follow_stretch.result (state_at states' j) (record_of new j)) at (ran.stand k in_slice)))
                  | inr rests ↦
                      (let out = outside group count fill.count i rests.1 in
                      stands_same bench.circuit bench.points run (loaded_faults draw i) to (state_at states i) (state_at states' i) (record_of old i) (record_of new i)
                      (ran.other_states i out) (ran.other_records i out)
                      (rested bench.circuit bench.points run (loaded_faults draw i) c.args.from to (state_at states i) (record_of old i)
                      c.points-fit.ensures.fit (omega (arith, c.requires.from)) (omega arith)
                      (subst (λ n. AreAtRest bench.circuit run (loaded_faults draw i) c.args.from n (state_at states i)) to_is rests.0)
                      (inv.left i small (omega (arith, late, from_next)) is)))
                ]
          ];
      left = λ i small le is.
          let out = outside group count fill.count i (λ k lt same. absurd (omega (arith, fill.high k lt, same, le))) in
          stands_same bench.circuit bench.points run (loaded_faults draw i) c.args.from (state_at states i) (state_at states' i) (record_of old i) (record_of new i)
          (ran.other_states i out) (ran.other_records i out) (inv.left i small (omega (arith, from_next, fill.next, le)) is);
      others = λ i off.
          let out = outside group count fill.count i (λ k lt same. clash (has active i) (ap (has active) (sym same) ∙ fill.active k lt) off) in
          same_then (record_of was i) (record_of old i) (record_of new i) (inv.others i off) (ran.other_records i out);
      cost =
          group_more active g.W.Word.lanes (length draw) ((to - c.args.from) * length bench.circuit.tables) c.args.steps.now some first count next c.groups.steps c.follow_stretch.new.steps after
          inv.cost from_next (omega (arith, first_in, c.requires.active)) found.2 fill.covers full
          (subst (λ n. c.follow_stretch.new.steps ≤ c.groups.steps + (n - c.args.from) * length bench.circuit.tables) ran.to ran.cost);
    }

pub groups-smaller : goal.groups-smaller
groups-smaller g c =
    let fill = c.fill_group-members.ensures in
    let first = c.in-Some.first in
    let after = c.fill_group-members.result.next in
    let whole : g.W.Word.lanes ≡ g.W.Word.words * 64 = g.met.W.Word.whole in
    let first_in : first < c.args.active.now.bound = c.in-Some.ensures.1 in
    let from_next : c.groups.next ≤ first = c.in-Some.ensures.0 in
    let behind : first < after = elim fill.full [
      | inl all ↦ omega (arith, all, fill.covers, whole, c.requires.room, c.groups.auto.group, c.fill_group-members.auto.group)
      | inr rest ↦ elim (cases_lt first after) [ inl less ↦ less | inr far ↦ absurd (clash (has c.args.active.now first) c.in-Some.ensures.2 (rest first far)) ]
    ] in
    omega (arith, behind, first_in, from_next, c.requires.active)

pub returns-clause-stand : goal.returns-clause-stand
returns-clause-stand g c = λ i small is.
    let none : (p : ℕ) → c.groups.next ≤ p → has c.args.active.now p ≡ false = search rules in
    elim (cases_lt i c.groups.next) [
      | inl before ↦ c.groups.invariant.done i small before is
      | inr from ↦ absurd (clash (has c.args.active.now i) is (none i from))
    ]

pub returns-clause-cost : goal.returns-clause-cost
returns-clause-cost g c =
    let inv = c.groups.invariant in
    let bench = c.args.bench.now in
    let to = min (cycles_of (run_at bench.runs c.args.run)) (c.args.from + 256) in
    let whole : g.W.Word.lanes ≡ g.W.Word.words * 64 = g.met.W.Word.whole in
    let some : 0 < g.W.Word.lanes = omega (arith, whole) in
    groups_all c.args.active.now g.W.Word.lanes (length c.args.draw.now) ((to - c.args.from) * length bench.circuit.tables) c.args.steps.now some c.groups.next c.groups.steps inv.cost inv.within
