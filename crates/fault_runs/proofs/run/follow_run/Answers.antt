use Rattle.std.proofs.Common.{◌≡◌, ◌<◌, ◌≤◌, ◌+◌, ◌-◌, ◌*◌, ◌⊎◌, ℕ, [], ◌∷◌, inl, inr, length, min, zero, suc, refl, ap, sym, subst, ◌∙◌, arith}
use Rattle.std.specs.Int.{div_ceil}
use Rattle.std.specs.List.{All}
use Rattle.std.proofs.Math.Nat.{mul-le-mul_left, mul-le-mul_right}
use Rattle.std.proofs.lemmas.Bool.{cases_Bool, cases_lt}
use Rattle.fm_base.proofs.Tests.{clash}
use Rattle.workload.specs.declared.run.Kind.{Kind}
use Rattle.workload.specs.Runs.{cycles_of, run_at}
use Rattle.lane_words.specs.Loads.{loaded_faults}
use Rattle.place_set.specs.Places.{has}
use Rattle.fault_runs.specs.Followed.{IsFollowed}
use Rattle.fault_runs.specs.Over.{AreOver}
use Rattle.fault_runs.specs.Records.{RunShown, record_of}
use Rattle.fault_runs.specs.Shown.{HasShown}
use Rattle.fault_runs.specs.Stretch.{Stands, state_at}
use Rattle.fault_runs.proofs.Groups.{stretch_more}
use Rattle.fault_runs.proofs.OverShown.{let_go}
use Rattle.fault_runs.proofs.Standing.{followed_same}
use Rattle.fault_runs.proofs.run.follow_run.Goals as goal

-- one number alone
one_in : (i n : ℕ) → i < n → All (λ j. j < n) (i ∷ [])
one_in i n lt zero d within = lt
one_in i n lt (suc k) d within = absurd (omega (arith, within))

pub clock-init : goal.clock-init
clock-init g c =
    let bench = c.args.bench.now in
    let run = run_at bench.runs c.args.run in
    let draw = c.args.draw.now in
    let states = c.start_run.new.states in
    let records = c.start_run.new.records in
    let may_leave : ℕ → Kind → ℕ → RunShown → Type 0 = λ i kind n r. g.R.LeavingRule.may_leave c.args.rule.now i kind n r in
    let stood : (i : ℕ) → i < length draw → Stands bench.circuit bench.points run (loaded_faults draw i) 0 (state_at states i) (record_of records i) = λ i lt.
    let inside : i < length c.args.states.now = omega (arith, lt, c.requires.states) in
    let one : 0 < length (i ∷ []) = omega arith in
    c.start_run.ensures.stand bench.circuit bench.points run draw (i ∷ []) c.requires.fit (one_in i (length c.args.states.now) inside) 0 one in
    record {
      within = omega arith;
      load = refl;
      active = c.leave_active.ensures.bound ∙ c.fill.ensures.bound ∙ c.requires.active;
      bound = λ i lt. c.start_run.ensures.bound i ∙ c.requires.bound i (omega (arith, lt, c.start_run.auto.states));
      faults = refl;
      fit = c.start_run.ensures.fit bench.points c.requires.fit;
      stand = λ i lt is. stood i lt;
      followed = λ i lt off.
          let inside : i < c.args.active.now.bound = omega (arith, lt, c.requires.active) in
          let leaves : AreOver (loaded_faults draw i) 0 (state_at states i) ⊎ may_leave i run.kind 0 (record_of records i) =
          subst (λ (kind : Kind). AreOver (loaded_faults draw i) 0 (state_at states i) ⊎ may_leave i kind 0 (record_of records i)) c.kind-kind.ensures
          (c.leave_active.ensures.leaves i (c.fill.ensures.all i inside) off) in
          let_go bench.circuit bench.points run (loaded_faults draw i) (may_leave i run.kind) 0 (state_at states i) (record_of records i) c.points-fit.ensures.fit (omega arith) (stood i lt) leaves;
      cost = omega arith;
    }

pub clock-preserved : goal.clock-preserved
clock-preserved g c =
    let inv = c.clock.invariant in
    let bench = c.args.bench.now in
    let run = run_at bench.runs c.args.run in
    let draw = c.args.draw.now in
    let t = c.clock.t in
    let ran = c.follow_active.ensures in
    let old = c.clock.records in
    let new = c.follow_active.new.records in
    let states' = c.follow_active.new.states in
    let to = c.min-t.result in
    let to_is : to ≡ min (cycles_of run) (t + 256) = c.min-t.ensures ∙ ap (λ n. min n (t + 256)) c.cycles-cycles.ensures.count in
    let within : to ≤ cycles_of run = omega (arith, to_is) in
    let later : t ≤ to = omega (arith, to_is, inv.within) in
    let may_leave : ℕ → Kind → ℕ → RunShown → Type 0 = λ i kind n r. g.R.LeavingRule.may_leave c.args.rule.now i kind n r in
    record {
      within = within;
      load = ran.load ∙ inv.load;
      active = c.leave_active-in-clock.ensures.bound ∙ inv.active;
      bound = λ i lt. ran.bound i (omega (arith, lt, c.clock.auto.states));
      faults = ran.faults ∙ inv.faults;
      fit = ran.fit;
      stand = λ i lt is.
          subst (λ n. Stands bench.circuit bench.points run (loaded_faults draw i) n (state_at states' i) (record_of new i)) (sym to_is)
          (ran.stand i lt (c.leave_active-in-clock.ensures.stays i is));
      followed = λ i lt off.
          elim (cases_Bool (has c.clock.active i)) as (λ _. IsFollowed bench.circuit bench.points run (loaded_faults draw i) (may_leave i run.kind) (record_of new i)) [
            | inl was ↦
                (let stood : Stands bench.circuit bench.points run (loaded_faults draw i) to (state_at states' i) (record_of new i) =
                subst (λ n. Stands bench.circuit bench.points run (loaded_faults draw i) n (state_at states' i) (record_of new i)) (sym to_is) (ran.stand i lt was) in
                let leaves : AreOver (loaded_faults draw i) to (state_at states' i) ⊎ may_leave i run.kind to (record_of new i) =
                subst (λ (kind : Kind). AreOver (loaded_faults draw i) to (state_at states' i) ⊎ may_leave i kind to (record_of new i)) c.kind-kind.ensures (c.leave_active-in-clock.ensures.leaves i was off) in
                let_go bench.circuit bench.points run (loaded_faults draw i) (may_leave i run.kind) to (state_at states' i) (record_of new i) c.points-fit.ensures.fit within stood leaves)
            | inr gone ↦
                followed_same bench.circuit bench.points run (loaded_faults draw i) (may_leave i run.kind) (record_of old i) (record_of new i) (ran.others i gone) (inv.followed i lt gone)
          ];
      cost =
          stretch_more c.args.steps.now c.clock.steps c.follow_active.new.steps (div_ceil (length draw) g.W.Word.lanes) t to (length bench.circuit.tables) later inv.cost
          (subst (λ n. c.follow_active.new.steps ≤ c.clock.steps + (div_ceil (length draw) g.W.Word.lanes) * ((n - t) * length bench.circuit.tables)) (sym to_is) ran.cost);
    }

pub returns-clause-followed : goal.returns-clause-followed
returns-clause-followed g c = λ i lt.
    let inv = c.clock.invariant in
    let bench = c.args.bench.now in
    let run = run_at bench.runs c.args.run in
    let x = loaded_faults c.args.draw.now i in
    elim (cases_Bool (has c.clock.active i)) [
      | inl is ↦
          (let end : c.clock.t ≡ cycles_of run = elim (cases_lt c.clock.t (cycles_of run)) [
            | inl before ↦ absurd (clash (has c.clock.active i) is (c.goes_on.ensures.over c.clock-test.false (omega (arith, before, c.cycles-cycles.ensures.count)) i))
            | inr late ↦ omega (arith, late, inv.within)
          ] in
          record {
            n = c.clock.t;
            within = inv.within;
            shown = (inv.stand i lt is).shown;
            enough = inl (subst (λ n. HasShown bench.circuit bench.points run x n (record_of c.clock.records i)) end (inv.stand i lt is).shown);
          })
      | inr off ↦ inv.followed i lt off
    ]

pub returns-clause-cost : goal.returns-clause-cost
returns-clause-cost g c =
    let inv = c.clock.invariant in
    let bench = c.args.bench.now in
    let most : c.clock.t * length bench.circuit.tables ≤ cycles_of (run_at bench.runs c.args.run) * length bench.circuit.tables = mul-le-mul_right (length bench.circuit.tables) inv.within in
    let all = mul-le-mul_left (div_ceil (length c.args.draw.now) g.W.Word.lanes) most in
    omega (arith, inv.cost, all)
