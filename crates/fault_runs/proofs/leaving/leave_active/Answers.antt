use Rattle.std.proofs.Common.{◌≡◌, ◌<◌, ◌⊎◌, ℕ, List, [], inl, inr, length, ap, sym, ◌∙◌, subst, arith}
use Rattle.std.proofs.lemmas.Bool.{cases_Bool}
use Rattle.std.proofs.lemmas.List.{get_or_default}
use Rattle.circuit.specs.declared.parts.Fault.{Fault}
use Rattle.lane_words.specs.Loads.{loaded_faults, somes}
use Rattle.place_set.specs.Places.{Places, has}
use Rattle.fault_runs.specs.Over.{AreOver}
use Rattle.fault_runs.specs.Records.{record_of}
use Rattle.fault_runs.specs.Stretch.{state_at}
use Rattle.fault_runs.proofs.leaving.leave_active.Goals as goal

-- faults and a state of the same names
leaves_there : (x y : List Fault) (s r : Places) (t : ℕ) (Other : Type 0) → y ≡ x → r ≡ s → AreOver y t r ⊎ Other → AreOver x t s ⊎ Other
leaves_there x y s r t Other faults state out = elim out [
  | inl over ↦ inl (subst (λ (fs : List Fault). AreOver fs t s) faults (subst (λ (p : Places). AreOver y t p) state over))
  | inr other ↦ inr other
]

pub faults-preserved : goal.faults-preserved
faults-preserved g c =
    let inv = c.faults.invariant in
    let draw = c.args.draw.now in
    let states = c.args.states.now in
    let i = c.in-Some.i in
    let small : i < length draw = omega (arith, c.in-Some.ensures.1, inv.bound, c.requires.active) in
    let inside : i < length states = omega (arith, small, c.requires.states) in
    let may_leave : ℕ → Type 0 = λ j. g.R.LeavingRule.may_leave c.args.rule.now j c.args.kind c.args.cycles (record_of c.args.records.now j) in
    record {
      bound = c.remove_where.ensures.bound ∙ inv.bound;
      stays = λ j is. inv.stays j (c.remove_where.ensures.stays j is);
      leaves = λ j was off.
          elim (cases_Bool (has c.faults.active j)) [
            | inl is ↦
                (let gone = c.remove_where.ensures.leaves j is off in
                subst (λ k. AreOver (loaded_faults draw k) c.args.cycles (state_at states k) ⊎ may_leave k) (sym gone.1)
                (leaves_there (loaded_faults draw i) _ (state_at states i) _ c.args.cycles (may_leave i) (ap somes (get_or_default draw i _ [] small))
                (c.index-states-i.is ∙ get_or_default states i c.index-states-i.result (state_at [] 0) inside) (c.leaves_now-leaves.ensures gone.0)))
            | inr not ↦ inv.leaves j was not
          ];
    }
