use Rattle.std.proofs.Common.{◌≡◌, ◌≢◌, ◌<◌, ◌&&◌, ℕ, Bool, List, [], length, get_or, refl, ap, ap₂, sym, ◌∙◌, subst, not, arith, get_or-set_other, length-set}
use Rattle.std.proofs.lemmas.List.{get_or_default}
use Rattle.circuit.specs.declared.parts.Fault.{Fault}
use Rattle.circuit.specs.declared.parts.NetId.{NetId}
use Rattle.campaign_plan.specs.Danger.{golden, with_faults}
use Rattle.lane_words.specs.Loads.{loaded_faults}
use Rattle.first_cycles.specs.FirstCycles.{first_with, is_raised_at}
use Rattle.first_cycles.specs.Shown.{is_silenced_at}
use Rattle.fault_runs.specs.declared.record.AlarmCycles.{AlarmCycles}
use Rattle.fault_runs.specs.First.{fault_in, first_of}
use Rattle.fault_runs.specs.Records.{IsAlarmKnown, alarm_cycles}
use Rattle.fault_runs.proofs.EachItem.{each_set}
use Rattle.fault_runs.proofs.PointBits.{raised_where, silenced_where}
use Rattle.fault_runs.proofs.see.see_alarms.Goals as goal
use Rattle.testbench.specs.Points.{alarm_at}

pub loop-a-init : goal.loop-a-init
loop-a-init o c = record {
  count = c.requires.count;
  raised_places = λ b. refl;
  silenced_places = λ b. refl;
  known = c.requires.known;
  raised = λ run draw b k less. absurd (omega (arith, less));
  silenced = λ run draw b k less. absurd (omega (arith, less));
  raised_others = λ b i outside. refl;
  silenced_others = λ b i outside. refl;
  left = λ b le. refl;
}

pub see-requires-clause-raised : goal.see-requires-clause-raised
see-requires-clause-raised o c = λ k d lt.
    let i = c.loop-a.a in
    let inv = c.loop-a.invariant in
    let alarms = c.loop-a.alarms in
    let inside : i < length alarms = omega (arith, inv.count, c.loop-a-test.true) in
    subst (λ (f : AlarmCycles). get_or c.args.group.now k d < length f.raised.cycles)
    (sym (get_or_default alarms i _ (alarm_cycles [] 0) inside ∙ inv.left i (omega arith)))
    (c.requires.raised i c.loop-a-test.true k d lt)

pub see-requires-clause-silenced : goal.see-requires-clause-silenced
see-requires-clause-silenced o c = λ k d lt.
    let i = c.loop-a.a in
    let inv = c.loop-a.invariant in
    let alarms = c.loop-a.alarms in
    let inside : i < length alarms = omega (arith, inv.count, c.loop-a-test.true) in
    subst (λ (f : AlarmCycles). get_or c.args.group.now k d < length f.silenced.cycles)
    (sym (get_or_default alarms i _ (alarm_cycles [] 0) inside ∙ inv.left i (omega arith)))
    (c.requires.silenced i c.loop-a-test.true k d lt)

pub see-requires-clause-known : goal.see-requires-clause-known
see-requires-clause-known o c =
    let i = c.loop-a.a in
    let inv = c.loop-a.invariant in
    let alarms = c.loop-a.alarms in
    let inside : i < length alarms = omega (arith, inv.count, c.loop-a-test.true) in
    subst (λ (f : AlarmCycles). IsAlarmKnown c.args.group.now f) (sym (get_or_default alarms i _ (alarm_cycles [] 0) inside)) (inv.known i c.loop-a-test.true)

pub loop-a-preserved : goal.loop-a-preserved
loop-a-preserved o c =
    let nets = c.args.nets.now in
    let group = c.args.group.now in
    let i = c.loop-a.a in
    let t = c.args.t in
    let inv = c.loop-a.invariant in
    let alarms = c.loop-a.alarms in
    let was = c.args.alarms.now in
    let new : AlarmCycles = c.see.new.self in
    let none : AlarmCycles = alarm_cycles [] 0 in
    let zero_net : NetId = record { 0 = 0 } in
    let net : NetId = get_or nets i zero_net in
    let circuit = c.args.lanes.now.circuit in
    let force = c.args.lanes.now.in_force in
    let within : i < length nets = c.loop-a-test.true in
    let inside : i < length alarms = omega (arith, inv.count, c.loop-a-test.true) in
    record {
      count = length-set alarms i new ∙ inv.count;
      raised_places = λ b.
          each_set (λ (j : ℕ) (f : AlarmCycles). length f.raised.cycles ≡ length (alarm_cycles was j).raised.cycles) alarms i new none inside
          (c.see.ensures.raised_count ∙ ap (λ (f : AlarmCycles). length f.raised.cycles) (get_or_default alarms i _ none inside) ∙ inv.raised_places i) b (λ apart. inv.raised_places b);
      silenced_places = λ b.
          each_set (λ (j : ℕ) (f : AlarmCycles). length f.silenced.cycles ≡ length (alarm_cycles was j).silenced.cycles) alarms i new none inside
          (c.see.ensures.silenced_count ∙ ap (λ (f : AlarmCycles). length f.silenced.cycles) (get_or_default alarms i _ none inside) ∙ inv.silenced_places i) b (λ apart. inv.silenced_places b);
      known = λ b lt. each_set (λ (j : ℕ) (f : AlarmCycles). IsAlarmKnown group f) alarms i new none inside c.see.ensures.known b (λ apart. inv.known b lt);
      raised = λ run draw b k less after in_group.
          let seen : ℕ → ℕ → Bool = λ j m. is_raised_at circuit (loaded_faults draw m) run (alarm_at nets j) t in
          each_set (λ (j : ℕ) (f : AlarmCycles). first_of f.raised (fault_in group k) ≡ first_with (first_of (alarm_cycles was j).raised (fault_in group k)) (seen j (fault_in group k)) t) alarms i new none inside
          (c.see.ensures.raised (seen i)
          (λ m in_it.
          ap₂ (λ d o. d && not o) (c.difference_at-differs.ensures run t m after.within after.beside (omega (arith, in_it, c.requires.few)) (c.requires.nets i zero_net within))
          (c.value_in_words-golden.ensures ∙ after.golden net.0 (c.requires.nets i zero_net within))
          ∙ raised_where (with_faults circuit (loaded_faults force m) run t net) (golden circuit run t net)
          ∙ ap (λ (x : List Fault). is_raised_at circuit x run net t) (after.in_force m in_it))
          k in_group
          ∙ ap (λ (f : AlarmCycles). first_with (first_of f.raised (fault_in group k)) (seen i (fault_in group k)) t) (get_or_default alarms i _ none inside ∙ inv.left i (omega arith)))
          b (λ apart. let before : b < i = omega (arith, less, apart) in inv.raised run draw b k before after in_group);
      silenced = λ run draw b k less after in_group.
          let seen : ℕ → ℕ → Bool = λ j m. is_silenced_at circuit (loaded_faults draw m) run (alarm_at nets j) t in
          each_set (λ (j : ℕ) (f : AlarmCycles). first_of f.silenced (fault_in group k) ≡ first_with (first_of (alarm_cycles was j).silenced (fault_in group k)) (seen j (fault_in group k)) t) alarms i new none inside
          (c.see.ensures.silenced (seen i)
          (λ m in_it.
          ap₂ (λ d o. d && o) (c.difference_at-differs.ensures run t m after.within after.beside (omega (arith, in_it, c.requires.few)) (c.requires.nets i zero_net within))
          (c.value_in_words-golden.ensures ∙ after.golden net.0 (c.requires.nets i zero_net within))
          ∙ silenced_where (with_faults circuit (loaded_faults force m) run t net) (golden circuit run t net)
          ∙ ap (λ (x : List Fault). is_silenced_at circuit x run net t) (after.in_force m in_it))
          k in_group
          ∙ ap (λ (f : AlarmCycles). first_with (first_of f.silenced (fault_in group k)) (seen i (fault_in group k)) t) (get_or_default alarms i _ none inside ∙ inv.left i (omega arith)))
          b (λ apart. let before : b < i = omega (arith, less, apart) in inv.silenced run draw b k before after in_group);
      raised_others = λ b m outside.
          each_set (λ (j : ℕ) (f : AlarmCycles). first_of f.raised m ≡ first_of (alarm_cycles was j).raised m) alarms i new none inside
          (c.see.ensures.raised_others m outside ∙ ap (λ (f : AlarmCycles). first_of f.raised m) (get_or_default alarms i _ none inside) ∙ inv.raised_others i m outside)
          b (λ apart. inv.raised_others b m outside);
      silenced_others = λ b m outside.
          each_set (λ (j : ℕ) (f : AlarmCycles). first_of f.silenced m ≡ first_of (alarm_cycles was j).silenced m) alarms i new none inside
          (c.see.ensures.silenced_others m outside ∙ ap (λ (f : AlarmCycles). first_of f.silenced m) (get_or_default alarms i _ none inside) ∙ inv.silenced_others i m outside)
          b (λ apart. inv.silenced_others b m outside);
      left = λ b le.
          let other : b ≢ i = omega (arith, le) in
          get_or-set_other alarms i b new none other ∙ inv.left b (omega (arith, le));
    }
