use Rattle.std.proofs.Common.{◌≡◌, ◌+◌, true, false, length, refl, ap, sym, subst, ◌∙◌, arith}
use Rattle.std.proofs.lemmas.List.{length_push}
use Rattle.fm_base.proofs.Tests.{clash}
use Rattle.alarm_points.specs.PointsFile.{observed}
use Rattle.circuit.specs.Circuit.{Circuit}
use Rattle.circuit.specs.Value.{bit_at}
use Rattle.circuit.specs.declared.parts.NetId.{NetId}
use Rattle.reach.specs.Paths.{LeadsToSome}
use Rattle.always_answers.specs.Steps.{net}
use Rattle.always_answers.proofs.Picking.{in_push}
use Rattle.always_answers.proofs.nets.seen_nets.Goals as goal

pub loop-n-preserved : goal.loop-n-preserved
loop-n-preserved c =
    let own = c.args.netlist.now in
    let goals = observed c.args.reach.now.points in
    let before = c.loop-n.seen.items in
    let found = c.can_change.result in
    let items = c.in_ok-push.ensures.items in
    let inv = c.loop-n.invariant in
    let here = subst (λ (each : Circuit). LeadsToSome each (net c.loop-n.n) goals) c.requires in
    let back = subst (λ (each : Circuit). LeadsToSome each (net c.loop-n.n) goals) (sym c.requires) in
    record {
      size = ap length items ∙ length_push before found ∙ ap (λ k. k + 1) inv.size;
      each = λ k lt. subst (λ all. (bit_at all k ≡ true → LeadsToSome own (net k) goals) × (bit_at all k ≡ false → ¬ (LeadsToSome own (net k) goals))) (sym items)
          (in_push (λ j b. (b ≡ true → LeadsToSome own (net j) goals) × (b ≡ false → ¬ (LeadsToSome own (net j) goals))) before found false
          (λ j less. inv.each j (omega (arith, less, inv.size)))
          (subst (λ j. (found ≡ true → LeadsToSome own (net j) goals) × (found ≡ false → ¬ (LeadsToSome own (net j) goals))) (sym inv.size) (
            λ e. (let can = c.can_change.ensures.0 e in here (subst (λ (one : NetId). LeadsToSome c.args.reach.now.circuit one goals) (sym can.1) can.2)),
            λ e leads. clash found (c.can_change.ensures.1 (net c.loop-n.n, refl, back leads)) e,
          ))
          k (omega (arith, lt, inv.size)));
    }
