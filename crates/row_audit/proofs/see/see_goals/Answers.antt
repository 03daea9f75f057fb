use Rattle.std.proofs.Common.{◌≡◌, ◌≢◌, ◌+◌, ℕ, List, ap, sym, ◌∙◌, subst, below_more, not, arith}
use Rattle.std.specs.List.{All, list_any}
use Rattle.std.proofs.lemmas.List.{get_or_default}
use Rattle.circuit.specs.declared.parts.NetId.{NetId}
use Rattle.circuit.specs.Sound.{IsNet}
use Rattle.alarm_points.specs.declared.Goal.{Goal}
use Rattle.alarm_points.specs.Watch.{window_at}
use Rattle.campaign_plan.specs.Danger.{golden, with_faults}
use Rattle.fm_base.specs.Lists.{same_bit}
use Rattle.classifier.proofs.WindowCounts.{same_count}
use Rattle.row_audit.specs.Watched.{HasWatched}
use Rattle.row_audit.proofs.Views.{sees_more}
use Rattle.row_audit.proofs.see.see_goals.Goals as goal
use Rattle.testbench.specs.Points.{goal_at}

pub differing-differs-requires-clause-nets : goal.differing-differs-requires-clause-nets
differing-differs-requires-clause-nets o c =
    let goals = c.args.goals.now in
    let g = c.loop-g.g in
    let own = c.index-goals-g.result in
    let nets : c.as_slice.result.now ≡ (goal_at goals g).observe =
    c.as_slice.ensures ∙ ap (λ (o : Goal). o.observe) (c.index-goals-g.is ∙ get_or_default goals g own _ c.loop-g-test.true) in
    subst (λ (ns : List NetId). All (IsNet (o.B.Circuits.loaded c.args.circuits.now).circuit) ns) (sym nets) (c.requires.nets g c.loop-g-test.true)

pub loop-g-preserved : goal.loop-g-preserved
loop-g-preserved o c =
    let goals = c.args.goals.now in
    let g = c.loop-g.g in
    let own = c.index-goals-g.result in
    let inv = c.loop-g.invariant in
    let new = c.see.new.self in
    let net = (o.B.Circuits.loaded c.args.circuits.now).circuit in
    let faults = (o.B.Circuits.loaded c.args.circuits.now).faults c.args.word in
    let nets : c.as_slice.result.now ≡ (goal_at goals g).observe =
    c.as_slice.ensures ∙ ap (λ (o : Goal). o.observe) (c.index-goals-g.is ∙ get_or_default goals g own _ c.loop-g-test.true) in
    record {
      keeps = record {
        ftti = c.see.ensures.keeps.ftti ∙ inv.keeps.ftti;
        intervals = c.see.ensures.keeps.intervals ∙ inv.keeps.intervals;
      };
      count = same_count c.loop-g.windows new c.see.ensures.keeps ∙ inv.count;
      done = λ points run t h within lt at loud seen.
          below_more (λ (m : ℕ).
          HasWatched net points run faults (goal_at goals m) t (window_at c.args.windows.now m)
          → HasWatched net points run faults (goal_at goals m) (t + 1) (window_at new m)) g
          (λ m early before.
          let other : m ≢ g = omega (arith, early) in
          subst (HasWatched net points run faults (goal_at goals m) (t + 1)) (sym (c.see.ensures.others m other)) (inv.done points run t m within early at loud before))
          (λ before.
          sees_more net points run faults (goal_at goals g) t (window_at c.loop-g.windows g) (window_at new g) c.differing-differs.result c.args.raised
          (subst (HasWatched net points run faults (goal_at goals g) t) (sym (inv.left g (omega arith))) before)
          (λ k lane.
          c.differing-differs.ensures run t k within at lane
          ∙ ap (λ (ns : List NetId). list_any (λ (n : NetId). not (same_bit (with_faults net (faults k) run t n) (golden net run t n))) ns) nets)
          loud
          c.see.ensures.step)
          h lt seen;
      left = λ h le.
          let other : h ≢ g = omega (arith, le) in
          c.see.ensures.others h other ∙ inv.left h (omega (arith, le));
    }
