use Rattle.std.proofs.Common.{inl, inr, refl, ap, sym, ◌∙◌}
use Rattle.classifier.specs.OutOfReach.{decided_at}
use Rattle.classifier.specs.Seen.{Begins, is_decided}
use Rattle.classifier.proofs.Stretches.{place_kept, place_same}
use Rattle.classifier.proofs.run.drop_decided.Goals as goal

pub loop-word-init : goal.loop-word-init
loop-word-init g c = record { place = place_same (g.F.Followed.in_run c.args.lanes.now); begin = λ word k lt lane. inl refl }

pub loop-word-preserved : goal.loop-word-preserved
loop-word-preserved g c =
    let inv = c.loop-word.invariant in
    let dropped = c.drop_more.ensures in
    let decided = c.args.decided.now in
    let old = g.F.Followed.in_run c.args.lanes.now in
    let held = g.F.Followed.in_run c.loop-word.lanes in
    let new = g.F.Followed.in_run c.drop_more.new.lanes in
    record {
      place = place_kept old held new inv.place dropped.place;
      begin = λ word k lt lane.
          elim (dropped.dropped word k lt lane) as (λ _. Begins c.args.kind (decided_at decided word) k (old.faults word k) (new.faults word k)) [
            | inl same ↦
                elim (inv.begin word k lt lane) [
                  | inl before ↦ inl (same ∙ before)
                  | inr out ↦ inr (out.0, same ∙ out.1)
                ]
            | inr out ↦ inr (ap (λ j. is_decided c.args.kind (decided_at decided j) k) out.0 ∙ sym (c.left_out-out.ensures k) ∙ out.1, out.2)
          ];
    }
