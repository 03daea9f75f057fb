use Rattle.std.proofs.Common.{◌≡◌, ◌+◌, ◌<◌, ◌&&◌, ◌||◌, ℕ, false, List, map, not, ap, ap₂, sym, ◌∙◌, subst, length, arith}
use Rattle.std.specs.List.{All, list_any}
use Rattle.std.proofs.lemmas.Bool.{or_parts}
use Rattle.fm_base.proofs.Tests.{both_false}
use Rattle.circuit.specs.declared.parts.Fault.{Fault}
use Rattle.circuit.specs.declared.parts.NetId.{NetId}
use Rattle.circuit.specs.Sound.{IsNet}
use Rattle.workload.specs.declared.run.Kind.{Kind}
use Rattle.workload.specs.Runs.{is_test}
use Rattle.alarm_points.specs.FourWatches.{windows_at}
use Rattle.alarm_points.specs.Interval.{interval_of}
use Rattle.alarm_points.specs.Watch.{window_at}
use Rattle.campaign_plan.specs.Danger.{golden, is_raised, is_silenced, with_faults}
use Rattle.fm_base.specs.Planes.{bit}
use Rattle.classifier.specs.Noise.{noise_at}
use Rattle.classifier.specs.Seen.{HasSeen, has_left, is_noticed_by, left_at}
use Rattle.classifier.proofs.Leaving.{left_stays, open_stays}
use Rattle.classifier.proofs.Notice.{notice_after, noticed_more}
use Rattle.classifier.proofs.see.see_cycle.Goals as goal
use Rattle.testbench.specs.Points.{goal_at}

pub noise_in-noise-requires : goal.noise_in-noise-requires
noise_in-noise-requires g c =
    subst (λ (ns : List NetId). All (IsNet (g.F.Followed.in_run c.args.lanes.now).load.circuit) ns) (sym c.as_slice.ensures) c.requires.points.alarm

pub returns-clause-seen : goal.returns-clause-seen
returns-clause-seen g c = λ run faults known word t at less watched.
    let lanes = g.F.Followed.in_run c.args.lanes.now in
    let net = lanes.load.circuit in
    let points = c.args.points.now in
    let old = left_at c.args.left.now word in
    let ftti = (windows_at c.args.windows.now word).ftti in
    let new = windows_at c.see_goals.new.windows word in
    let found = noise_at c.noise_in-noise.result word in
    let alarms : c.as_slice.result.now ≡ points.alarm = c.as_slice.ensures in
    let keeps = c.see_goals.ensures.keeps word in
    let same : new.ftti ≡ ftti = keeps.ftti in
    let in_force = lanes.faults word in
    let heard = c.noise_in-noise.ensures run t word at.within at.after at.golden less in
    let has : word < length c.args.left.now = omega (arith, less, c.requires.counts.1) in
    let seen = watched.seen in
    let raised_bit : (k : ℕ) → k < 64 → bit found.raised k ≡ is_raised net points (in_force k) run t =
    λ k lane. heard.raised k lane ∙ ap (λ (nets : List NetId). list_any (λ (n : NetId). with_faults net (in_force k) run t n && not (golden net run t n)) nets) alarms in
    let silenced_bit : (k : ℕ) → k < 64 → bit found.silenced k ≡ is_silenced net points (in_force k) run t =
    λ k lane. heard.silenced k lane ∙ ap (λ (nets : List NetId). list_any (λ (n : NetId). not (with_faults net (in_force k) run t n) && golden net run t n) nets) alarms in
    let own : (k : ℕ) → k < 64 → has_left net points ftti (bit known k) (faults k) run t ≡ false
    → (bit found.raised k || (is_test c.args.kind && bit found.silenced k)) ≡ (is_raised net points (faults k) run t || (is_test run.kind && is_silenced net points (faults k) run t)) =
    λ k lane stays.
    ap₂ (λ a b. a || b) (raised_bit k lane ∙ ap (λ (fs : List Fault). is_raised net points fs run t) (watched.followed.follow k lane stays))
    (ap₂ (λ (kd : Kind) b. is_test kd && b) (sym at.of_kind) (silenced_bit k lane ∙ ap (λ (fs : List Fault). is_silenced net points fs run t) (watched.followed.follow k lane stays))) in
    let more = λ (k : ℕ). bit found.raised k || (is_test c.args.kind && bit found.silenced k) in
    record {
      made =
          keeps.intervals ∙ seen.made
          ∙ ap (λ f. map (interval_of f) points.goals) (sym same);
      seen = λ h lt.
          subst (λ f. HasSeen net points f run faults known (goal_at points.goals h) (t + 1) (window_at new h)) (sym same)
          (c.see_goals.ensures.step run faults known word t old at.within at.after less raised_bit watched h lt);
      noticed_is = λ k lane free.
          c.notice.ensures word k has
          ∙ notice_after net points (faults k) run t (bit old k) (more k) (seen.noticed_is k lane free)
          (λ none. own k lane (open_stays net points ftti (bit known k) (faults k) run t free none));
      stays = λ k lane stays.
          let here : has_left net points ftti (bit known k) (faults k) run (t + 1) ≡ false =
          sym (ap (λ f. has_left net points f (bit known k) (faults k) run (t + 1)) same) ∙ stays in
          let before : has_left net points ftti (bit known k) (faults k) run t ≡ false = left_stays net points ftti (bit known k) (faults k) run t here in
          let none : is_noticed_by net points (faults k) run (t + 1) ≡ false = (or_parts _ _ here).0 in
          c.notice.ensures word k has
          ∙ both_false (bit old k) (more k) (seen.stays k lane before)
          (own k lane before ∙ (or_parts _ _ (sym (noticed_more net points (faults k) run t) ∙ none)).1);
    }
