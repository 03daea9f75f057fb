use Rattle.std.proofs.Common.{◌≡◌, ◌≢◌, ◌<◌, ◌++◌, ◌∷◌, ℕ, [], length, ap, sym, ◌∙◌, subst, arith, get_or-set_other}
use Rattle.std.proofs.lemmas.List.{get_or_default}
use Rattle.alarm_points.specs.Watch.{Watches}
use Rattle.campaign_plan.specs.declared.Outcome.{Outcome}
use Rattle.campaign_plan.specs.Danger.{is_dangerous_in}
use Rattle.testbench.specs.Load.{in_lane, lane_faults}
use Rattle.classifier.specs.Planes.{HasPlanes, outcome_at}
use Rattle.alarm_points.specs.FourWatches.{windows_at}
use Rattle.classifier.specs.Seen.{HaveSeenRun, known_at, left_at}
use Rattle.classifier.specs.OutOfReach.{IsDecidedBy, decided_at, reach_at}
use Rattle.classifier.proofs.EachWord.{each_set_one}
use Rattle.classifier.proofs.RunByRun.{planes_more}
use Rattle.classifier.proofs.outcome.add_run.Goals as goal

pub loop-word-preserved : goal.loop-word-preserved
loop-word-preserved c =
    let i = c.loop-word.word in
    let outcomes = c.loop-word.outcomes in
    let ws = c.args.windows.now in
    let inv = c.loop-word.invariant in
    let decided = c.args.decided.now in
    let own = c.run_outcome-own in
    let new = c.either.result in
    let none : Outcome = outcome_at [] 0 in
    let inside : i < length outcomes = omega (arith, c.loop-word-test.true, c.loop-word.auto.outcomes) in
    let within : i < length ws = omega (arith, c.loop-word-test.true, c.requires.counts.0) in
    let same : windows_at ws i ≡ c.index-windows-word.result =
    sym (c.index-windows-word.is ∙ get_or_default ws i c.index-windows-word.result (windows_at [] 0) within) in
    record {
      done = λ circuit points runs run load reach kind beyond is has planes word lt.
          let more = λ (j : ℕ) (o : Outcome). HasPlanes circuit points (windows_at ws j).ftti (runs ++ run ∷ []) (lane_faults load j) o in
          let before = λ (j : ℕ) (o : Outcome). HasPlanes circuit points (windows_at ws j).ftti runs (lane_faults load j) o in
          let here : i < length c.args.outcomes.now = omega (arith, inside, c.loop-word.auto.outcomes) in
          let followed = in_lane has.faults i in
          let sees : HaveSeenRun circuit points run followed (known_at decided i) c.index-windows-word.result (left_at c.args.left.now i) =
          subst (λ (w : Watches). HaveSeenRun circuit points run followed (known_at decided i) w (left_at c.args.left.now i)) same (has.seen i within) in
          each_set_one more outcomes i new none inside
          (planes_more circuit points (windows_at ws i).ftti runs run (lane_faults load i) followed (outcome_at outcomes i) own.result new (reach_at reach i) (decided_at decided i)
          (subst (before i) (sym (inv.left i (omega arith))) (planes i here))
          (beyond i here)
          (subst (λ (o : Outcome). IsDecidedBy o (reach_at reach i) (decided_at decided i)) (sym (inv.left i (omega arith))) (is i here))
          (λ k lane. has.begin i k here lane)
          (λ k lane.
          own.ensures.danger circuit points run followed k kind sees lane
          ∙ ap (λ (w : Watches). is_dangerous_in circuit points w.ftti (followed k) run) (sym same))
          (λ k lane free. own.ensures.noticed circuit points run followed k kind sees lane free)
          (λ k lane known. own.ensures.known k lane known)
          c.either.ensures.danger c.either.ensures.noticed (omega (arith, c.either.type_inv), omega (arith, c.either.type_inv)))
          word
          (λ apart. let early : word < i = omega (arith, apart, lt) in inv.done circuit points runs run load reach kind beyond is has planes word early);
      left = λ word le.
          let apart : word ≢ i = omega (arith, le) in
          get_or-set_other outcomes i word new none apart ∙ inv.left word (omega (arith, le));
    }

pub returns : goal.returns
returns c = λ circuit points runs run load reach kind beyond is has planes word lt.
    let done : word < c.loop-word.word = omega (arith, lt, c.loop-word-test.false) in
    c.loop-word.invariant.done circuit points runs run load reach kind beyond is has planes word done
