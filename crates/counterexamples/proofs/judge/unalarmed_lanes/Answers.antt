use Rattle.std.proofs.Common.{inl, inr, ◌+◌, not, sym, ◌∙◌, arith}
use Rattle.fm_base.specs.Planes.{bit}
use Rattle.fm_base.proofs.Tests.{and_both, not_true, or_cases}
use Rattle.counterexamples.specs.Runs.{IsUnalarmed, seen_at}
use Rattle.counterexamples.proofs.judge.unalarmed_lanes.Goals as goal

pub loop-t-preserved : goal.loop-t-preserved
loop-t-preserved c = λ k lane e.
    let t = c.loop-t.t in
    let p = c.args.posed.now in
    let differs = bit (seen_at c.args.seen.now t).differs k in
    let raised = bit (seen_at c.args.seen.now (t + p.window)).raised k in
    elim (or_cases (bit c.loop-t.found k) (bit c.only_first-own.result k) (sym (c.either_lanes-found.ensures k) ∙ e)) as (λ _. IsUnalarmed p c.args.cycles c.args.seen.now k) [
      | inl before ↦ c.loop-t.invariant k lane before
      | inr now ↦ (
          let both = and_both differs (not raised) (sym (c.only_first-own.ensures k lane) ∙ now) in
          record {
            t = t;
            later = c.loop-t.auto.t;
            lasts = omega arith;
            differs = both.0;
            silent = not_true raised both.1;
          })
    ]
