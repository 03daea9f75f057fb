use Rattle.std.proofs.Common.{◌≡◌, ℕ, Bool, false, List, [], ◌∷◌, ◌++◌, inl, inr, length, ap, ◌∙◌, arith}
use Rattle.std.proofs.lemmas.Bool.{cases_lt}
use Rattle.std.proofs.lemmas.List.{get_or_append_left, get_or_push, length_push}
use Rattle.circuit.specs.Value.{bit_at}
use Rattle.campaign_plan.specs.Analysis.{fault_numbered}
use Rattle.coverage.specs.Evidence.{may_reach}
use Rattle.metric_coverage.specs.Paths.{with_points}
use Rattle.metric_coverage.proofs.paths.path_list.Goals as goal

pub loop-i-preserved : goal.loop-i-preserved
loop-i-preserved c =
    let inv = c.loop-i.invariant in
    let now = c.in_ok-push.ensures.items in
    let old : List Bool = c.loop-i.list.items in
    let new : Bool = c.has_path.result in
    let told : ℕ → Bool = λ m. may_reach (with_points c.args.plan.now c.args.reach.now.points) (fault_numbered c.args.plan.now m) in
    record {
      count = ap length now ∙ length_push old new ∙ omega (arith, inv.count);
      each = λ m lt.
          ap (λ (bits : List Bool). bit_at bits m) now
          ∙ elim (cases_lt m (length old)) as (λ _. bit_at (old ++ new ∷ []) m ≡ told m) [
            | inl less ↦ get_or_append_left old (new ∷ []) false m less ∙ inv.each m (omega (arith, less, inv.count))
            | inr most ↦
                let here : c.loop-i.i ≡ m = omega (arith, lt, most, inv.count) in
                get_or_push old new false m (omega (arith, here, inv.count)) ∙ c.has_path.ensures ∙ ap told here
          ];
    }
