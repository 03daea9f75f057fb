use Rattle.std.proofs.Common.{◌≡◌, List, [], ◌∷◌, ◌++◌, inl, inr, length, ap, sym, subst, ◌∙◌, arith}
use Rattle.std.proofs.lemmas.Bool.{cases_lt}
use Rattle.std.proofs.lemmas.List.{get_or_append_left, get_or_push, length_push}
use Rattle.campaign_plan.specs.declared.Outcome.{Outcome}
use Rattle.reading_planes.specs.Folded.{reading_at}
use Rattle.reading_planes.specs.Readings.{plan_by}
use Rattle.metric_coverage.specs.Planes.{IsPlaneTable, table_at}
use Rattle.metric_coverage.proofs.planes.tables_of.Goals as goal

pub loop-reading-preserved : goal.loop-reading-preserved
loop-reading-preserved c =
    let p = c.args.plan.now in
    let readings = c.args.readings.now in
    let inv = c.loop-reading.invariant in
    let now = c.in_ok-push.ensures.items in
    let old : List (List Outcome) = c.loop-reading.tables.items in
    let table : List Outcome = c.in_ok-table_of.field-0 in
    record {
      count = ap length now ∙ length_push old table ∙ omega (arith, inv.count);
      each = λ r lt.
          subst (λ (ts : List (List Outcome)). IsPlaneTable (plan_by p (reading_at readings r)) (table_at ts r)) (sym now)
          (elim (cases_lt r (length old)) as (λ _. IsPlaneTable (plan_by p (reading_at readings r)) (table_at (old ++ table ∷ []) r)) [
            | inl less ↦ subst (IsPlaneTable (plan_by p (reading_at readings r))) (sym (get_or_append_left old (table ∷ []) [] r less)) (inv.each r (omega (arith, less, inv.count)))
            | inr most ↦
                let same : r ≡ length old = omega (arith, lt, most, inv.count) in
                let here : c.loop-reading.reading ≡ r = omega (arith, same, inv.count) in
                subst (IsPlaneTable (plan_by p (reading_at readings r))) (sym (get_or_push old table [] r (sym same)))
                (subst (λ m. IsPlaneTable (plan_by p (reading_at readings m)) table) here c.in_ok-table_of.ensures)
          ]);
    }
