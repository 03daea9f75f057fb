use Rattle.std.proofs.Common.{◌≡◌, ◌<◌, ◌≤◌, ◌+◌, ◌∙◌, sym, subst, take, set, get_or, Vec, Global, ℕ, arith}
use Rattle.std.specs.Prelude.{Some, None}
use Rattle.std.proofs.lemmas.List.{get_or_default}
use Rattle.campaign_tables.specs.Counted.{row_in_list, AreRowCounts}
use Rattle.campaign_tables.proofs.Counting.{counted_few, none_counted, one_counted, row_below}
use Rattle.campaign_tables.proofs.counts.counts_of.Goals as goal
use Rattle.campaign_tables.proofs.counts.counts_of.Goals.{in-Some, in_default}

pub overflow_add-index_mut : goal.overflow_add-index_mut
overflow_add-index_mut c =
    let i = c.loop-row.row-index in
    let k = c.in-Some.k in
    let here : row_in_list c.args.rows.now i ≡ Some k = c.in-Some.is in
    let within : k < c.args.n = row_below c.args.n c.args.rows.now i k c.requires.below c.loop-row-test.true here in
    let few : get_or c.loop-row.counts.items k 0 ≤ i = counted_few c.args.n c.args.rows.now i k c.loop-row.counts.items c.loop-row.invariant within in
    let same : c.index_mut.result.now ≡ get_or c.loop-row.counts.items k 0 =
    c.index_mut.ensures.value ∙ get_or_default c.loop-row.counts.items k c.index_mut.result.now 0 (omega (arith, within, c.loop-row.invariant.size)) in
    omega (arith, few, same, c.loop-row-test.true, c.requires.few)

pub loop-row-preserved : goal.loop-row-preserved
loop-row-preserved c =
    let i = c.loop-row.row-index in
    let n = c.args.n in
    let rows = c.args.rows.now in
    let lt = c.loop-row-test.true in
    elim c.match-row.branch [
      | in-Some w ↦ (
          let k = w.in-Some.k in
          let here : row_in_list rows i ≡ Some k = w.in-Some.is in
          let within : k < n = row_below n rows i k c.requires.below lt here in
          let same : w.index_mut.result.now ≡ get_or c.loop-row.counts.items k 0 =
          w.index_mut.ensures.value ∙ get_or_default c.loop-row.counts.items k w.index_mut.result.now 0 (omega (arith, within, c.loop-row.invariant.size)) in
          subst (λ (v : Vec ℕ Global). AreRowCounts n (take (i + 1) rows) v.items) (sym w.counts-is)
          (subst (λ m. AreRowCounts n (take (i + 1) rows) (set c.loop-row.counts.items k (m + 1))) (sym same)
          (one_counted n rows i k c.loop-row.counts.items c.loop-row.invariant lt here within)))
      | in_default w ↦ (
          let here : row_in_list rows i ≡ None = w.in_default.is in
          subst (λ (v : Vec ℕ Global). AreRowCounts n (take (i + 1) rows) v.items) (sym w.counts-is)
          (none_counted n rows i c.loop-row.counts.items c.loop-row.invariant lt here))
    ]
