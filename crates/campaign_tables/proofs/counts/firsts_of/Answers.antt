use Rattle.std.proofs.Common.{◌≡◌, ◌<◌, ◌+◌, ◌∙◌, ap, sym, subst, set, Vec, Global, ℕ, arith}
use Rattle.std.specs.Prelude.{Option, Some, None, unwrap_or}
use Rattle.std.proofs.lemmas.Grind.{common_steps}
use Rattle.campaign_tables.specs.Counted.{row_in_list, AreFirsts}
use Rattle.campaign_tables.proofs.Counting.{no_firsts, none_noted, one_noted, row_below}
use Rattle.campaign_tables.proofs.counts.firsts_of.Goals as goal
use Rattle.campaign_tables.proofs.counts.firsts_of.Goals.{in-Some, in_default}

pub loop-i-init : goal.loop-i-init
loop-i-init c = no_firsts c.args.n c.args.rows.now c.in_ok-firsts.firsts.items (grind (arith, common_steps)) (λ k lt. grind (arith, common_steps))

pub loop-i-preserved : goal.loop-i-preserved
loop-i-preserved c =
    let i = c.loop-i.i in
    let n = c.args.n in
    let rows = c.args.rows.now in
    let lt = c.loop-i-test.true in
    elim c.match-row.branch [
      | in-Some w ↦ (
          let k = w.in-Some.k in
          let here : row_in_list rows i ≡ Some k = w.in-Some.is in
          let within : k < n = row_below n rows i k c.requires.below lt here in
          let noted = w.note_first.ensures ∙ ap (λ fs. set fs k (Some (unwrap_or (row_in_list fs k) i))) w.deref_mut.ensures.value in
          let items : c.match-row.firsts.items ≡ w.note_first.new.firsts = grind (arith, common_steps) in
          subst (AreFirsts n (i + 1) rows) (sym (items ∙ noted)) (one_noted n rows i k c.loop-i.firsts.items c.loop-i.invariant here within))
      | in_default w ↦ (
          let here : row_in_list rows i ≡ None = w.in_default.is in
          subst (λ (v : Vec (Option ℕ) Global). AreFirsts n (i + 1) rows v.items) (sym w.firsts-is)
          (none_noted n rows i c.loop-i.firsts.items c.loop-i.invariant here))
    ]
