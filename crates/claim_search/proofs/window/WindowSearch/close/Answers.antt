use Rattle.std.proofs.Common.{refl, sym, subst, arith}
use Rattle.claim_search.proofs.Looking.{at_most_four}
use Rattle.claim_search.specs.Question.{with_pairs}
use Rattle.claim_search.specs.Window.{WindowsGoOn, starts_of}
use Rattle.claim_search.proofs.window.WindowSearch.close.Goals as goal

pub looks-smaller : goal.looks-smaller
looks-smaller c =
    let most = at_most_four c.look.new.starts in
    let more = c.in-Grown.ensures.grown refl in
    omega (arith, most, more, c.look.auto.starts)

pub looks-preserved : goal.looks-preserved
looks-preserved c = record {
  over = c.in-Grown.ensures.over;
  kept = λ l a b e. c.in-Grown.ensures.kept l a b (c.looks.invariant.kept l a b e);
  least = λ claim asked allows proof. c.in-Grown.ensures.shown claim asked (c.looks.invariant.least claim asked allows proof) proof;
}

pub returns-in-Open-clause-open : goal.returns-in-Open-clause-open
returns-in-Open-clause-open c = λ _ claim asked allows proof. c.in-Open.ensures.shown claim asked (c.looks.invariant.least claim asked allows proof) proof

pub returns-in-Closed-clause-proved : goal.returns-in-Closed-clause-proved
returns-in-Closed-clause-proved c = λ _ claim asked.
    subst (λ starts. WindowsGoOn (with_pairs claim (starts_of c.args.searched.now.netlist.now starts))) (sym (c.in-Closed.ensures.closed refl)) (c.in-Closed.ensures.shown claim asked)
