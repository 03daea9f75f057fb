use Rattle.std.proofs.Common.{◌≡◌, ◌+◌, ◌++◌, ◌∷◌, [], take, sym, ◌∙◌, arith}
use Rattle.std.proofs.lemmas.Grind.{common_steps}
use Rattle.blif_hierarchy.proofs.Bindings.{formals_at, twice_more}
use Rattle.blif_hierarchy.proofs.ports.bound_names.Goals as goal

pub loop-binding-preserved : goal.loop-binding-preserved
loop-binding-preserved c =
    let tokens = c.args.bindings.now in
    let i = c.loop-binding.binding-index in
    let formal = c.formal_of.result.now in
    let more : formals_at (take (i + 1) tokens) ≡ formals_at (take i tokens) ++ formal ∷ [] = grind (arith, common_steps) in
    let so_far = c.loop-binding.invariant in
    record {
      formals = grind (arith, common_steps);
      twice = rw more (c.in_ok-add_bound.ensures.twice
          ∙ rw (so_far.formals, so_far.twice) (sym (twice_more (formals_at (take i tokens)) formal)));
    }
