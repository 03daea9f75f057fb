use Rattle.std.proofs.Common.{ℕ, Vec, Global, rules}
use Rattle.std.proofs.lemmas.Result.{IfOk-weaker}
use Rattle.blif_hierarchy.specs.Callees.{AllCallees}
use Rattle.blif_hierarchy.proofs.Sums.{sums_are}
use Rattle.blif_hierarchy.proofs.graph.ModelGraph.capped_totals.Goals as goal

pub returns : goal.returns
returns c =
    let models = c.args.self.now in
    let callees = c.as_slice.result.now in
    let all : AllCallees models models callees = search rules in
    IfOk-weaker _ _ _ (λ (v : Vec ℕ Global). sums_are models callees all c.args.own.now c.args.cap 32 v.items) c.after_rounds.ensures
