use Rattle.std.proofs.Common.{◌≡◌, ◌≤◌, ℕ, sym, subst, arith}
use Rattle.coverage_claim.specs.Stretch.{Stretch}
use Rattle.coverage_claim.specs.declared.parts.Site.{Site}
use Rattle.pair_sets.proofs.Nets.{sound}
use Rattle.pair_sets.specs.Choice.{IsLeft}
use Rattle.pair_sets.specs.Tables.{IsLeftOf, IsTruth}
use Rattle.region_search.proofs.Tables.{table_settled}
use Rattle.region_search.specs.Going.{sets_of}
use Rattle.region_search.proofs.search.Search.narrow_table.Goals as goal

left_of : (c : goal.After-narrow) (s : Stretch) (k : ℕ) → c.args.frame ≤ s.last → s.region c.args.own.0 ≡ c.args.rule.site → IsTruth s.circuit k c.args.own c.args.reads.now c.args.rule.truth
    → IsLeftOf s (sets_of c.args.self.now.sets) c.args.frame k c.args.own c.args.reads.now c.args.rule.truth c.narrow-own_left.new.reads c.narrow-own_left.result
left_of c s k within region truth = record {
  sets = c.gather.new.into;
  own_set = c.get.result;
  within = within;
  is_truth = truth;
  are = c.gather.ensures;
  own_is = c.get.ensures;
  is_left = subst (λ (site : Site). IsLeft c.args.rule.truth site c.gather.new.into c.get.result c.narrow-own_left.new.reads c.narrow-own_left.result) (sym region) c.narrow-own_left.ensures.left;
}

pub returns-clause-settled : goal.returns-clause-settled
returns-clause-settled c = λ s k within region truth.
    table_settled s (sets_of c.args.self.now.sets) (sets_of c.narrow_all.new.self.sets) (sets_of c.narrow.new.self.sets) c.args.frame k c.args.own c.args.reads.now c.args.rule.truth
    c.narrow-own_left.new.reads c.narrow-own_left.result (left_of c s k within region truth) c.narrow_all.ensures.sets c.narrow.ensures.sets

pub returns-clause-goes_on : goal.returns-clause-goes_on
returns-clause-goes_on c = λ s bounds k region truth goes.
    let within : c.args.frame ≤ s.last = omega (arith, goes.frames, c.requires.frame) in
    let takes = sound s (sets_of c.args.self.now.sets) c.args.frame k c.args.own c.args.reads.now c.args.rule.truth c.narrow-own_left.new.reads c.narrow-own_left.result (left_of c s k within region truth) in
    c.narrow.ensures.goes_on s bounds (sets_of c.args.self.now.sets)
    (c.narrow_all.ensures.goes_on s bounds (sets_of c.args.self.now.sets) goes (λ i lt a b none. takes.from_read i lt a b none))
    (λ a b had none. takes.from_own a b none)
