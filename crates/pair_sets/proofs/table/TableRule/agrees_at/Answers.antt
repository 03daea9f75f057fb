use Rattle.std.proofs.Common.{Bool, ◌≡◌, ◌&&◌, ap, sym, ◌∙◌, arith, length-set}
use Rattle.coverage_claim.specs.Rules.{this_pair}
use Rattle.pair_sets.specs.Choice.{set_at}
use Rattle.pair_sets.specs.Pairs.{has}
use Rattle.pair_sets.proofs.Choices.{at_from, at_says}
use Rattle.pair_sets.proofs.FourPairs.{put_back}
use Rattle.pair_sets.proofs.Rows.{six_room}
use Rattle.pair_sets.proofs.table.TableRule.agrees_at.Goals as goal

pub slice_copy_out-whole : goal.slice_copy_out-whole
slice_copy_out-whole c = c.requires.inside

pub bounds-reads-i : goal.bounds-reads-i
bounds-reads-i c = c.requires.inside

pub has_end-found-requires-clause-golden : goal.has_end-found-requires-clause-golden
has_end-found-requires-clause-golden c = six_room _ (omega (arith, length-set c.args.reads.now c.args.i c.and.result, c.requires.few))

pub has_end-found-requires-clause-faulty : goal.has_end-found-requires-clause-faulty
has_end-found-requires-clause-faulty c = six_room _ (omega (arith, length-set c.args.reads.now c.args.i c.and.result, c.requires.few))

pub bounds-reads-i-2 : goal.bounds-reads-i-2
bounds-reads-i-2 c = omega (arith, length-set c.args.reads.now c.args.i c.and.result, c.requires.inside)

pub returns-clause-same : goal.returns-clause-same
returns-clause-same c = put_back c.args.reads.now c.args.i c.and.result (record { bits = 0 })

pub returns-clause-value : goal.returns-clause-value
returns-clause-value c =
    let is : (g f : Bool) → has c.and.result g f ≡ (has (set_at c.args.reads.now c.args.i) g f && this_pair c.args.golden c.args.faulty g f) =
    λ g f. c.and.ensures g f ∙ ap (λ (v : Bool). has (set_at c.args.reads.now c.args.i) g f && v) (c.pair.ensures g f) in (
      λ e. at_says c.args.self.truth c.args.self.site c.args.reads.now c.args.own c.driving.result c.and.result c.args.i c.args.golden c.args.faulty c.driving.ensures is
          c.requires.inside (sym c.has_end-found.ensures ∙ e),
      λ at. c.has_end-found.ensures
          ∙ at_from c.args.self.truth c.args.self.site c.args.reads.now c.args.own c.driving.result c.and.result c.args.i c.args.golden c.args.faulty c.driving.ensures is
          c.requires.inside at,
    )
