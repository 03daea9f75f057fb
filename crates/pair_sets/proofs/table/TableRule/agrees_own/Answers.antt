use Rattle.std.proofs.Common.{Bool, ◌≡◌, ◌&&◌, length, ap, sym, ◌∙◌}
use Rattle.coverage_claim.specs.Rules.{this_pair}
use Rattle.pair_sets.specs.Pairs.{has}
use Rattle.pair_sets.proofs.Choices.{own_from, own_says}
use Rattle.pair_sets.proofs.Rows.{six_room}
use Rattle.pair_sets.proofs.table.TableRule.agrees_own.Goals as goal

pub has_end-requires-clause-golden : goal.has_end-requires-clause-golden
has_end-requires-clause-golden c = six_room (length c.args.reads.now) c.requires.few

pub has_end-requires-clause-faulty : goal.has_end-requires-clause-faulty
has_end-requires-clause-faulty c = six_room (length c.args.reads.now) c.requires.few

pub returns : goal.returns
returns c =
    let is : (g f : Bool) → has c.and.result g f ≡ (has c.args.own g f && this_pair c.args.golden c.args.faulty g f) =
    λ g f. c.and.ensures g f ∙ ap (λ (v : Bool). has c.args.own g f && v) (c.pair.ensures g f) in (
      λ e. own_says c.args.self.truth c.args.self.site c.args.reads.now c.args.own c.driving.result c.and.result c.args.golden c.args.faulty c.driving.ensures is (sym c.has_end.ensures ∙ e),
      λ at. c.has_end.ensures ∙ own_from c.args.self.truth c.args.self.site c.args.reads.now c.args.own c.driving.result c.and.result c.args.golden c.args.faulty c.driving.ensures is at,
    )
