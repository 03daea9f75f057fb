use Rattle.std.proofs.Common.{rules, List, ap, ◌∙◌}
use Rattle.pair_sets.specs.Choice.{set_at}
use Rattle.pair_sets.specs.Pairs.{has}
use Rattle.pair_sets.specs.declared.pairs.PairSet.{PairSet}
use Rattle.claim_search.specs.Sites.{site_at}
use Rattle.claim_search.proofs.Forcing.{intact_replicated, none_forced, none_replicated}
use Rattle.claim_search.proofs.sites.AnswerSearch.new.Goals as goal

pub returns : goal.returns
returns c = record {
  lead = c.in_ok-new.ensures.fits;
  frame = c.in_ok-new.ensures.frames;
  window = c.in_ok-new-2.ensures;
  forced_count = search rules;
  forced = none_forced c.args.searched.now.netlist.now c.args.posed.now c.in_ok-filled-2.field-0.items
      (λ l a b. ap (λ (all : List PairSet). has (set_at all l) a b) c.in_ok-filled-2.ensures.items ∙ none_replicated _ l a b);
  starts = search rules;
  sites = search rules;
  intact = λ n. ap (λ sites. site_at sites n) c.in_ok-filled-3.ensures.items ∙ intact_replicated _ n;
}
