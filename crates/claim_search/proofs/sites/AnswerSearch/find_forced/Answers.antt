use Rattle.std.proofs.Common.{length, ap, sym, subst, ◌∙◌}
use Rattle.claim_search.proofs.Marking.{written}
use Rattle.claim_search.specs.Forced.{AreForced}
use Rattle.claim_search.specs.Sites.{site_at}
use Rattle.claim_search.proofs.sites.AnswerSearch.find_forced.Goals as goal

pub forced_pairs-requires-clause-bare : goal.forced_pairs-requires-clause-bare
forced_pairs-requires-clause-bare c = λ n. ap (λ sites. site_at sites n) c.deref.ensures.value ∙ c.requires.ready.intact n

pub returns : goal.returns
returns c =
    let len = c.forced_pairs.auto.forced ∙ c.deref_mut.ensures.len in
    let same = written c.forced_pairs.new.forced _ c.args.self.now.forced.len len in
    record {
      ready = record {
        lead = c.forced_pairs.ensures.lead;
        frame = c.forced_pairs.ensures.frame;
        window = c.forced_pairs.ensures.over;
        forced_count = ap length same ∙ c.forced_pairs.auto.forced ∙ ap length c.deref_mut.ensures.value ∙ c.requires.ready.forced_count;
        forced = subst (AreForced c.args.searched.now.netlist.now c.args.posed.now) (sym same) c.forced_pairs.ensures.forced;
        starts = c.requires.ready.starts;
        sites = c.requires.ready.sites;
        intact = c.requires.ready.intact;
      };
    }
