use Rattle.std.proofs.Common.{length, ap, sym, subst, ◌∙◌}
use Rattle.claim_search.specs.Forced.{AreForced, with_length}
use Rattle.claim_search.proofs.Forcing.{forced_shorter}
use Rattle.claim_search.proofs.sites.AnswerSearch.shorter.Goals as goal

pub returns : goal.returns
returns c =
    let net = c.args.searched.now.netlist.now in
    let p = c.args.posed.now in
    let made = c.in_ok-made.ensures in
    let same = c.copy_from_slice.ensures.items ∙ c.deref.ensures.value in
    record {
      lead = made.lead;
      frame = made.frame;
      window = made.window;
      forced_count = ap length same ∙ c.requires.ready.forced_count;
      forced = subst (AreForced net (with_length p c.args.window)) (sym same) (forced_shorter net p c.args.window _ c.requires.less c.requires.ready.forced);
      starts = made.starts;
      sites = made.sites;
      intact = made.intact;
    }
