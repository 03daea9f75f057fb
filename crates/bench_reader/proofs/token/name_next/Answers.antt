use Rattle.std.proofs.Common.{◌<◌, subst, sym}
use Rattle.bench_reader.proofs.Tokenizing.{name_cut, name_place_some, cut_shorter}
use Rattle.bench_reader.proofs.token.name_next.Goals as goal

pub returns-clause-first : goal.returns-clause-first
returns-clause-first c = name_cut c.args.text.now c.name_end-n.result c.requires c.name_end-n.ensures.place

pub returns-clause-shorter : goal.returns-clause-shorter
returns-clause-shorter c =
    cut_shorter c.args.text.now c.name_end-n.result (subst (λ n. 0 < n) (sym c.name_end-n.ensures.place) (name_place_some c.args.text.now c.requires)) c.name_end-n.ensures.within
