use Rattle.std.proofs.lemmas.Result.{err_from_is_err_and}
use Rattle.fmeda_top.proofs.Written.{not_cut, written_anew}
use Rattle.fmeda_top.proofs.merge.write_anew.Goals as goal

pub returns-in_err-cut : goal.returns-in_err-cut
returns-in_err-cut g c =
    let p = err_from_is_err_and c.from_residual.result c.from_residual.ensures.1 in
    let e = c.in_err-cut.ensures in
    rw p.1 (not_cut c.args.name.now c.args.text.now (g.F.Shelf.seen c.args.shelf.now) (g.F.Shelf.seen c.cut.new.self) e.rest e.failed e.changed p.0)

pub returns : goal.returns
returns g c =
    let first = c.in_ok-cut.ensures in
    let rest = c.append_all.ensures in
    written_anew c.args.name.now c.args.text.now (g.F.Shelf.seen c.args.shelf.now) (g.F.Shelf.seen c.cut.new.self) first.rest (g.F.Shelf.seen c.append_all.new.shelf)
    c.append_all.result first.ok first.changed rest.rest rest.ok rest.failed rest.takes rest.tears
