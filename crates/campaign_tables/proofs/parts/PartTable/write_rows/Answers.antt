use Rattle.std.proofs.Common.{◌≡◌, ◌<◌, length, ap, ◌∙◌, arith}
use Rattle.std.proofs.lemmas.Result.{err_from_is_err_and}
use Rattle.fm_shelf.proofs.Sending.{sends_no_number, sends_number, sends_number_torn}
use Rattle.campaign_tables.specs.PartTable.{row_line}
use Rattle.campaign_tables.specs.Counted.{Looked}
use Rattle.campaign_tables.proofs.parts.PartTable.write_rows.Goals as goal

pub loop-k-init : goal.loop-k-init
loop-k-init g c = sends_no_number (row_line c.args.self.now.circuit c.args.self.now.rates) _

pub loop-k-preserved : goal.loop-k-preserved
loop-k-preserved g c =
    sends_number (row_line c.args.self.now.circuit c.args.self.now.rates) c.loop-k.k c.loop-k.invariant c.in_ok-write_row.ensures

pub returns-in_err-write_row : goal.returns-in_err-write_row
returns-in_err-write_row g c =
    let p = err_from_is_err_and c.from_residual.result c.from_residual.ensures.1 in
    let looked = c.args.self.now in
    let count : length c.patterns-k-end.result.now ≡ length looked.rates.patterns =
    ap length c.patterns-k-end.ensures.value ∙ ap (λ (l : Looked). length l.rates.patterns) c.self.view_is in
    let lt : c.loop-k.k < length looked.rates.patterns = omega (arith, count, c.loop-k-test.true) in
    rw p.1 (sends_number_torn (row_line looked.circuit looked.rates) (length looked.rates.patterns) c.loop-k.k p.0 lt c.loop-k.invariant c.in_err-write_row.ensures)
