use Rattle.fm_shelf.proofs.Sending.{sends_then}
use Rattle.metric_breakdown.proofs.text.write_text.Goals as goal

pub returns : goal.returns
returns g c = sends_then c.in_ok-write_readings.ensures c.write_line.ensures
