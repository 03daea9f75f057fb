use Rattle.wave_dump.proofs.Printing.{last_is_value}
use Rattle.wave_dump.proofs.law.prints_traces.Goals as goal

pub returns : goal.returns
returns c = last_is_value
