use Rattle.wave_dump.proofs.Codes.{codes_apart}
use Rattle.wave_dump.proofs.law.codes_are_apart.Goals as goal

pub returns : goal.returns
returns c = codes_apart
