use Rattle.std.proofs.Common.{refl}
use Rattle.sample_gen.specs.Sample.{rates_text}
use Rattle.sample_gen.proofs.tables.rates_text.Goals as goal

pub returns : goal.returns
unfolding rates_text
returns c = refl
