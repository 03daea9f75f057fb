use Rattle.std.proofs.Common.{refl}
use Rattle.sample_gen.specs.Sample.{points_text}
use Rattle.sample_gen.proofs.tables.points_text.Goals as goal

pub returns : goal.returns
unfolding points_text
returns c = refl
