use Rattle.std.proofs.Common.{◌<◌, arith}
use Rattle.row_audit.proofs.Banks.{golden_alike, loaded_alike}
use Rattle.row_audit.proofs.every_table.Lanes4Circuits.advance.Goals as goal

pub run_next-requires-clause-few : goal.run_next-requires-clause-few
run_next-requires-clause-few c = let first : 0 < 256 = omega arith in omega (arith, (c.requires.few.1.1 0 first).cycle, c.requires.few.2)

pub returns-clause-sound : goal.returns-clause-sound
returns-clause-sound c = golden_alike c.args.self.now c.run_next.new.lanes c.run_next.ensures.keeps c.requires.few.1.0

pub returns-clause-keeps : goal.returns-clause-keeps
returns-clause-keeps c = loaded_alike c.args.self.now c.run_next.new.lanes c.run_next.ensures.keeps

pub returns-clause-step : goal.returns-clause-step
returns-clause-step c = λ vectors after.
    (golden_alike c.args.self.now c.run_next.new.lanes c.run_next.ensures.keeps after.0, c.run_next.ensures.step vectors after.1)
