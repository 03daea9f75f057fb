use Rattle.row_audit.proofs.Banks.{golden_alike, loaded_alike}
use Rattle.row_audit.proofs.every_table.Lanes4Circuits.restart.Goals as goal

pub returns-clause-sound : goal.returns-clause-sound
returns-clause-sound c = golden_alike c.args.self.now c.start.new.self c.start.ensures.keeps c.requires.sound

pub returns-clause-keeps : goal.returns-clause-keeps
returns-clause-keeps c = loaded_alike c.args.self.now c.start.new.self c.start.ensures.keeps

pub returns-clause-start : goal.returns-clause-start
returns-clause-start c = (golden_alike c.args.self.now c.start.new.self c.start.ensures.keeps c.requires.sound, c.start.ensures.start)
