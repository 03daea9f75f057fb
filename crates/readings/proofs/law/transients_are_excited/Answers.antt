use Rattle.readings.proofs.Transients.{flip_excited, pulse_excited}
use Rattle.readings.proofs.law.transients_are_excited.Goals as goal

pub returns-clause-flip : goal.returns-clause-flip
returns-clause-flip c = flip_excited

pub returns-clause-pulse : goal.returns-clause-pulse
returns-clause-pulse c = pulse_excited
