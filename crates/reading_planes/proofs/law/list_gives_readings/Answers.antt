use Rattle.reading_planes.proofs.Laws.{list_sound, readings_are}
use Rattle.reading_planes.proofs.law.list_gives_readings.Goals as goal

pub returns-clause-sound : goal.returns-clause-sound
returns-clause-sound c = list_sound

pub returns-clause-readings : goal.returns-clause-readings
returns-clause-readings c = readings_are
