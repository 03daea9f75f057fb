use Rattle.readings.proofs.Intervals.{interval_shown, table_shown}
use Rattle.readings.proofs.Seeing.{sightings}
use Rattle.readings.proofs.Telling.{breakdown_shown}
use Rattle.readings.proofs.law.one_simulation_gives_all.Goals as goal

pub returns-clause-text : goal.returns-clause-text
returns-clause-text c = breakdown_shown

pub returns-clause-interval : goal.returns-clause-interval
returns-clause-interval c = interval_shown

pub returns-clause-table : goal.returns-clause-table
returns-clause-table c = table_shown

pub returns-clause-sightings : goal.returns-clause-sightings
returns-clause-sightings c = sightings
