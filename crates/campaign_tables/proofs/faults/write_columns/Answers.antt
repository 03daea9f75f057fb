use Rattle.std.proofs.Common.{◌≡◌, refl}
use Rattle.std.specs.Prelude.{codes}
use Rattle.fm_shelf.proofs.Sending.{sends_as}
use Rattle.campaign_tables.specs.Csv.{csv_field, csv_row}
use Rattle.campaign_tables.specs.FaultSteps.{column_names}
use Rattle.campaign_tables.proofs.faults.write_columns.Goals as goal

-- the columns as a row
row : codes "fault,net,kind,part,role,covered,class,dangerous,noticed,weight\n" ≡ csv_row column_names
unfolding csv_field
row = refl

pub returns : goal.returns
returns g c =
    let wrote = c.write_all.ensures in
    sends_as row wrote
