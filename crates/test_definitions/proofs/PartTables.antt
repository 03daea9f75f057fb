-- The nets that the rows of a rates file take.
use Rattle.std.proofs.Common.{◌≡◌, refl, codes}
use Rattle.test_definitions.specs.Opened.{opened}
use Rattle.rate_table.specs.RatesFile.{rates_of}
use Rattle.campaign_tables.specs.PartTable.{part_table, row_line}
use Rattle.test_definitions.specs.Circuits.{dup, dupl}
use Rattle.test_definitions.specs.Files.{dup_rates, no_rates, read_or}

-- each net of DUP has a row of its own
pub each : part_table dup (read_or no_rates (rates_of dup_rates)) ≡ codes "pattern a part in role mission covered yes nets 1 latches 0 first a\npattern b part in role mission covered yes nets 1 latches 0 first b\npattern y part out role mission covered yes nets 1 latches 0 first y\npattern al part dup role mechanism covered no nets 1 latches 0 first al\npattern z part dup role mechanism covered no nets 1 latches 0 first z\nunmatched 0 first -\n"
unfolding opened row_line part_table
each = refl

-- the first row takes al, and with it the latch, though the second has its whole name; b, y and c have no row
pub first : part_table dupl (read_or no_rates (rates_of (codes "pattern,part,role,covered,permanent,transient\na*,p,mission,yes,1,0\nal,q,mechanism,no,1,0\nz,q,mechanism,no,1,0\n"))) ≡ codes "pattern a* part p role mission covered yes nets 2 latches 1 first a\npattern al part q role mechanism covered no nets 0 latches 0 first -\npattern z part q role mechanism covered no nets 1 latches 0 first z\nunmatched 3 first b\n"
unfolding opened row_line part_table
first = refl
