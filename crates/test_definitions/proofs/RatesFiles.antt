-- Rates files and their refusals.
use Rattle.std.proofs.Common.{◌≡◌, [], ◌∷◌, map, refl, codes}
use Rattle.std.specs.Prelude.{true, false, Some, None, Ok, Err}
use Rattle.test_definitions.specs.Opened.{opened}
use Rattle.metric_sums.specs.declared.Role.TheVariants.{Mission as mission_role}
use Rattle.rate_table.specs.RatesFile.{rates_of}
use Rattle.rate_table.specs.Rate.{units_of}
use Rattle.rate_table.specs.Table.{part_named}
use Rattle.rate_table.specs.declared.RatesKind.TheVariants as rate
use Rattle.sample_gen.specs.Sample.{rates_text}
use Rattle.test_definitions.specs.Files.{read_or, no_rates}

pub two_meanings : rates_of (codes "pattern,part,role,covered,permanent,transient\na,in,mission,yes,4,0\nb,in,mission,yes,5,0\n") ≡ Err (record { row = 3; kind = rate.TwoMeanings })
unfolding opened
two_meanings = refl

pub bad_rate : rates_of (codes "pattern,part,role,covered,permanent,transient\na,in,mission,yes,1.0000001,0\n") ≡ Err (record { row = 2; kind = rate.BadRate })
unfolding opened
bad_rate = refl

pub no_decimals : rates_of (codes "pattern,part,role,covered,permanent,transient\na,in,mission,yes,1.,0\n") ≡ Err (record { row = 2; kind = rate.BadRate })
unfolding opened
no_decimals = refl

pub long_rate : rates_of (codes "pattern,part,role,covered,permanent,transient\na,in,mission,yes,1234567890123,0\n") ≡ Err (record { row = 2; kind = rate.BadRate })
unfolding opened
long_rate = refl

pub bad_part : rates_of (codes "pattern,part,role,covered,permanent,transient\na,in side,mission,yes,1,0\n") ≡ Err (record { row = 2; kind = rate.BadPart })
unfolding opened
bad_part = refl

pub no_part : rates_of (codes "pattern,part,role,covered,permanent,transient\na,,mission,yes,1,0\n") ≡ Err (record { row = 2; kind = rate.BadPart })
unfolding opened
no_part = refl

pub bad_role : rates_of (codes "pattern,part,role,covered,permanent,transient\na,in,Mission,maybe,1,0\n") ≡ Err (record { row = 2; kind = rate.BadRole })
unfolding opened
bad_role = refl

pub bad_covered : rates_of (codes "pattern,part,role,covered,permanent,transient\na,in,mission,maybe,x,0\n") ≡ Err (record { row = 2; kind = rate.BadCovered })
unfolding opened
bad_covered = refl

pub five_fields : rates_of (codes "pattern,part,role,covered,permanent,transient\na,in,mission,yes,1,0\nb,in,mission,yes,1\n") ≡ Err (record { row = 3; kind = rate.BadCsv })
unfolding opened
five_fields = refl

-- the first row takes the sum to 10^18 units less 10^6, and the second past 10^18
pub too_large : rates_of (codes "pattern,part,role,covered,permanent,transient\na,in,mission,yes,999999999999,0\nb,out,mission,yes,1.000001,0\n") ≡ Err (record { row = 3; kind = rate.TooLarge })
unfolding opened
too_large = refl

pub header : rates_of (codes "pattern,part,role,covered,permanent\n") ≡ Err (record { row = 1; kind = rate.BadCsv })
unfolding opened
header = refl

pub equal_values : rates_of (codes "pattern,part,role,covered,permanent,transient\na*,in,mission,yes,1.5,0\nb,in,mission,yes,1.500,0.0\n") ≡ Ok (record { patterns = record { name = codes "a"; star = true; part = 0 } ∷ record { name = codes "b"; star = false; part = 0 } ∷ []; parts = record { name = codes "in"; role = mission_role; covered = true; permanent = 1500000; transient = 0 } ∷ [] })
unfolding opened
equal_values = refl

pub units : map units_of (codes "0.000010" ∷ codes "000000000002" ∷ codes "2." ∷ codes "" ∷ codes "1.2.3" ∷ codes "-1" ∷ []) ≡ Some 10 ∷ Some 2000000 ∷ None ∷ None ∷ None ∷ None ∷ []
unfolding opened
units = refl

pub first_match : map (part_named (read_or no_rates (rates_of rates_text))) (codes "d" ∷ codes "q" ∷ codes "m7" ∷ codes "a" ∷ codes "e" ∷ codes "" ∷ []) ≡ Some 0 ∷ Some 1 ∷ Some 1 ∷ Some 1 ∷ Some 2 ∷ Some 2 ∷ []
unfolding opened
first_match = refl
