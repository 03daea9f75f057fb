-- Points files and their refusals.
use Rattle.std.proofs.Common.{◌≡◌, [], ◌∷◌, refl, codes}
use Rattle.std.specs.Prelude.{None, Ok, Err}
use Rattle.test_definitions.specs.Opened.{opened}
use Rattle.alarm_points.specs.PointsFile.{points_of, all_outputs}
use Rattle.alarm_points.specs.declared.PointsKind.TheVariants as point
use Rattle.test_definitions.specs.Circuits.{dup, net}

pub no_observe : points_of dup (codes "kind,net\nalarm,al\n") ≡ Err (record { row = 1; kind = point.NoObserve })
unfolding opened
no_observe = refl

pub nothing : points_of dup (codes "kind,net\n") ≡ Err (record { row = 1; kind = point.NoObserve })
unfolding opened
nothing = refl

pub twice : points_of dup (codes "kind,net\nobserve,y\nalarm,y\nobserve,y\n") ≡ Err (record { row = 4; kind = point.Twice })
unfolding opened
twice = refl

pub unknown : points_of dup (codes "kind,net\nobserve,q\n") ≡ Err (record { row = 2; kind = point.UnknownNet })
unfolding opened
unknown = refl

pub bad_kind : points_of dup (codes "kind,net\nobserves,q\n") ≡ Err (record { row = 2; kind = point.BadKind })
unfolding opened
bad_kind = refl

pub three : points_of dup (codes "kind,net\nobserve,y,y\n") ≡ Err (record { row = 2; kind = point.BadCsv })
unfolding opened
three = refl

pub both_kinds : points_of dup (codes "kind,net\nobserve,y\nalarm,y\nobserve,a\n") ≡ Ok (record { goals = record { name = []; ftti = None; observe = net 2 ∷ net 0 ∷ [] } ∷ []; alarm = net 2 ∷ [] })
unfolding opened
both_kinds = refl

pub outputs : all_outputs dup ≡ record { goals = record { name = []; ftti = None; observe = net 2 ∷ net 3 ∷ [] } ∷ []; alarm = [] }
unfolding opened
outputs = refl
