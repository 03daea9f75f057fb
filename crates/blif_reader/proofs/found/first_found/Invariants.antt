use Rattle.std.proofs.Common.{◌≡◌, Bool, drop, map}
use Rattle.std.specs.Prelude.{find}
use Rattle.fm_base.specs.Names.{Name}
use Rattle.blif_flatten.specs.Flat.{all_names}
use Rattle.blif_flatten.specs.Flattened.{flat_steps}
use Rattle.blif_reader.specs.Found.{passes, visits_by}
use Rattle.blif_reader.proofs.found.first_found.Given as goal

abbrev pub invariant-loop-place : goal.invariant-loop-place
invariant-loop-place l = (test : Name → Bool) → l.marks ≡ map test (all_names (flat_steps l.flat))
    → find (passes l.wanted test) (visits_by l.sort (drop l.place (flat_steps l.flat))) ≡ find (passes l.wanted test) (visits_by l.sort (flat_steps l.flat))
