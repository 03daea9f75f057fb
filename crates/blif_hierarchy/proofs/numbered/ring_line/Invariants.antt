use Rattle.std.proofs.Common.{◌≡◌, ℕ, drop, map}
use Rattle.fm_base.specs.Firsts.{first_where}
use Rattle.blif_model.specs.Models.{Model}
use Rattle.blif_hierarchy.specs.Numbered.{own_line, ring_line}
use Rattle.blif_hierarchy.proofs.numbered.ring_line.Given as goal

abbrev pub invariant-loop-place : goal.invariant-loop-place
invariant-loop-place l = (f : Model → ℕ) → l.numbers ≡ map f l.models
    → first_where (own_line l.models f) (drop l.place l.models) ≡ ring_line l.models f
