use Rattle.std.proofs.Common.{◌≡◌, ◌<◌, ◌+◌, ◌*◌, ℕ, true}
use Rattle.std.specs.Prelude.{Some}
use Rattle.fm_base.specs.Planes.{bit}
use Rattle.differential_kernel.specs.Picked.{place_in}
use Rattle.differential_kernel.proofs.picks.Picks.places_of.Given as goal

-- the bits that are set are those at the places of the lanes so far whose bit is set
abbrev pub invariant-loop-lane : goal.invariant-loop-lane
invariant-loop-lane l = record {
  set : (k place : ℕ) → k < l.lane → bit l.plane k ≡ true → place_in l.self (l.word * 64 + k) ≡ Some place → bit l.bits place ≡ true;
  only : (place : ℕ) → place < 64 → bit l.bits place ≡ true → (k : ℕ) × (k < l.lane) × (bit l.plane k ≡ true) × (place_in l.self (l.word * 64 + k) ≡ Some place);
}
