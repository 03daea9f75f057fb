-- What a search begins with: all pairs everywhere, but for those that go by the rules that look at one set alone.
use Rattle.std.specs.Prelude.{◌≡◌, ◌+◌, ℕ, Bool, length, All, Some}
use Rattle.std.specs.List.{slice_get}
use Rattle.circuit.specs.Circuit.{Circuit}
use Rattle.circuit.specs.Sound.{IsNet}
use Rattle.circuit.specs.declared.parts.Latch.{Latch}
use Rattle.coverage_claim.specs.Stretch.{Stretch}
use Rattle.coverage_claim.specs.declared.parts.Site.{Site}
use Rattle.pair_sets.specs.Choice.{set_at}
use Rattle.pair_sets.specs.Pairs.{has}
use Rattle.region_search.specs.declared.begin.Beginning.{Beginning}

-- WHAT MAY BE SAID of a netlist: a site for each net, and pairs for each latch; what is held or silent are nets of it
pub record IsSaidOf (c : Circuit) (b : Beginning) : Type 0 where
  pub sites : length b.sites.now ≡ length c.drivers
  pub held : All (λ h. IsNet c h.net) b.held.now
  pub silent : All (IsNet c) b.silent.now
  pub starts : length b.starts.now ≡ length c.latches

-- THE STRETCH BEGINS SO, in so many frames of a netlist
pub record BeginsSo (c : Circuit) (s : Stretch) (many : ℕ) (b : Beginning) : Type 0 where
  pub circuit : s.circuit ≡ c
  pub frames : many ≡ s.last + 1
  pub sites : (net : ℕ) (site : Site) → slice_get b.sites.now net ≡ Some site → s.region net ≡ site
  pub held : s.held ≡ b.held.now
  pub first : s.first ≡ b.first
  pub silent : s.silent ≡ b.silent.now
  pub until : s.until ≡ b.until
  pub start : (l : ℕ) (latch : Latch) → slice_get c.latches l ≡ Some latch → (x y : Bool) → s.start latch x y ≡ has (set_at b.starts.now l) x y
