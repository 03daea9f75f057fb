-- What is asked of a netlist: a claim, but for the pairs that its latches may show.
use Rattle.std.specs.Prelude.{◌≡◌, ℕ, length, All, Contains, Some}
use Rattle.std.specs.List.{slice_get}
use Rattle.alarm_points.specs.PointsFile.{observed}
use Rattle.circuit.specs.Circuit.{Circuit}
use Rattle.circuit.specs.Order.{IsOrder}
use Rattle.circuit.specs.Sound.{IsNet, IsNetlist}
use Rattle.circuit.specs.declared.parts.Latch.{Latch}
use Rattle.coverage_claim.specs.Claim.{Claim}
use Rattle.coverage_claim.specs.Region.{Region}
use Rattle.coverage_claim.specs.Stretch.{Pairs}
use Rattle.coverage_claim.specs.declared.parts.Site.{Site}
use Rattle.region_search.specs.Going.{ArePlaced}
use Rattle.claim_search.specs.declared.question.Posed.{Posed}
use Rattle.claim_search.specs.declared.question.Question.{Question}
use Rattle.claim_search.specs.declared.question.Searched.{Searched}

-- A NETLIST IS SEARCHED by those who look again and by its tables, in the same order
pub record IsSearched (searched : Searched) : Type 0 where
  pub netlist : searched.watchers.now.circuit ≡ searched.netlist.now
  pub sound : IsNetlist searched.watchers.now.circuit
  pub order : IsOrder searched.watchers.now.circuit searched.watchers.now.order
  pub placed : ArePlaced searched.watchers.now searched.tables.now

-- WHAT MAY BE POSED of a netlist: it is about nets of it, and inputs are held
pub record MayBePosed (c : Circuit) (p : Posed) : Type 0 where
  pub observed : All (IsNet c) p.observed.now
  pub alarms : All (IsNet c) p.alarms.now
  pub held : All (λ h. Contains c.inputs h.net) p.held.now

-- AND ASKED: each net has a site
pub record MayBeAsked (c : Circuit) (q : Question) : Type 0 where
  pub posed : MayBePosed c q.posed
  pub sites : length q.sites.now ≡ length c.drivers

-- THE CLAIM IS POSED, whatever its region, and whatever pairs its latches may show
pub record IsPosed (c : Circuit) (p : Posed) (claim : Claim) : Type 0 where
  pub circuit : claim.circuit ≡ c
  pub observed : observed claim.points ≡ p.observed.now
  pub alarms : claim.points.alarm ≡ p.alarms.now
  pub held : claim.held ≡ p.held.now
  pub from : claim.from ≡ p.from
  pub window : claim.window ≡ p.window
  pub ahead : claim.ahead ≡ p.ahead

-- THE CLAIM IS ASKED: with this region
pub record IsAsked (c : Circuit) (q : Question) (claim : Claim) : Type 0 where
  pub posed : IsPosed c q.posed claim
  pub sites : (net : ℕ) (site : Site) → slice_get q.sites.now net ≡ Some site → claim.region net ≡ site

-- the claim with other pairs for its latches
abbrev pub with_pairs : Claim → (Latch → Pairs) → Claim
with_pairs claim pairs = record claim { apart = pairs }

-- and with another region
abbrev pub with_region : Claim → Region → Claim
with_region claim region = record claim { region = region }
