-- A net alone, and the nets of a part at once.
use Rattle.std.specs.Prelude.{◌≡◌, ◌==◌, ℕ, Bool, true, false, not, ◌&&◌, List, length, count_by, if◌then◌else◌, nat_lt}
use Rattle.alarm_points.specs.PointsFile.{observed}
use Rattle.circuit.specs.Circuit.{Circuit}
use Rattle.circuit.specs.Sound.{IsNet}
use Rattle.circuit.specs.Value.{bit_at}
use Rattle.circuit.specs.declared.parts.NetId.{NetId}
use Rattle.claim_search.specs.Answer.{IsNeverProvedSimply, IsProvedWithSome}
use Rattle.claim_search.specs.Question.{with_region}
use Rattle.coverage_claim.specs.Claim.{Claim}
use Rattle.coverage_claim.specs.Region.{Region}
use Rattle.coverage_claim.specs.declared.parts.Site.TheVariants.{Free, Intact}
use Rattle.fm_base.specs.Lists.{below}
use Rattle.reach.specs.Paths.{LeadsToSome}

-- anything at one net
abbrev pub alone : NetId → Region
alone own net = if own.0 == net then Free else Intact

-- a path leads from the net to an observation net
abbrev pub IsSeen : Claim → NetId → Type 0
IsSeen claim net = LeadsToSome claim.circuit net (observed claim.points)

-- THE NET IS OPEN ALONE: it leads to an observation net, and that an alarm comes whatever goes wrong there isn't proved simply
abbrev pub IsOpenAlone : Claim → NetId → Type 0
IsOpenAlone claim net = IsSeen claim net × IsNeverProvedSimply (with_region claim (alone net))

-- OR IT IS COVERED ALONE: if it leads to one, that is proved
abbrev pub IsCoveredAlone : Claim → NetId → Type 0
IsCoveredAlone claim net = IsSeen claim net → IsProvedWithSome (with_region claim (alone net))

-- A MARK FOR EACH NET that is open alone, and for no other
pub record AreOpen (claim : Claim) (open_nets : List Bool) : Type 0 where
  pub count : length open_nets ≡ length claim.circuit.drivers
  pub open_alone : (net : NetId) → bit_at open_nets net.0 ≡ true → IsOpenAlone claim net
  pub covered : (net : NetId) → IsNet claim.circuit net → bit_at open_nets net.0 ≡ false → IsCoveredAlone claim net

-- it is a net of the part
abbrev pub is_of_part : Circuit → (part_of : ℕ → ℕ) → (part : ℕ) → ℕ → Bool
is_of_part c part_of part net = nat_lt net (length c.drivers) && part_of net == part

-- how many nets of the part are marked
abbrev pub marked_nets : Circuit → (part_of : ℕ → ℕ) → (part : ℕ) → List Bool → ℕ
marked_nets c part_of part marks = count_by (λ net. (part_of net == part) && bit_at marks net) (below (length c.drivers))

-- anything at all nets of the part but those that are marked
abbrev pub all_but : Circuit → (part_of : ℕ → ℕ) → (part : ℕ) → List Bool → Region
all_but c part_of part marks net = if is_of_part c part_of part net && not (bit_at marks net) then Free else Intact
