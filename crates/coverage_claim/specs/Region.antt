-- What faults may do to nets. A region tells it of each net.
use Rattle.std.specs.Prelude.{◌==◌, ℕ, Bool, true, false, List, if◌then◌else◌}
use Rattle.std.specs.List.{slice_get}
use Rattle.std.specs.Option.{option_map_or}
use Rattle.fm_base.specs.Lists.{same_bit}
use Rattle.circuit.specs.declared.parts.Fault.{Fault}
use Rattle.circuit.specs.declared.parts.Fault.TheVariants.{Stuck, Flip, Pulse}
use Rattle.circuit.specs.Circuit.{Circuit}
use Rattle.circuit.specs.Value.{bit_at}
use Rattle.coverage_claim.specs.declared.parts.Site.{Site}
use Rattle.coverage_claim.specs.declared.parts.Site.TheVariants.{Intact, Free, Only}

-- a site for each net
abbrev pub Region : Type 0
Region = ℕ → Site

-- what a net of such a site may show, where its driver gives its own value
abbrev pub may_show : Site → (own shown : Bool) → Bool
may_show Intact own shown = same_bit own shown
may_show Free own shown = true
may_show (Only value) own shown = same_bit value shown

-- the region of the nets that are marked, whatever goes wrong there
abbrev pub marked : List Bool → Region
marked marks net = if bit_at marks net then Free else Intact

-- the region of one fault: a net that is stuck has its value, and one with a flip or a pulse has anything
abbrev pub region_of : Circuit → Fault → Region
region_of c (Stuck n value) net = if n.0 == net then Only value else Intact
region_of c (Pulse n cycle) net = if n.0 == net then Free else Intact
region_of c (Flip l cycle) net = if option_map_or (λ latch. latch.to.0 == net) (slice_get c.latches l) false then Free else Intact
