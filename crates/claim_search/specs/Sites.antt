-- Regions in which some nets have a site, and nothing is done elsewhere; and what a search for answers works with.
use Rattle.std.specs.Prelude.{◌≡◌, ◌≢◌, ◌<◌, ◌≤◌, ◌+◌, ℕ, List, [], ◌∷◌, length, All, slice_index_or}
use Rattle.circuit.specs.Order.{net_at}
use Rattle.circuit.specs.declared.parts.NetId.{NetId}
use Rattle.coverage_claim.specs.Claim.{Claim}
use Rattle.coverage_claim.specs.Region.{Region}
use Rattle.coverage_claim.specs.declared.parts.Site.{Site}
use Rattle.coverage_claim.specs.declared.parts.Site.TheVariants.{Intact}
use Rattle.region_search.specs.Going.{IsFor}
use Rattle.claim_search.specs.Answer.{IsAnswer}
use Rattle.claim_search.specs.Forced.{AreForced}
use Rattle.claim_search.specs.Window.{IsOver}
use Rattle.claim_search.specs.declared.answer.Answer.{Answer}
use Rattle.claim_search.specs.declared.answer.Answer.TheVariants.{Open}
use Rattle.claim_search.specs.declared.question.Posed.{Posed}
use Rattle.claim_search.specs.declared.question.Searched.{Searched}
use Rattle.claim_search.specs.declared.sites.AnswerSearch.{AnswerSearch}

-- THESE NETS HAVE THIS SITE, and all others are intact
pub record IsAt (nets : List NetId) (site : Site) (region : Region) : Type 0 where
  pub there : All (λ net. region net.0 ≡ site) nets
  pub elsewhere : (n : ℕ) → All (λ net. net.0 ≢ n) nets → region n ≡ Intact

-- the site of a net; behind the end it is intact
abbrev pub site_at : List Site → ℕ → Site
site_at sites n = slice_index_or sites n Intact

-- THE SEARCH IS READY for what is posed of a netlist: no net has a site yet
pub record IsReady (searched : Searched) (p : Posed) (search : AnswerSearch) : Type 0 where
  pub lead : IsFor searched.watchers.now search.lead
  pub frame : search.lead.sets.frames ≡ 1
  pub window : IsOver searched.watchers.now (p.window + p.ahead + 1) search.window
  pub forced_count : length search.forced.items ≡ length searched.netlist.now.latches
  pub forced : AreForced searched.netlist.now p search.forced.items
  pub starts : length search.starts.items ≡ length searched.netlist.now.latches
  pub sites : length search.sites.items ≡ length searched.netlist.now.drivers
  pub intact : (n : ℕ) → site_at search.sites.items n ≡ Intact

-- the answer at a place
abbrev pub answer_at : List Answer → ℕ → Answer
answer_at answers i = slice_index_or answers i Open

-- THE ANSWER TO A NET: to each claim in whose region it alone has the site
abbrev pub IsAnswerAt : Claim → NetId → Site → Answer → Type 0
IsAnswerAt claim net site answer = IsAt (net ∷ []) site claim.region → IsAnswer claim answer

-- ---- private steps, which the public contracts don't cite

-- nothing happens elsewhere than at the nets from one place to another
abbrev pub LiesWithin : List NetId → (start end : ℕ) → Region → Type 0
LiesWithin nets start end region = (n : ℕ) → ((i : ℕ) → start ≤ i → i < end → (net_at nets i).0 ≢ n) → region n ≡ Intact
