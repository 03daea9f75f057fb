-- The windows of a claim, and the pairs with which they start.
use Rattle.std.specs.Prelude.{◌≡◌, ℕ, Bool, true, false, List, Some}
use Rattle.std.specs.List.{slice_get}
use Rattle.circuit.specs.Circuit.{Circuit}
use Rattle.circuit.specs.Value.{driver_at}
use Rattle.circuit.specs.declared.parts.Driver.{Driver}
use Rattle.circuit.specs.declared.parts.Driver.TheVariants.{Latch as FromLatch}
use Rattle.circuit.specs.declared.parts.Latch.{Latch}
use Rattle.coverage_claim.specs.Claim.{Claim, GoesOn, window_of}
use Rattle.coverage_claim.specs.Largest.{IsProvedSimply}
use Rattle.coverage_claim.specs.Stretch.{AreSo, Pairs, Values}
use Rattle.fanout.specs.Readers.{Ordered}
use Rattle.pair_sets.specs.Choice.{set_at}
use Rattle.pair_sets.specs.Pairs.{has}
use Rattle.pair_sets.specs.declared.pairs.PairSet.{PairSet}
use Rattle.region_search.specs.Going.{AreFor, IsFor}
use Rattle.claim_search.specs.Question.{with_pairs}
use Rattle.claim_search.specs.declared.window.Seen.{Seen}
use Rattle.claim_search.specs.declared.window.Seen.TheVariants.{Closed, Grown, Open}
use Rattle.claim_search.specs.declared.window.WindowSearch.{WindowSearch}

-- the pairs of a latch, out of a list with a set for each: its number stands at the driver of its own net
abbrev pub driven_starts : List PairSet → Driver → Pairs
driven_starts starts (FromLatch number) = has (set_at starts number)
driven_starts starts _ = λ golden faulty. false

abbrev pub starts_of : Circuit → List PairSet → Latch → Pairs
starts_of c starts latch = driven_starts starts (driver_at c latch.to.0)

-- EACH WINDOW GOES ON as it began: the first half of a claim that is proved
abbrev pub WindowsGoOn : Claim → Type 0
WindowsGoOn claim = (golden faulty : Values) → AreSo (window_of claim) golden faulty → GoesOn claim golden faulty

-- THE CLAIM ALLOWS THESE STARTS: a latch may show each pair of its set, and maybe others
abbrev pub Allows : Claim → List PairSet → Type 0
Allows claim starts = (l : ℕ) (latch : Latch) → slice_get claim.circuit.latches l ≡ Some latch → (a b : Bool) → has (set_at starts l) a b ≡ true → claim.apart latch a b ≡ true

-- no pair is lost
abbrev pub AreKept : (old new : List PairSet) → Type 0
AreKept old new = (l : ℕ) (a b : Bool) → has (set_at old l) a b ≡ true → has (set_at new l) a b ≡ true

-- all searches are those of a netlist, with so many frames
pub record IsOver (o : Ordered) (many : ℕ) (w : WindowSearch) : Type 0 where
  pub search : IsFor o w.search
  pub trial : AreFor o w.trial
  pub frames : w.search.sets.frames ≡ many
  pub trial_frames : w.trial.pair.sets.frames ≡ many

-- ---- private steps, which the public contracts don't cite

-- what one look at a window has shown of a claim
abbrev pub HasShown : Circuit → Claim → (old new : List PairSet) → Seen → Type 0
HasShown c claim old new Open = Allows claim old → ¬ (IsProvedSimply claim)
HasShown c claim old new Closed = WindowsGoOn (with_pairs claim (starts_of c old))
HasShown c claim old new Grown = Allows claim old → IsProvedSimply claim → Allows claim new
