-- Laws of the rules: what they take away no two runs have, and their order is free.
use Rattle.std.specs.Prelude.{◌≡◌, ◌<◌, ◌≤◌, ℕ, Bool, All}
use Rattle.alarm_points.specs.PointsFile.{observed}
use Rattle.coverage_claim.specs.Stretch.{AreSo, Stretch, Values}
use Rattle.coverage_claim.specs.Claim.{Claim, IsNeverEarly, IsProved, lead_in, unequal}
use Rattle.coverage_claim.specs.Rules.{AreNarrowed, IsProvedByRules, LieIn, MayGo, NonePasses, NoneFit, Sets, only, other_than}
use Rattle.coverage_claim.specs.Largest.{AreLargest, AreLeft, AreSupported, IsProvedSimply}

-- ---- rules

-- A PAIR THAT MAY GO isn't that of two runs which lie in the sets
abbrev pub RulesAreSound : Type 0
RulesAreSound = (s : Stretch) (q : Sets) (frame net : ℕ) (a b : Bool) → MayGo s q frame net a b
    → (golden faulty : Values) → AreSo s golden faulty → LieIn s q golden faulty → LieIn s (only q frame net (other_than a b)) golden faulty

-- WHERE NONE FIT BY RULES, none do
abbrev pub RefutationsAreSound : Type 0
RefutationsAreSound = (s : Stretch) (q : Sets) → NoneFit s q → (golden faulty : Values) → AreSo s golden faulty → ¬ (LieIn s q golden faulty)

-- ANY SEQUENCE OF RULES leaves sets in which all such runs lie
abbrev pub NarrowingIsSound : Type 0
NarrowingIsSound = (s : Stretch) (q : Sets) → AreNarrowed s q → (golden faulty : Values) → AreSo s golden faulty → LieIn s q golden faulty

-- WHAT IS PROVED BY RULES IS PROVED
abbrev pub RulesProve : Type 0
RulesProve = (claim : Claim) → IsProvedByRules claim → IsProved claim

-- ---- the largest sets

-- ALL SUCH RUNS LIE IN THE LARGEST SETS, if they lie in the bounds
abbrev pub LargestHolds : Type 0
LargestHolds = (s : Stretch) (bounds q : Sets) → AreLargest s bounds q → (golden faulty : Values) → AreSo s golden faulty → LieIn s bounds golden faulty → LieIn s q golden faulty

-- THERE IS ONE at most
abbrev pub LargestIsOne : Type 0
LargestIsOne = (s : Stretch) (bounds q r : Sets) → AreLargest s bounds q → AreLargest s bounds r
    → (frame net : ℕ) (a b : Bool) → frame ≤ s.last → q frame net a b ≡ r frame net a b

-- THE ORDER IS FREE: a sequence of rules that ends where no rule takes more away has left the largest sets
abbrev pub OrderIsFree : Type 0
OrderIsFree = (s : Stretch) (bounds q : Sets) → AreLeft s bounds q → AreSupported s q → AreLargest s bounds q

-- WHAT IS PROVED SIMPLY IS PROVED
abbrev pub SimplyProves : Type 0
SimplyProves = (claim : Claim) → IsProvedSimply claim → IsProved claim

-- NO DIFFERENCE IS EARLY where narrowed sets of the lead-in have none
abbrev pub LeadInProves : Type 0
LeadInProves = (claim : Claim) (lead : Sets) → AreNarrowed (lead_in claim) lead
    → ((frame : ℕ) → frame < claim.from → All (λ net. NonePasses (lead frame net.0) unequal) (observed claim.points)) → IsNeverEarly claim

-- ---- windows

-- with a longer window
abbrev pub with_window : Claim → ℕ → Claim
with_window claim long = record claim { window = long }

-- A LONGER WINDOW PROVES NO LESS: more is supposed
abbrev pub LongerWindowsProve : Type 0
LongerWindowsProve = (claim : Claim) (long : ℕ) → claim.window ≤ long → IsProved claim → IsProved (with_window claim long)
