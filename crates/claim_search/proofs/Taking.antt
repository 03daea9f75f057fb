-- Lists that are written place by place, and regions by their sites.
use Rattle.std.proofs.Common.{◌≡◌, inl, inr, ℕ, ◌+◌, ◌<◌, Bool, true, false, ◌&&◌, ◌||◌, List, Some, length, get_or, set, refl, ap₂, sym, subst, arith, get_or-set_same, get_or-set_other}
use Rattle.std.specs.Prelude.{All, slice_index_or}
use Rattle.std.specs.List.{slice_get}
use Rattle.std.proofs.lemmas.Bool.{cases_lt}
use Rattle.std.proofs.lemmas.Option.{slice_get-get_or, slice_get_within}
use Rattle.fm_base.proofs.Tests.{clash}
use Rattle.circuit.specs.Circuit.{Circuit}
use Rattle.circuit.specs.Sound.{IsNetlist}
use Rattle.circuit.specs.declared.parts.Driver.TheVariants.{Latch as FromLatch}
use Rattle.circuit.specs.declared.parts.Latch.{Latch}
use Rattle.coverage_claim.specs.Claim.{Claim, unequal}
use Rattle.coverage_claim.specs.Region.{may_show}
use Rattle.coverage_claim.specs.Stretch.{Pairs}
use Rattle.coverage_claim.specs.declared.parts.Site.{Site}
use Rattle.coverage_claim.specs.declared.parts.Site.TheVariants.{Intact}
use Rattle.pair_sets.specs.Choice.{set_at}
use Rattle.pair_sets.specs.Pairs.{has, shown}
use Rattle.pair_sets.specs.declared.pairs.PairSet.{PairSet}
use Rattle.claim_search.specs.Question.{IsAsked, MayBeAsked}
use Rattle.claim_search.specs.declared.question.Question.{Question}

-- what holds of the places that are written holds of one more
pub one_more : (P : ℕ → PairSet → Type 0) (starts : List PairSet) (n : ℕ) (next : PairSet) → n < length starts → ((k : ℕ) → k < n → P k (set_at starts k)) → P n next
    → (k : ℕ) → k < n + 1 → P k (set_at (set starts n next) k)
one_more P starts n next lt before own k less = elim (cases_lt k n) as (λ _. P k (set_at (set starts n next) k)) [
  | inl early ↦ subst (P k) (sym (get_or-set_other starts n k next (record { bits = 0 }) (λ same. absurd (omega (arith, same, early))))) (before k early)
  | inr last ↦ (
      let it : n ≡ k = omega (arith, less, last) in
      subst (λ j. P j (set_at (set starts n next) j)) it (subst (P n) (sym (get_or-set_same starts n next (record { bits = 0 }) lt)) own))
]

-- what a net shows of the same pairs is the same
pub shown_same : (site : Site) (p q : Pairs) → ((a b : Bool) → p a b ≡ q a b) → (a b : Bool) → shown site p a b ≡ shown site q a b
shown_same site p q same a b = ap₂ (λ (x y : Bool). (x && may_show site false b) || (y && may_show site true b)) (same a false) (same a true)

-- the net of a latch has a site, which is that of the region
pub latch_site : (c : Circuit) (q : Question) (claim : Claim) → IsNetlist c → MayBeAsked c q → IsAsked c q claim → (l : ℕ) (latch : Latch) → slice_get c.latches l ≡ Some latch
    → claim.region latch.to.0 ≡ slice_index_or q.sites.now latch.to.0 Intact
latch_site c q claim sound may asked l latch at =
    let within = slice_get_within c.drivers latch.to.0 (FromLatch l) (sound.latches l latch at) in
    asked.sites latch.to.0 (slice_index_or q.sites.now latch.to.0 Intact) (slice_get-get_or q.sites.now latch.to.0 Intact (omega (arith, within, may.sites)))

-- ---- pairs of equal values

gone : (x : Bool) → (x ≡ true → false ≡ true) → x ≡ false
gone true h = sym (h refl)
gone false h = refl

pub equal_pairs : (pairs : PairSet) (a b : Bool) → (has pairs a b ≡ true → has (record { bits = 9 }) a b ≡ true) → unequal a b ≡ true → has pairs a b ≡ false
equal_pairs pairs true true inside e = absurd (cc)
equal_pairs pairs false false inside e = absurd (cc)
equal_pairs pairs true false inside e = gone (has pairs true false) inside
equal_pairs pairs false true inside e = gone (has pairs false true) inside

pub inside_equal : (pairs : PairSet) → ((a b : Bool) → unequal a b ≡ true → has pairs a b ≡ false) → (a b : Bool) → has pairs a b ≡ true → has (record { bits = 9 }) a b ≡ true
inside_equal pairs all true true e = refl
inside_equal pairs all false false e = refl
inside_equal pairs all true false e = absurd (clash (has pairs true false) e (all true false refl))
inside_equal pairs all false true e = absurd (clash (has pairs false true) e (all false true refl))

-- ---- the nets of latches

pub to_nets : (c : Circuit) (latches : List Latch) (nets : ℕ) → IsNetlist c → latches ≡ c.latches → nets ≡ length c.drivers → All (λ latch. latch.to.0 < nets) latches
to_nets c latches nets sound own many i d lt =
    let at : slice_get c.latches i ≡ Some (get_or latches i d) = subst (λ (all : List Latch). slice_get all i ≡ Some (get_or latches i d)) own (slice_get-get_or latches i d lt) in
    let within = slice_get_within c.drivers (get_or latches i d).to.0 (FromLatch i) (sound.latches i (get_or latches i d) at) in
    omega (arith, within, many)

pub from_nets : (c : Circuit) (latches : List Latch) (nets : ℕ) → IsNetlist c → latches ≡ c.latches → nets ≡ length c.drivers → All (λ latch. latch.from.0 < nets) latches
from_nets c latches nets sound own many =
    subst (λ (all : List Latch). All (λ (latch : Latch). latch.from.0 < nets) all) (sym own) (λ i d lt. (let within = sound.sources i d lt in omega (arith, within, many)))
