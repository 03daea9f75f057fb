-- Pairs that are forced, and how a search begins with them.
use Rattle.std.proofs.Common.{◌≡◌, ◌⊎◌, inl, inr, ℕ, zero, suc, ◌+◌, ◌<◌, ◌≤◌, Bool, true, false, ◌||◌, List, [], ◌∷◌, length, set, refl, ap, sym, subst, ◌∙◌, arith, get_or-set_same, get_or-set_other}
use Rattle.std.specs.Prelude.{replicate}
use Rattle.std.proofs.lemmas.Bool.{cases_eq, cases_lt}
use Rattle.fm_base.proofs.Tests.{clash, or_cases, same_bit_true}
use Rattle.circuit.specs.Circuit.{Circuit}
use Rattle.circuit.specs.declared.parts.Latch.{Latch}
use Rattle.circuit.specs.declared.parts.NetId.{NetId}
use Rattle.coverage_claim.specs.Claim.{Claim}
use Rattle.coverage_claim.specs.Largest.{IsProvedSimply}
use Rattle.coverage_claim.specs.Region.{Region, may_show}
use Rattle.coverage_claim.specs.Stretch.{Pairs}
use Rattle.coverage_claim.specs.declared.parts.Site.{Site}
use Rattle.coverage_claim.specs.declared.parts.Site.TheVariants.{Free, Intact}
use Rattle.pair_sets.specs.Choice.{set_at}
use Rattle.pair_sets.specs.Pairs.{has}
use Rattle.pair_sets.specs.declared.pairs.PairSet.{PairSet}
use Rattle.claim_search.specs.Forced.{AreForced, AreJoined, AreThoseFor, Forces, MayStay, with_length}
use Rattle.claim_search.specs.Hypotheses.{bare, nowhere}
use Rattle.claim_search.specs.LeadIn.{LeavesStarts}
use Rattle.claim_search.specs.Question.{IsPosed, with_pairs}
use Rattle.claim_search.specs.Sites.{IsAt, site_at}
use Rattle.claim_search.specs.Window.{Allows, AreKept}
use Rattle.claim_search.specs.declared.question.Posed.{Posed}
use Rattle.claim_search.proofs.Answering.{allows}
use Rattle.claim_search.proofs.Lesser.{le_self, simply_less, with_more}
use Rattle.claim_search.proofs.Marking.{in_or_out}

-- ---- regions in which nets may stay as they are

may_stay_free : (site : Site) → (site ≡ Free) ⊎ (site ≡ Intact) → (value : Bool) → may_show site value value ≡ true
may_stay_free site (inl free) value = subst (λ (each : Site). may_show each value value ≡ true) (sym free) refl
may_stay_free site (inr intact) true = subst (λ (each : Site). may_show each true true ≡ true) (sym intact) refl
may_stay_free site (inr intact) false = subst (λ (each : Site). may_show each false false ≡ true) (sym intact) refl

pub stays_at : (nets : List NetId) (region : Region) → IsAt nets Free region → MayStay region
stays_at nets region is_at net value = may_stay_free (region net) (elim (in_or_out nets net) as (λ _. (region net ≡ Free) ⊎ (region net ≡ Intact)) [
  | inl found ↦ inl (subst (λ n. region n ≡ Free) found.2 (is_at.there found.0 (record { 0 = 0 }) found.1))
  | inr out ↦ inr (is_at.elsewhere net out)
]) value

-- nothing is less than what lets nets stay
pub intact_less : (region : Region) → MayStay region → (n : ℕ) (own shown : Bool) → may_show (nowhere n) own shown ≡ true → may_show (region n) own shown ≡ true
intact_less region stays n own shown e = subst (λ (value : Bool). may_show (region n) own value ≡ true) (same_bit_true own shown e) (stays n own)

-- ---- what is forced

no_bits : (a b : Bool) → has (record { bits = 0 }) a b ≡ false
no_bits true true = refl
no_bits true false = refl
no_bits false true = refl
no_bits false false = refl

-- behind the end of a list there are no pairs
pub behind : (sets : List PairSet) (l : ℕ) → length sets ≤ l → (a b : Bool) → has (set_at sets l) a b ≡ false
behind [] l le a b = no_bits a b
behind (pairs ∷ sets) zero le a b = absurd (omega (arith, le))
behind (pairs ∷ sets) (suc l) le a b = behind sets l (omega (arith, le)) a b

pub none_forced : (c : Circuit) (p : Posed) (forced : List PairSet) → ((l : ℕ) (a b : Bool) → has (set_at forced l) a b ≡ false) → AreForced c p forced
none_forced c p forced none claim posed stays pairs simply l latch at a b e = absurd (clash (has (set_at forced l) a b) e (none l a b))

pub none_replicated : (n l : ℕ) (a b : Bool) → has (set_at (replicate n (record { bits = 0 })) l) a b ≡ false
none_replicated zero l a b = no_bits a b
none_replicated (suc n) zero a b = no_bits a b
none_replicated (suc n) (suc l) a b = none_replicated n l a b

pub intact_replicated : (n net : ℕ) → site_at (replicate n Intact) net ≡ Intact
intact_replicated zero net = refl
intact_replicated (suc n) zero = refl
intact_replicated (suc n) (suc net) = intact_replicated n net

-- with other pairs a claim is posed as it was
pub posed_pairs : (c : Circuit) (p : Posed) (claim : Claim) (pairs : Latch → Pairs) → IsPosed c p claim → IsPosed c p (with_pairs claim pairs)
posed_pairs c p claim pairs posed = record {
  circuit = posed.circuit;
  observed = posed.observed;
  alarms = posed.alarms;
  held = posed.held;
  from = posed.from;
  window = posed.window;
  ahead = posed.ahead;
}

-- what is forced is so with a shorter window
pub forced_shorter : (c : Circuit) (p : Posed) (window : ℕ) (forced : List PairSet) → window ≤ p.window → AreForced c p forced → AreForced c (with_length p window) forced
forced_shorter c p window forced less are claim posed stays pairs simply = are longer there stays pairs (simply_less (with_pairs longer pairs) claim.region window (λ n own shown may. may) less again)
  where
    longer : Claim
    longer = record claim { window = p.window }

    there : IsPosed c p longer
    there = record {
      circuit = posed.circuit;
      observed = posed.observed;
      alarms = posed.alarms;
      held = posed.held;
      from = posed.from;
      window = refl;
      ahead = posed.ahead;
    }

    again : IsProvedSimply (with_more (with_pairs longer pairs) claim.region window)
    again = subst (λ (n : ℕ). IsProvedSimply (with_more (with_pairs longer pairs) claim.region n)) posed.window (record { same = simply.same; again = simply.again; begins = simply.begins })

-- WHERE NOTHING IS DONE windows go on with pairs that are forced
pub bare_forced : (c : Circuit) (p : Posed) (first forced : List PairSet)
    → ((claim : Claim) → IsPosed c p claim → LeavesStarts (bare claim) first)
    → ((claim : Claim) → IsPosed c p claim → Allows (bare claim) first → IsProvedSimply (bare claim) → Allows (bare claim) forced) → AreForced c p forced
bare_forced c p first forced leaves least claim posed stays pairs simply =
    least (with_pairs claim pairs) (posed_pairs c p claim pairs posed) (allows (bare claim) first (leaves claim posed) pairs nothing) nothing
  where
    nothing : IsProvedSimply (with_pairs (bare claim) pairs)
    nothing = simply_less (with_pairs (bare claim) pairs) claim.region claim.window (intact_less claim.region stays) (le_self claim.window)
        (record { same = simply.same; again = simply.again; begins = simply.begins })

-- ---- and a search that begins with them

or_none : (x y : Bool) → y ≡ false → x ≡ (x || y)
or_none true y none = refl
or_none false y none = sym none

module _ (first others now : List PairSet) (i : ℕ) (done : (k : ℕ) → k < i → (a b : Bool) → has (set_at now k) a b ≡ (has (set_at first k) a b || has (set_at others k) a b))
    (rest : (k : ℕ) → i ≤ k → set_at now k ≡ set_at first k) where
  -- one latch more has the pairs of both lists
  pub join_more : (new : PairSet) → i < length now → ((a b : Bool) → has new a b ≡ (has (set_at now i) a b || has (set_at others i) a b))
      → (k : ℕ) → k < i + 1 → (a b : Bool) → has (set_at (set now i new) k) a b ≡ (has (set_at first k) a b || has (set_at others k) a b)
  join_more new lt is k less a b = elim (cases_eq k i) as (λ _. has (set_at (set now i new) k) a b ≡ (has (set_at first k) a b || has (set_at others k) a b)) [
    | inl same ↦ subst (λ n. has (set_at (set now i new) n) a b ≡ (has (set_at first n) a b || has (set_at others n) a b)) (sym same)
        (ap (λ (pairs : PairSet). has pairs a b) (get_or-set_same now i new (record { bits = 0 }) lt) ∙ is a b
        ∙ ap (λ (pairs : PairSet). has pairs a b || has (set_at others i) a b) (rest i (omega arith)))
    | inr apart ↦ ap (λ (pairs : PairSet). has pairs a b) (get_or-set_other now i k new (record { bits = 0 }) apart) ∙ done k (omega (arith, less, apart)) a b
  ]

  pub rest_more : (new : PairSet) (k : ℕ) → i + 1 ≤ k → set_at (set now i new) k ≡ set_at first k
  rest_more new k le = get_or-set_other now i k new (record { bits = 0 }) (λ same. absurd (omega (arith, le, same))) ∙ rest k (omega (arith, le))

  pub all_joined : length others ≤ i → AreJoined first others now
  all_joined end l a b = elim (cases_lt l i) as (λ _. has (set_at now l) a b ≡ (has (set_at first l) a b || has (set_at others l) a b)) [
    | inl before ↦ done l before a b
    | inr later ↦ ap (λ (pairs : PairSet). has pairs a b) (rest l later) ∙ or_none (has (set_at first l) a b) (has (set_at others l) a b) (behind others l (omega (arith, end, later)) a b)
  ]

pub joined_kept : (old others new : List PairSet) → AreJoined old others new → AreKept old new
joined_kept old others new joined l a b e = joined l a b ∙ ap (λ (x : Bool). x || has (set_at others l) a b) e

pub kept_on : (first second third : List PairSet) → AreKept first second → AreKept second third → AreKept first third
kept_on first second third one two l a b e = two l a b (one l a b e)

pub joined_allowed : (claim : Claim) (old others new : List PairSet) → AreJoined old others new → Allows claim old → Allows claim others → Allows claim new
joined_allowed claim old others new joined first second l latch at a b e =
    elim (or_cases (has (set_at old l) a b) (has (set_at others l) a b) (sym (joined l a b) ∙ e)) as (λ _. claim.apart latch a b ≡ true) [
      | inl one ↦ first l latch at a b one
      | inr two ↦ second l latch at a b two
    ]

-- of no pairs all are allowed
pub none_allowed : (claim : Claim) → Allows claim []
none_allowed claim l latch at a b e = absurd (clash (has (set_at [] l) a b) e (behind [] l (omega arith) a b))

-- those for a site
pub few_for : (site : Site) (forced pairs : List PairSet) (n : ℕ) → AreThoseFor site forced pairs → length forced ≡ n → length pairs ≤ n
few_for site forced pairs n (inl none) same = (let it : length pairs ≡ 0 = ap length none in omega (arith, it))
few_for site forced pairs n (inr those) same = (let it : length pairs ≡ length forced = ap length those.1 in omega (arith, it, same))

pub forces_at : (c : Circuit) (p : Posed) (nets : List NetId) (site : Site) (forced pairs : List PairSet) → AreThoseFor site forced pairs → AreForced c p forced
    → (claim : Claim) → IsPosed c p claim → IsAt nets site claim.region → Forces claim pairs
forces_at c p nets site forced pairs (inl none) are claim posed is_at own simply = subst (Allows (with_pairs claim own)) (sym none) (none_allowed (with_pairs claim own))
forces_at c p nets site forced pairs (inr those) are claim posed is_at own simply =
    subst (Allows (with_pairs claim own)) (sym those.1)
    (are claim posed (stays_at nets claim.region (subst (λ (each : Site). IsAt nets each claim.region) those.0 is_at)) own simply)
