-- The nets of a list, each once.
use Rattle.std.proofs.Common.{◌≡◌, ◌≢◌, inl, inr, ℕ, suc, ◌+◌, ◌<◌, ◌≤◌, List, [], ◌∷◌, ◌++◌, length, get_or, set, take, refl, ap, sym, subst, ◌∙◌, arith}
use Rattle.std.specs.Prelude.{All, Contains, MatchOption, Option, None, Some, is_some, true, false}
use Rattle.std.proofs.lemmas.Bool.{cases_lt}
use Rattle.std.proofs.lemmas.List.{get_or_append_left, get_or_default, get_or_push, length-append, length-set, take_all, take_more_set}
use Rattle.std.proofs.lemmas.List.Elements.{All-push}
use Rattle.circuit.specs.Order.{net_at}
use Rattle.circuit.specs.declared.parts.NetId.{NetId}
use Rattle.pair_sets.specs.Tables.{IsOnce}
use Rattle.region_search.specs.Truth.{AreReads}

-- nets that were looked at, and those that were found
pub record AreFound (ins : List NetId) (looked count : ℕ) (nets : List NetId) : Type 0 where
  pub size : length nets ≡ 6
  pub few : count ≤ 6
  pub fewer : count ≤ looked
  pub among : All (Contains ins) (take count nets)
  pub once : IsOnce (take count nets)
  pub whole : (i : ℕ) → i < looked → (d : NetId) → Contains (take count nets) (get_or ins i d)

-- one more net behind others, of which it is none
pub once_more : (nets : List NetId) (net : NetId) → IsOnce nets → All (λ (other : NetId). other.0 ≢ net.0) nets → IsOnce (nets ++ net ∷ [])
once_more [] net once apart = ((λ k d lt. absurd (omega (arith, lt))), tt)
once_more (first ∷ nets) net once apart = (
  All-push (λ (other : NetId). other.0 ≢ first.0) nets net once.0 (λ same. apart 0 first (omega arith) (sym same)),
  once_more nets net once.1 (λ k d lt. apart (suc k) d (omega (arith, lt))),
)

-- what a list has is in a longer one
pub contains_left : (xs ys : List NetId) (net : NetId) → Contains xs net → Contains (xs ++ ys) net
contains_left xs ys net there =
    (there.0, omega (arith, length-append xs ys, there.1), get_or_append_left xs ys net there.0 there.1 ∙ there.2)

pub contains_last : (xs : List NetId) (net : NetId) → Contains (xs ++ net ∷ []) net
contains_last xs net = (length xs, omega (arith, length-append xs (net ∷ [])), get_or_push xs net net (length xs) refl)

-- the first of some nets, and none of them
first_of : (ins : List NetId) (i : ℕ) → i < length ins → (d : NetId) → get_or ins i d ≡ get_or ins i (record { 0 = 0 })
first_of ins i lt d = get_or_default ins i d (record { 0 = 0 }) lt

module _ (ins : List NetId) (looked count : ℕ) (nets : List NetId) (found : AreFound ins looked count nets) (lt : looked < length ins) where
  abbrev net : NetId
  net = get_or ins looked (record { 0 = 0 })

  -- a net that was found before
  pub found_again : (p : ℕ) → p < length (take count nets) → (net_at (take count nets) p).0 ≡ net.0 → AreFound ins (looked + 1) count nets
  found_again p within same = record {
    size = found.size;
    few = found.few;
    fewer = omega (arith, found.fewer);
    among = found.among;
    once = found.once;
    whole = λ i less d. elim (cases_lt i looked) as (λ _. Contains (take count nets) (get_or ins i d)) [
      | inl before ↦ found.whole i before d
      | inr most ↦ (
          let here : i ≡ looked = omega (arith, most, less) in
          let there : Contains (take count nets) net = (p, within, get_or_default (take count nets) p net (record { 0 = 0 }) within ∙ ap (λ n. record { 0 = n }) same) in
          subst (Contains (take count nets)) (sym (ap (λ k. get_or ins k d) here ∙ first_of ins looked lt d)) there)
    ];
  }

  -- a new one
  pub found_new : count < 6 → All (λ (other : NetId). other.0 ≢ net.0) (take count nets) → AreFound ins (looked + 1) (count + 1) (set nets count net)
  found_new few apart = record {
    size = length-set nets count net ∙ found.size;
    few = omega (arith, few);
    fewer = omega (arith, found.fewer);
    among = subst (All (Contains ins)) (sym more) (All-push (Contains ins) (take count nets) net found.among (looked, lt, get_or_default ins looked net (record { 0 = 0 }) lt));
    once = subst IsOnce (sym more) (once_more (take count nets) net found.once apart);
    whole = λ i less d. subst (λ (all : List NetId). Contains all (get_or ins i d)) (sym more) (elim (cases_lt i looked) as (λ _. Contains (take count nets ++ net ∷ []) (get_or ins i d)) [
      | inl before ↦ contains_left (take count nets) (net ∷ []) (get_or ins i d) (found.whole i before d)
      | inr most ↦ (
          let here : i ≡ looked = omega (arith, most, less) in
          subst (Contains (take count nets ++ net ∷ [])) (sym (ap (λ k. get_or ins k d) here ∙ first_of ins looked lt d)) (contains_last (take count nets) net))
    ]);
  }
    where
      more : take (count + 1) (set nets count net) ≡ take count nets ++ net ∷ []
      more = take_more_set nets count net (omega (arith, few, found.size))

-- six nets of seven are all that are kept
pub all_six : (nets : List NetId) → length nets ≡ 6 → take 7 nets ≡ nets
all_six nets size = take_all 7 nets (omega (arith, size))

pub six : (nets : List NetId) → length nets ≡ 6 → take 6 nets ≡ nets
six nets size = take_all 6 nets (omega (arith, size))

-- ALL WERE LOOKED AT: they are the nets of the list, each once
pub are_reads : (ins : List NetId) (looked count : ℕ) (nets : List NetId) → AreFound ins looked count nets → length ins ≤ looked → AreReads ins count nets
are_reads ins looked count nets found all = record {
  size = found.size;
  among = found.among;
  once = found.once;
  whole = λ few i d lt. found.whole i (omega (arith, lt, all)) d;
  wide = λ many. absurd (omega (arith, many, found.few));
}

-- a seventh is too many
pub too_many : (ins : List NetId) (looked : ℕ) (nets : List NetId) → AreFound ins looked 6 nets → looked < length ins → AreReads ins 7 nets
too_many ins looked nets found lt =
    let same : take 6 nets ≡ take 7 nets = six nets found.size ∙ sym (all_six nets found.size) in
    record {
      size = found.size;
      among = subst (All (Contains ins)) same found.among;
      once = subst IsOnce same found.once;
      whole = λ few. absurd (omega (arith, few));
      wide = λ _. omega (arith, found.fewer, lt);
    }

-- ---- where a net stands

pub place_found : (found : Option ℕ) (none : Type 0) (some : ℕ → Type 0) → MatchOption found none some → is_some found ≡ true → (place : ℕ) × some place
place_found None none some is e = absurd (cc)
place_found (Some place) none some is e = (place, is)

pub none_found : (found : Option ℕ) (none : Type 0) (some : ℕ → Type 0) → MatchOption found none some → is_some found ≡ false → none
none_found None none some is e = is
none_found (Some place) none some is e = absurd (cc)
