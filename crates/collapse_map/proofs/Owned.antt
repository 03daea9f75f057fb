-- One more number of a list, which may be that of its place.
use Rattle.std.proofs.Common.{◌≡◌, ◌≢◌, ℕ, suc, ◌+◌, ◌<◌, Bool, true, false, cond, List, [], ◌∷◌, ◌++◌, length, map, get_or, refl, ap, sym, ◌∙◌, arith, add-one}
use Rattle.std.specs.Prelude.{count_by, ◌==◌}
use Rattle.std.proofs.lemmas.Bool.{eqb-true}
use Rattle.fm_base.proofs.Tests.{false_of}
use Rattle.std.proofs.lemmas.List.FromFn.{get_or-map-range_with_len}
use Rattle.std.proofs.lemmas.List.Sums.{sum_by_push}
use Rattle.std.specs.List.{All}
use Rattle.circuit.specs.declared.parts.NetId.{NetId}
use Rattle.circuit.specs.Order.{IsOrder}
use Rattle.circuit.specs.Sound.{IsNet, IsNetlist}
use Rattle.collapse_map.specs.Collapsed.{AreFaultsOf, Collapsed, HoldsRepresentatives, rep_count, rep_of}
use Rattle.fm_base.specs.Lists.{below}
use Rattle.fm_base.proofs.Below.{below_push, count_below}

pub number_at : (numbers : List ℕ) (f : ℕ → ℕ) (i : ℕ) → i < length numbers → numbers ≡ map f (below (length numbers)) → get_or numbers i 0 ≡ f i
unfolding below
number_at numbers f i lt e = ap (λ (xs : List ℕ). get_or xs i 0) e ∙ get_or-map-range_with_len f 0 (length numbers) i i 0 lt (omega arith)

pub unequal : (a b : ℕ) → a ≢ b → (a == b) ≡ false
unequal a b apart = false_of (a == b) (λ e. apart (eqb-true a b e))

pub counted_yes : (p : ℕ → Bool) (i : ℕ) → p i ≡ true → count_by p (below (i + 1)) ≡ count_by p (below i) + 1
counted_yes p i e = count_below p i ∙ ap (λ b. count_by p (below i) + cond b 1 0) e

pub counted_no : (p : ℕ → Bool) (i : ℕ) → p i ≡ false → count_by p (below (i + 1)) ≡ count_by p (below i) + 0
counted_no p i e = count_below p i ∙ ap (λ b. count_by p (below i) + cond b 1 0) e

-- all that is kept
pub holds_all : (s : Collapsed) (order : List NetId) (reps : List ℕ) (count : ℕ) → IsNetlist s.circuit → IsOrder s.circuit order → AreFaultsOf s.circuit s.faults → All (IsNet s.circuit) s.watched
    → reps ≡ map (rep_of s) (below (length s.faults)) → count ≡ count_by (λ i. rep_of s i == i) (below (length s.faults)) → HoldsRepresentatives s reps count
unfolding rep_count
holds_all s order reps count sound ordered listed nets numbers own =
    record { sound = sound; order = order; ordered = ordered; listed = listed; nets = nets; numbers = numbers; own = own }
