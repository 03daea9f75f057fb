-- What a collapse tells of a fault by the numbers that it keeps.
use Rattle.std.proofs.Common.{◌≡◌, ℕ, ◌<◌, List, length, get_or, ap, sym, subst, ◌∙◌, arith}
use Rattle.std.proofs.lemmas.List.FromFn.{length-map-range_with_len, get_or-map-range_with_len}
use Rattle.std.specs.List.{All}
use Rattle.circuit.specs.declared.parts.Fault.{Fault}
use Rattle.circuit.specs.declared.parts.NetId.{NetId}
use Rattle.circuit.specs.Order.{IsOrder}
use Rattle.circuit.specs.Sound.{IsNet, IsNetlist}
use Rattle.fault_list.specs.Faults.{fault_at}
use Rattle.fm_base.specs.Lists.{below}
use Rattle.collapse_map.specs.Collapsed.{AreFaultsOf, Collapsed, HoldsRepresentatives, number_in_list, rep_of}
use Rattle.collapse_map.specs.Next.{representative}
use Rattle.collapse_map.specs.Same.{LookSame}
use Rattle.collapse_map.proofs.Chain.{representative_last, representative_own, representative_same}
use Rattle.collapse_map.proofs.Numbered.{rep_there}

-- the number that is kept for fault i is that of its representative, which is a fault of the list and looks the same
pub record Tells (s : Collapsed) (reps : List ℕ) (i : ℕ) : Type 0 where
  pub within : i < length reps
  pub number : (d : ℕ) → get_or reps i d ≡ rep_of s i
  pub listed : rep_of s i < length s.faults
  pub fault : fault_at s.faults (rep_of s i) ≡ representative s.circuit s.watched (fault_at s.faults i)
  pub same : LookSame s.circuit s.watched (fault_at s.faults i) (fault_at s.faults (rep_of s i))

pub kept_tells : (s seen : Collapsed) (reps : List ℕ) (count i : ℕ) → s ≡ seen → HoldsRepresentatives s reps count → i < length seen.faults → Tells seen reps i
unfolding below
kept_tells s seen reps count i same holds lt =
    let h : HoldsRepresentatives seen reps count = subst (λ x. HoldsRepresentatives x reps count) same holds in
    let n : ℕ = length seen.faults in
    let there = rep_there seen h.sound h.listed i lt in
    record {
      within = omega (arith, ap length h.numbers ∙ length-map-range_with_len (rep_of seen) 0 n);
      number = λ d. ap (λ (ns : List ℕ). get_or ns i d) h.numbers ∙ get_or-map-range_with_len (rep_of seen) 0 n i i d lt (omega arith);
      listed = there.0;
      fault = there.1;
      same = subst (LookSame seen.circuit seen.watched (fault_at seen.faults i)) (sym there.1)
          (representative_same seen.circuit h.order seen.watched h.sound h.ordered h.nets (fault_at seen.faults i));
    }

-- the same of a slice of these numbers
pub lent_tells : (s seen : Collapsed) (reps lent : List ℕ) (count i : ℕ) → s ≡ seen → HoldsRepresentatives s reps count → lent ≡ reps → i < length seen.faults → Tells seen lent i
lent_tells s seen reps lent count i same holds is lt = subst (λ (ns : List ℕ). Tells seen ns i) (sym is) (kept_tells s seen reps count i same holds lt)

-- the representative of a fault is its own
pub rep_again : (s : Collapsed) (order : List NetId) → IsNetlist s.circuit → IsOrder s.circuit order → AreFaultsOf s.circuit s.faults → (i : ℕ) → i < length s.faults → rep_of s (rep_of s i) ≡ rep_of s i
unfolding rep_of
rep_again s order sound ordered listed i lt =
    let f : Fault = fault_at s.faults i in
    ap (λ (g : Fault). number_in_list s.faults (representative s.circuit s.watched g)) (rep_there s sound listed i lt).1
    ∙ ap (number_in_list s.faults) (representative_own s.circuit s.watched (representative s.circuit s.watched f) (representative_last s.circuit order s.watched sound ordered f))

-- a fault and its representative look the same
pub looks_same : (s : Collapsed) (order : List NetId) → IsNetlist s.circuit → IsOrder s.circuit order → AreFaultsOf s.circuit s.faults → All (IsNet s.circuit) s.watched → (i : ℕ) → i < length s.faults
    → LookSame s.circuit s.watched (fault_at s.faults i) (fault_at s.faults (rep_of s i))
looks_same s order sound ordered listed nets i lt =
    subst (LookSame s.circuit s.watched (fault_at s.faults i)) (sym (rep_there s sound listed i lt).1)
    (representative_same s.circuit order s.watched sound ordered nets (fault_at s.faults i))
