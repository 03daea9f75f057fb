-- What a table takes away, and that it takes nothing more then.
use Rattle.std.proofs.Common.{◌≡◌, ◌≢◌, inl, ℕ, zero, suc, ◌<◌, Bool, true, false, ◌&&◌, List, [], ◌∷◌, length, refl, ap, sym, ◌∙◌, arith}
use Rattle.std.specs.Prelude.{◌==◌}
use Rattle.std.proofs.lemmas.Bool.{eqb-true}
use Rattle.std.proofs.lemmas.List.Elements.{All-contains, Contains-get_or}
use Rattle.fm_base.proofs.Tests.{and_both, both_true, false_of}
use Rattle.circuit.specs.Order.{net_at}
use Rattle.circuit.specs.declared.parts.NetId.{NetId}
use Rattle.coverage_claim.specs.Rules.{Sets, only}
use Rattle.coverage_claim.specs.Stretch.{Stretch}
use Rattle.coverage_claim.specs.declared.parts.Site.{Site}
use Rattle.pair_sets.specs.Choice.{IsLeft, set_at}
use Rattle.pair_sets.specs.Pairs.{has}
use Rattle.pair_sets.specs.Tables.{IsLeftOf, IsOnce, IsSetOf}
use Rattle.pair_sets.specs.declared.pairs.PairSet.{PairSet}
use Rattle.region_search.proofs.Narrowing.{cut_other, cut_there}
use Rattle.region_search.specs.Going.{IsFurther}
use Rattle.region_search.specs.declared.search.Search.{Search}
use Rattle.region_search.specs.Settled.{IsTableSettled}
use Rattle.region_search.specs.Steps.{AreCut}

-- what is left to do grows less and less
pub further_more : (old middle new : Search) → IsFurther old middle → IsFurther middle new → IsFurther old new
further_more old middle new first second = record {
  less = omega (arith, first.less, second.less);
  idle = λ e. second.idle (omega (arith, e, first.less, second.less)) ∙ first.idle (omega (arith, e, first.less, second.less));
}

-- each net stands at one place alone
once_at : (nets : List NetId) → IsOnce nets → (i j : ℕ) → i < length nets → j < length nets → (net_at nets i).0 ≡ (net_at nets j).0 → i ≡ j
once_at [] once i j lt less same = absurd (omega (arith, lt))
once_at (net ∷ nets) once zero zero lt less same = refl
once_at (net ∷ nets) once zero (suc j) lt less same = absurd (All-contains (λ (other : NetId). other.0 ≢ net.0) nets (net_at nets j) once.0 (Contains-get_or nets j (record { 0 = 0 }) (omega (arith, less))) (sym same))
once_at (net ∷ nets) once (suc i) zero lt less same = absurd (All-contains (λ (other : NetId). other.0 ≢ net.0) nets (net_at nets i) once.0 (Contains-get_or nets i (record { 0 = 0 }) (omega (arith, lt))) same)
once_at (net ∷ nets) once (suc i) (suc j) lt less same = let rest = once_at nets once.1 i j (omega (arith, lt)) (omega (arith, less)) same in omega (arith, rest)

same_of : (x y : Bool) → (x ≡ true → y ≡ true) → (y ≡ true → x ≡ true) → x ≡ y
same_of true true to back = refl
same_of true false to back = (let e : false ≡ true = to refl in absurd (cc))
same_of false true to back = (let e : false ≡ true = back refl in absurd (cc))
same_of false false to back = refl

-- what a choice leaves it leaves again
left_again : (truth : ℕ) (site : Site) (reads : List PairSet) (own : PairSet) (left : List PairSet) (own_left : PairSet) → IsLeft truth site reads own left own_left
    → IsLeft truth site left own_left left own_left
left_again truth site reads own left own_left is = record {
  count = refl;
  among = λ i a b e. e;
  own_among = λ a b e. e;
  keeps = λ golden faulty a b agree. agree;
  supported = is.supported;
  own_supported = is.own_supported;
}

-- q: the sets before; half: without what the nets that are read lose; left: and without what the own net loses
module _ (s : Stretch) (q half left : Sets) (frame k : ℕ) (own : NetId) (reads : List NetId) (truth : ℕ) (lefts : List PairSet) (own_left : PairSet)
    (of : IsLeftOf s q frame k own reads truth lefts own_left) (are : AreCut frame (λ i. (net_at reads i).0) (λ i. has (set_at lefts i)) (length reads) q half)
    (cut : (i n : ℕ) (a b : Bool) → left i n a b ≡ only half frame own.0 (has own_left) i n a b) where
  apart : (i : ℕ) → i < length reads → (net_at reads i).0 ≢ own.0
  apart i lt = of.is_truth.apart i (record { 0 = 0 }) lt

  count : length lefts ≡ length reads
  count = of.is_left.count ∙ of.are.count

  read_same : (i : ℕ) → i < length reads → IsSetOf left frame (net_at reads i) (set_at lefts i)
  read_same i lt a b = same_of (has (set_at lefts i) a b) (left frame (net_at reads i).0 a b)
      (λ e. elsewhere ∙ are.kept frame (net_at reads i).0 a b (sym (of.are.each i lt a b) ∙ of.is_left.among i a b e)
      (λ j less _ same. (let one = once_at reads of.is_truth.once j i less lt same in ap (λ n. has (set_at lefts n) a b) one ∙ e)))
      (λ e. are.done i lt a b (sym elsewhere ∙ e))
    where
      elsewhere : left frame (net_at reads i).0 a b ≡ half frame (net_at reads i).0 a b
      elsewhere = cut_other half left frame own.0 (has own_left) cut frame (net_at reads i).0 a b
          (false_of (frame == frame && (net_at reads i).0 == own.0) (λ it. apart i lt (eqb-true (net_at reads i).0 own.0 (and_both (frame == frame) ((net_at reads i).0 == own.0) it).1)))

  own_same : IsSetOf left frame own own_left
  own_same a b = same_of (has own_left a b) (left frame own.0 a b)
      (λ e. cut_there half left frame own.0 (has own_left) cut a b
      ∙ both_true (half frame own.0 a b) (has own_left a b)
      (are.kept frame own.0 a b (sym (of.own_is a b) ∙ of.is_left.own_among a b e) (λ j less _ same. absurd (apart j less same))) e)
      (λ e. (and_both (half frame own.0 a b) (has own_left a b) (sym (cut_there half left frame own.0 (has own_left) cut a b) ∙ e)).1)

  -- AND THEN IT TAKES NOTHING AWAY
  pub table_settled : IsTableSettled s left frame k own
  table_settled = inl (record {
    reads = reads;
    truth = truth;
    left = lefts;
    own_left = own_left;
    is_left = record {
      sets = lefts;
      own_set = own_left;
      within = of.within;
      is_truth = of.is_truth;
      are = record { count = count; each = read_same };
      own_is = own_same;
      is_left = left_again truth (s.region own.0) of.sets of.own_set lefts own_left of.is_left;
    };
    same = record { count = count; each = read_same };
    own_same = own_same;
  })
