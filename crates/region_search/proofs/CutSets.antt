-- Sets that are cut at one net after the other.
use Rattle.std.proofs.Common.{◌≡◌, inl, inr, ℕ, ◌+◌, Bool, true, ◌&&◌, ap, ap₂, sym, ◌∙◌, arith}
use Rattle.std.specs.Prelude.{◌==◌, if◌then◌else◌}
use Rattle.std.proofs.lemmas.Bool.{cases_Bool, cases_lt, eqb-true}
use Rattle.fm_base.proofs.Tests.{and_both, both_true}
use Rattle.coverage_claim.specs.Rules.{Sets, only}
use Rattle.coverage_claim.specs.Stretch.{Pairs}
use Rattle.region_search.proofs.Narrowing.{cut_among, cut_other, cut_there}
use Rattle.region_search.specs.Steps.{AreCut}

-- at first nothing has gone
pub none_cut : (frame : ℕ) (net_of : ℕ → ℕ) (passes : ℕ → Pairs) (q : Sets) → AreCut frame net_of passes 0 q q
none_cut frame net_of passes q = record {
  among = λ i n a b e. e;
  done = λ j lt. absurd (omega (arith, lt));
  kept = λ i n a b e _. e;
}

-- and one net more
pub cut_more : (frame : ℕ) (net_of : ℕ → ℕ) (passes : ℕ → Pairs) (count : ℕ) (q half left : Sets) → AreCut frame net_of passes count q half
    → ((i n : ℕ) (a b : Bool) → left i n a b ≡ only half frame (net_of count) (passes count) i n a b) → AreCut frame net_of passes (count + 1) q left
cut_more frame net_of passes count q half left are cut = record {
  among = λ i n a b e. are.among i n a b (cut_among half left frame (net_of count) (passes count) cut i n a b e);
  done = λ j lt a b e. elim (cases_lt j count) as (λ _. passes j a b ≡ true) [
    | inl before ↦ are.done j before a b (cut_among half left frame (net_of count) (passes count) cut frame (net_of j) a b e)
    | inr last ↦ (
        let same : j ≡ count = omega (arith, lt, last) in
        let there : left frame (net_of count) a b ≡ true = ap (λ k. left frame (net_of k) a b) (sym same) ∙ e in
        ap (λ k. passes k a b) same ∙ (and_both (half frame (net_of count) a b) (passes count a b) (sym (cut_there half left frame (net_of count) (passes count) cut a b) ∙ there)).1)
  ];
  kept = λ i n a b e all. (
      let still : half i n a b ≡ true = are.kept i n a b e (λ j lt. all j (omega (arith, lt))) in
      elim (cases_Bool (i == frame && n == net_of count)) as (λ _. left i n a b ≡ true) [
        | inr other ↦ cut_other half left frame (net_of count) (passes count) cut i n a b other ∙ still
        | inl it ↦ (
            let parts = and_both (i == frame) (n == net_of count) it in
            let here : i ≡ frame = eqb-true i frame parts.0 in
            let there : n ≡ net_of count = eqb-true n (net_of count) parts.1 in
            ap₂ (λ k m. left k m a b) here there ∙ cut_there half left frame (net_of count) (passes count) cut a b
            ∙ both_true (half frame (net_of count) a b) (passes count a b) (sym (ap₂ (λ k m. half k m a b) here there) ∙ still) (all count (omega arith) here (sym there)))
      ]);
}

-- a cut in other words: at its net and its pairs
pub only_as : (half left : Sets) (frame net at : ℕ) (test passes : Pairs) → net ≡ at → ((a b : Bool) → test a b ≡ passes a b)
    → ((i n : ℕ) (a b : Bool) → left i n a b ≡ only half frame net test i n a b) → (i n : ℕ) (a b : Bool) → left i n a b ≡ only half frame at passes i n a b
only_as half left frame net at test passes same is cut i n a b =
    cut i n a b ∙ ap₂ (λ m (p : Bool). half i n a b && (if i == frame && n == m then p else true)) same (is a b)
