-- Simple proofs: what is proved simply where more may happen, or with a shorter window, is where less may, and with a longer one.
use Rattle.std.proofs.Common.{◌≡◌, ◌⊎◌, inl, inr, ℕ, ◌+◌, ◌<◌, ◌≤◌, Bool, true, arith}
use Rattle.std.proofs.lemmas.Bool.{cases_Bool}
use Rattle.fm_base.specs.Lists.{same_bit}
use Rattle.fm_base.proofs.Tests.{and_both, both_true, clash, false_of}
use Rattle.circuit.specs.declared.parts.Latch.{Latch}
use Rattle.coverage_claim.specs.Claim.{Claim, initial, lead_in, leaves, window_of}
use Rattle.coverage_claim.specs.Largest.{AreSettled, IsGone, IsProvedSimply, IsRefuted}
use Rattle.coverage_claim.specs.Region.{Region, may_show}
use Rattle.coverage_claim.specs.Rules.{Sets, by_table, by_latch, by_next, by_input, by_hold, by_silence, by_start}
use Rattle.coverage_claim.specs.Stretch.{Pairs, Stretch}
use Rattle.claim_search.proofs.Regions.{leaves_less}

-- a stretch with another region, and other starts, of fewer frames and fewer silent ones
abbrev pub wider : Stretch → Region → (Latch → Pairs) → (last until : ℕ) → Stretch
wider s more start last until = record {
  circuit = s.circuit;
  region = more;
  held = s.held;
  first = s.first;
  last = last;
  silent = s.silent;
  until = until;
  start = start;
}

module _ (s : Stretch) (more : Region) (start : Latch → Pairs) (last until : ℕ)
    (less : (n : ℕ) (own shown : Bool) → may_show (s.region n) own shown ≡ true → may_show (more n) own shown ≡ true)
    (starts : (latch : Latch) (a b : Bool) → s.start latch a b ≡ true → start latch a b ≡ true) (within : last ≤ s.last) (loud : until ≤ s.until) where
  in_it : (frame : ℕ) → frame ≤ last → frame ≤ s.last
  in_it frame le = omega (arith, le, within)

  before_it : (frame : ℕ) → frame < last → frame < s.last
  before_it frame lt = omega (arith, lt, within)

  in_silence : (frame : ℕ) → frame ≤ until → frame ≤ s.until
  in_silence frame le = omega (arith, le, loud)

  -- SETS THAT ARE SETTLED with less are so with more
  pub settled_wider : (r : Sets) → AreSettled s r → AreSettled (wider s more start last until) r
  settled_wider r settled frame net a b le e (by_table k own here is driver none) =
      settled frame net a b (in_it frame le) e (by_table k own (in_it frame le) is driver (λ golden faulty agree. none golden faulty
      (record { own = agree.own; reads = agree.reads; golden_is = agree.golden_is; faulty_may = less own.0 _ _ agree.faulty_may })))
  settled_wider r settled frame net a b le e (by_latch before l latch next lt at own none) =
      settled frame net a b (in_it frame le) e (by_latch before l latch next (before_it _ lt) at own (λ golden faulty agree. none golden faulty
      (record { read = agree.read; own = agree.own; golden_is = agree.golden_is; faulty_may = less latch.to.0 _ _ agree.faulty_may })))
  settled_wider r settled frame net a b le e (by_next l latch lt at own none) =
      settled frame net a b (in_it frame le) e (by_next l latch (before_it _ lt) at own (λ golden faulty agree. none golden faulty
      (record { read = agree.read; own = agree.own; golden_is = agree.golden_is; faulty_may = less latch.to.0 _ _ agree.faulty_may })))
  settled_wider r settled frame net a b le e (by_input k own here is driver same wrong) =
      settled frame net a b (in_it frame le) e (by_input k own (in_it frame le) is driver same
      (false_of (may_show (s.region net) a b) (λ may. clash (may_show (more net) a b) (less net a b may) wrong)))
  settled_wider r settled frame net a b le e (by_hold h value here has_it same is apart) =
      settled frame net a b (in_it frame le) e (by_hold h value (in_it frame le) has_it same is apart)
  settled_wider r settled frame net a b le e (by_silence own here has_it same heard) =
      settled frame net a b (in_it frame le) e (by_silence own (in_it frame le) has_it same (elim heard as (λ _. (a ≡ true) ⊎ ((b ≡ true) × (frame ≤ s.until))) [
        | inl golden ↦ inl golden
        | inr faulty ↦ inr (faulty.0, in_silence frame faulty.1)
      ]))
  settled_wider r settled frame net a b le e (by_start l latch begins at same wrong) =
      settled frame net a b (in_it frame le) e (by_start l latch begins at same
      (false_of (s.start latch a b) (λ there. clash (start latch a b) (starts latch a b there) wrong)))

  -- so what is refuted or gone with more is so with less
  pub refuted_wider : (frame net : ℕ) (a b : Bool) → IsRefuted (wider s more start last until) frame net a b → IsRefuted s frame net a b
  refuted_wider frame net a b refuted r settled alone = refuted r (settled_wider r settled) alone

  pub gone_wider : (frame net : ℕ) (a b : Bool) → IsGone (wider s more start last until) frame net a b → IsGone s frame net a b
  gone_wider frame net a b gone r settled = gone r (settled_wider r settled)

pub le_self : (n : ℕ) → n ≤ n
le_self n = omega arith

-- the claim where more may happen, with another window
abbrev pub with_more : Claim → Region → (window : ℕ) → Claim
with_more claim more window = record claim { region = more; window = window }

initial_less : (claim : Claim) (more : Region) → ((n : ℕ) (own shown : Bool) → may_show (claim.region n) own shown ≡ true → may_show (more n) own shown ≡ true)
    → (latch : Latch) (a b : Bool) → initial claim.region latch a b ≡ true → initial more latch a b ≡ true
initial_less claim more less latch a b e =
    let both = and_both (same_bit a latch.start) (may_show (claim.region latch.to.0) latch.start b) e in
    both_true (same_bit a latch.start) (may_show (more latch.to.0) latch.start b) both.0 (less latch.to.0 latch.start b both.1)

-- PROVED SIMPLY where more may happen and with a shorter window
pub simply_less : (claim : Claim) (more : Region) (window : ℕ) → ((n : ℕ) (own shown : Bool) → may_show (claim.region n) own shown ≡ true → may_show (more n) own shown ≡ true)
    → window ≤ claim.window → IsProvedSimply (with_more claim more window) → IsProvedSimply claim
simply_less claim more window less shorter proof = record {
  same = λ i d lt a b e. refuted_wider (window_of claim) more claim.apart (window + claim.ahead) window less (λ latch x y there. there) within shorter 0 _ a b (proof.same i d lt a b e);
  again = λ l latch at a b e. refuted_wider (window_of claim) more claim.apart (window + claim.ahead) window less (λ latch x y there. there) within shorter 0 latch.from.0 a b
      (proof.again l latch at a b (leaves_so latch a b e));
  begins = λ l latch at a b e. gone_wider (lead_in claim) more (initial more) claim.from 0 less (initial_less claim more less) (le_self claim.from) (le_self 0) claim.from latch.to.0 a b
      (proof.begins l latch at a b e);
}
  where
    within : window + claim.ahead ≤ claim.window + claim.ahead
    within = omega (arith, shorter)

    leaves_so : (latch : Latch) (a b : Bool) → leaves claim latch a b ≡ true → leaves (with_more claim more window) latch a b ≡ true
    leaves_so latch a b e = elim (cases_Bool (leaves (with_more claim more window) latch a b)) as (λ _. leaves (with_more claim more window) latch a b ≡ true) [
      | inl there ↦ there
      | inr out ↦ absurd (clash (leaves claim latch a b) e (leaves_less claim more less claim.apart latch a b out))
    ]
