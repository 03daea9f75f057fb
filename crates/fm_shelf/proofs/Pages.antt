-- What went out of a page, and what waits in it.
use Rattle.std.proofs.Common.{◌≡◌, ℕ, ◌+◌, ◌-◌, ◌≤◌, List, [], ◌++◌, length, take, drop, refl, ap, sym, ◌∙◌, arith}
use Rattle.std.specs.Prelude.{Option, Some, None, Result, Ok, Err, OnErr}
use Rattle.std.proofs.lemmas.List.{append-nil, drop-drop, take-append-drop}
use Rattle.fm_shelf.specs.Sink.{SinkState, Wrote, with_more}
use Rattle.fm_shelf.proofs.Sends.{with_more-append}

pub with_more-none : (start : Option (List ℕ)) → with_more start [] ≡ start
with_more-none None = refl
with_more-none (Some written) = ap (λ w. Some w) (append-nil written)

-- how far a piece went out from a place on
pub record GoesOut (start now : SinkState) (piece : List ℕ) (from sent : ℕ) : Type 0 where
  pub forward : from ≤ sent
  pub within : sent - from ≤ length piece - from
  pub written : Wrote start now (take (sent - from) (drop from piece))
  pub grows : start.faults ≤ now.faults

pub goes_first : (start : SinkState) (piece : List ℕ) (from : ℕ) → GoesOut start start piece from from
goes_first start piece from =
    let none : from - from ≡ 0 = omega arith in
    record {
      forward = omega arith;
      within = omega arith;
      written = sym (ap (λ k. with_more start.written (take k (drop from piece))) none ∙ with_more-none start.written);
      grows = omega arith;
    }

-- what went out and what still waits are all that was written
pub waits_is : (start now : Option (List ℕ)) (page : List ℕ) (from sent : ℕ) → from ≤ sent → now ≡ with_more start (take (sent - from) (drop from page))
    → with_more now (drop sent page) ≡ with_more start (drop from page)
waits_is start now page from sent le e =
    let place : from + (sent - from) ≡ sent = omega arith in
    let left : drop sent page ≡ drop (sent - from) (drop from page) = sym (drop-drop (sent - from) from page ∙ ap (λ k. drop k page) place) in
    ap (λ w. with_more w (drop sent page)) e ∙ with_more-append start (take (sent - from) (drop from page)) (drop sent page)
    ∙ ap (with_more start) (ap (λ rest. take (sent - from) (drop from page) ++ rest) left ∙ take-append-drop (sent - from) (drop from page))

pub on_err : {T E P : Type 0} (r : Result T E) → P → OnErr r P
on_err (Ok x) p = tt
on_err (Err e) p = p
