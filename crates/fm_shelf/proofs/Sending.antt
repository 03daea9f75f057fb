-- Texts that go out one after the other.
use Rattle.std.proofs.Common.{◌≡◌, ℕ, zero, suc, ◌+◌, ◌<◌, ◌≤◌, Bool, true, false, List, [], ◌∷◌, ◌++◌, Ok, Err, get_or, take, drop, length, append_assoc, subst, sym, ap, ◌∙◌, arith, refl}
use Rattle.std.specs.Prelude.{Option, Some, None, Result, nat_lt}
use Rattle.std.specs.List.{flat_map}
use Rattle.std.proofs.lemmas.List.{append-nil, take_more}
use Rattle.std.proofs.lemmas.List.Concat.{flat_map-append}
use Rattle.std.proofs.lemmas.Result.{on_ok_weaker, on_err_weaker}
use Rattle.fm_shelf.specs.declared.shelf.Failed.{Failed}
use Rattle.fm_shelf.specs.Sink.{SinkState, with_more, Sends}
use Rattle.fm_shelf.proofs.Sends.{prefix_more, prefix_after, with_more-append, flat_map_at}
use Rattle.fm_base.specs.Lists.{below}
use Rattle.fm_base.specs.Names.{Bytes}
use Rattle.fm_base.proofs.Below.{below_push}

-- what a call that writes answers
abbrev pub Answer : Type 0
Answer = Result (Unit {0}) Failed

pub written_none : (written : Option Bytes) → written ≡ with_more written []
written_none None = refl
written_none (Some written) = ap (λ w. Some w) (sym (append-nil written))

-- nothing went out yet
pub sends_none : (out : SinkState) → Sends out out [] (Ok tt)
sends_none out = record { ok = written_none out.written; failed = tt; grows = omega arith }

-- one text went out, and the next call's answer is that of both
pub sends_then : {before mid now : SinkState} {a b : Bytes} {v : Unit {0}} {r : Answer}
    → Sends before mid a (Ok v) → Sends mid now b r → Sends before now (a ++ b) r
sends_then {before = before} {mid = mid} {now = now} {a = a} {b = b} {r = r} first next =
    let grown : before.faults ≤ mid.faults = first.grows in
    record {
      ok = on_ok_weaker r (λ more. more ∙ ap (λ w. with_more w b) first.ok ∙ with_more-append before.written a b) next.ok;
      failed = on_err_weaker r (λ torn. (
        λ low. let up : mid.faults < now.faults = torn.0 low in omega arith,
        prefix_after before.written mid.written now.written a b first.ok torn.1,
      )) next.failed;
      grows = omega (arith, first.grows, next.grows);
    }

-- a call failed, so nothing of what would follow went out
pub sends_stop : {before now : SinkState} {a : Bytes} {e : Failed} (b : Bytes) (again : Failed)
    → Sends before now a (Err e) → Sends before now (a ++ b) (Err again)
sends_stop {before = before} {now = now} {a = a} b again stopped = record {
  ok = tt;
  failed = (stopped.failed.0, prefix_more before.written now.written a b stopped.failed.1);
  grows = stopped.grows;
}

-- the same text, written otherwise
pub sends_as : {before now : SinkState} {a b : Bytes} {r : Answer} → a ≡ b → Sends before now a r → Sends before now b r
sends_as {before = before} {now = now} {r = r} e sent = subst (λ text. Sends before now text r) e sent

-- ---- the texts of items, one after the other

module _ {X : Type 0} (text : X → Bytes) (xs : List X) (i : ℕ) (d : X) (lt : i < length xs) where
  more_texts : flat_map text (take i xs) ++ text (get_or xs i d) ≡ flat_map text (take (i + 1) xs)
  more_texts =
      sym (ap (flat_map text) (take_more xs i d lt) ∙ flat_map-append text (take i xs) (get_or xs i d ∷ [])
      ∙ ap (λ t. flat_map text (take i xs) ++ t) (append-nil (text (get_or xs i d))))

  pub sends_more : {before mid now : SinkState} {u v : Unit {0}}
      → Sends before mid (flat_map text (take i xs)) (Ok u) → Sends mid now (text (get_or xs i d)) (Ok v)
      → Sends before now (flat_map text (take (i + 1) xs)) (Ok v)
  sends_more done next = sends_as more_texts (sends_then done next)

  pub sends_torn : {before mid now : SinkState} {u : Unit {0}} {e : Failed} (again : Failed)
      → Sends before mid (flat_map text (take i xs)) (Ok u) → Sends mid now (text (get_or xs i d)) (Err e)
      → Sends before now (flat_map text xs) (Err again)
  sends_torn again done next =
      sends_as (sym (flat_map_at text xs i d lt)) (sends_then done (sends_stop (flat_map text (drop (i + 1) xs)) again next))

-- ---- the texts of numbers from 0 on

module _ (text : ℕ → Bytes) where
  pub sends_no_number : (out : SinkState) → Sends out out (flat_map text (below 0)) (Ok tt)
  unfolding below
  sends_no_number out = sends_none out

  one_number : (i : ℕ) → flat_map text (below i) ++ text i ≡ flat_map text (below (i + 1))
  one_number i =
      let next : suc i ≡ i + 1 = omega arith in
      sym (ap (flat_map text) (below_push i) ∙ flat_map-append text (below i) (i ∷ []) ∙ ap (λ t. flat_map text (below i) ++ t) (append-nil (text i)))
      ∙ ap (λ n. flat_map text (below n)) next

  pub sends_number : {before mid now : SinkState} {u v : Unit {0}} (i : ℕ)
      → Sends before mid (flat_map text (below i)) (Ok u) → Sends mid now (text i) (Ok v)
      → Sends before now (flat_map text (below (i + 1))) (Ok v)
  sends_number i done next = sends_as (one_number i) (sends_then done next)

  -- the texts of the numbers from i + 1 on
  rest_from : (n i : ℕ) → i < n → (rest : List ℕ) × (below n ≡ below i ++ i ∷ rest)
  rest_from zero i lt = absurd (omega (arith, lt))
  rest_from (suc n) i lt = by_cases (nat_lt i n) refl (λ lower. rest_from n i lower)
    where
      by_cases : (b : Bool) → nat_lt i n ≡ b → (i < n → (rest : List ℕ) × (below n ≡ below i ++ i ∷ rest))
          → (rest : List ℕ) × (below (suc n) ≡ below i ++ i ∷ rest)
      by_cases true e found =
          let lower : i < n = grind (arith, e) in
          let rest = found lower in
          (rest.0 ++ n ∷ [], below_push n ∙ ap (λ ks. ks ++ n ∷ []) rest.1 ∙ append_assoc (below i) (i ∷ rest.0) (n ∷ []))
      by_cases false e found =
          let last : n ≡ i = grind (arith, e, lt) in
          ([], below_push n ∙ ap (λ k. below k ++ k ∷ []) last)

  pub sends_number_torn : {before mid now : SinkState} {u : Unit {0}} {e : Failed} (n i : ℕ) (again : Failed) → i < n
      → Sends before mid (flat_map text (below i)) (Ok u) → Sends mid now (text i) (Err e)
      → Sends before now (flat_map text (below n)) (Err again)
  sends_number_torn n i again lt done next =
      let rest = rest_from n i lt in
      let whole : flat_map text (below i) ++ (text i ++ flat_map text rest.0) ≡ flat_map text (below n) =
      sym (ap (flat_map text) rest.1 ∙ flat_map-append text (below i) (i ∷ rest.0)) in
      sends_as whole (sends_then done (sends_stop (flat_map text rest.0) again next))
