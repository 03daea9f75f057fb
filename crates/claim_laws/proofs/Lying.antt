-- What faults within a region do to nets and to latches.
use Rattle.std.proofs.Common.{◌≡◌, inl, inr, ℕ, zero, suc, Bool, true, false, List, [], ◌∷◌, get_or, refl, ap, sym, ◌∙◌, arith, Some}
use Rattle.std.specs.Prelude.{◌==◌, Contains, if◌then◌else◌}
use Rattle.std.specs.List.{All, slice_get, list_any}
use Rattle.std.specs.Option.{option_map_or}
use Rattle.std.proofs.lemmas.Bool.{cases_Bool, eq-eqb, eqb-true}
use Rattle.std.proofs.lemmas.List.Elements.{All-head, All-tail}
use Rattle.std.proofs.lemmas.List.Folds.{list_any_none}
use Rattle.fm_base.specs.Lists.{same_bit}
use Rattle.fm_base.proofs.Tests.{and_both, clash, false_of}
use Rattle.circuit.specs.declared.parts.Fault.{Fault}
use Rattle.circuit.specs.declared.parts.Fault.TheVariants.{Stuck, Flip, Pulse}
use Rattle.circuit.specs.declared.parts.Latch.{Latch}
use Rattle.circuit.specs.declared.parts.NetId.{NetId}
use Rattle.circuit.specs.Circuit.{Circuit}
use Rattle.circuit.specs.Effects.{affected, forced, has_flip, has_pulse, inverted, is_flip_of}
use Rattle.circuit.specs.Value.{bit_at}
use Rattle.lane_words.specs.Loads.{is_on}
use Rattle.lane_words.proofs.Armed.{lane_free}
use Rattle.reach.specs.Paths.{ActsOn}
use Rattle.reach.proofs.Unreached.{same_net}
use Rattle.coverage_claim.specs.declared.parts.Site.{Site}
use Rattle.coverage_claim.specs.declared.parts.Site.TheVariants.{Intact, Free, Only}
use Rattle.claim_laws.specs.Faults.{KeepsTo}
use Rattle.coverage_claim.specs.Region.{may_show}
use Rattle.claim_laws.specs.Laws.{FaultsLieWithin, MarkedLieWithin, OneFaultLiesWithin, free_at}
use Rattle.claim_laws.proofs.Finding.{later}

pub same_self : (b : Bool) → same_bit b b ≡ true
same_self true = refl
same_self false = refl

-- a fault that changes a net or flips a latch acts there
on_acts : (c : Circuit) (net : NetId) (fault : Fault) → is_on net.0 fault ≡ true → ActsOn c net fault
on_acts c net (Stuck n value) e = same_net n net (eqb-true n.0 net.0 e)
on_acts c net (Flip l cycle) e = absurd (cc)
on_acts c net (Pulse n cycle) e = same_net n net (eqb-true n.0 net.0 e)

flip_acts : (c : Circuit) (l : ℕ) (latch : Latch) (t : ℕ) (fault : Fault) → slice_get c.latches l ≡ Some latch → is_flip_of l t fault ≡ true → ActsOn c latch.to fault
flip_acts c l latch t (Stuck n value) at e = absurd (cc)
flip_acts c l latch t (Flip m cycle) at e = (latch, ap (slice_get c.latches) (eqb-true m l (and_both _ _ e).0) ∙ at, refl)
flip_acts c l latch t (Pulse n cycle) at e = absurd (cc)

module _ (c : Circuit) (net : NetId) where
  -- a net that is only stuck has that value
  only_stuck : (value own : Bool) (faults : List Fault) → Contains faults (Stuck net value) → All (λ fault. ActsOn c net fault → fault ≡ Stuck net value) faults
      → forced faults net.0 own ≡ value
  only_stuck value own [] has all = absurd (omega (arith, has.1))
  only_stuck value own (Stuck n v ∷ faults) has all = elim (cases_Bool (n.0 == net.0)) as (λ _. (if n.0 == net.0 then v else forced faults net.0 own) ≡ value) [
    | inl e ↦ (
        let is : Stuck n v ≡ Stuck net value = All-head (λ fault. ActsOn c net fault → fault ≡ Stuck net value) (Stuck n v) faults all (same_net n net (eqb-true n.0 net.0 e)) in
        let same : v ≡ value = cc in
        rw e same)
    | inr e ↦ rw e (only_stuck value own faults (rest e) (All-tail (λ fault. ActsOn c net fault → fault ≡ Stuck net value) (Stuck n v) faults all))
  ]
    where
      rest : (n.0 == net.0) ≡ false → Contains faults (Stuck net value)
      rest e = elim (later (Stuck n v) (Stuck net value) faults has) [
        | inl is ↦ (let same : n ≡ net = cc in absurd (clash (n.0 == net.0) (eq-eqb n.0 net.0 (ap (λ (m : NetId). m.0) same)) e))
        | inr more ↦ more
      ]
  only_stuck value own (Flip l t ∷ faults) has all =
      only_stuck value own faults (elim (later (Flip l t) (Stuck net value) faults has) [ inl is ↦ absurd (cc) | inr more ↦ more ])
      (All-tail (λ fault. ActsOn c net fault → fault ≡ Stuck net value) (Flip l t) faults all)
  only_stuck value own (Pulse n t ∷ faults) has all =
      only_stuck value own faults (elim (later (Pulse n t) (Stuck net value) faults has) [ inl is ↦ absurd (cc) | inr more ↦ more ])
      (All-tail (λ fault. ActsOn c net fault → fault ≡ Stuck net value) (Pulse n t) faults all)

  off_net : (faults : List Fault) → All (λ fault. ¬ (ActsOn c net fault)) faults → list_any (is_on net.0) faults ≡ false
  off_net faults none = list_any_none (is_on net.0) faults (λ i d lt. false_of _ (λ e. none i d lt (on_acts c net (get_or faults i d) e)))

  -- WHAT A NET SHOWS is what its site allows
  pub shows : (faults : List Fault) (site : Site) → KeepsTo c faults net site → (t : ℕ) (own : Bool) → may_show site own (affected faults t net.0 own) ≡ true
  shows faults Intact none t own = ap (same_bit own) (lane_free faults t net.0 own (off_net faults none)) ∙ same_self own
  shows faults Free any t own = refl
  shows faults (Only value) only t own =
      ap (same_bit value) (only_stuck value (inverted (has_pulse faults net.0 t) own) faults only.0 only.1) ∙ same_self value

-- a latch whose net is intact isn't flipped
pub no_flip : (c : Circuit) (faults : List Fault) (l : ℕ) (latch : Latch) (t : ℕ) → slice_get c.latches l ≡ Some latch
    → All (λ fault. ¬ (ActsOn c latch.to fault)) faults → has_flip faults l t ≡ false
no_flip c faults l latch t at none =
    list_any_none (is_flip_of l t) faults (λ i d lt. false_of _ (λ e. none i d lt (flip_acts c l latch t (get_or faults i d) at e)))

-- ---- regions

pub one_all : {X : Type 0} (P : X → Type 0) (x : X) → P x → All P (x ∷ [])
one_all P x own zero d lt = own
one_all P x own (suc k) d lt = absurd (omega arith)

one_stuck : (c : Circuit) (n net : NetId) (value : Bool) → KeepsTo c (Stuck n value ∷ []) net (if n.0 == net.0 then Only value else Intact)
one_stuck c n net value = elim (cases_Bool (n.0 == net.0)) as (λ _. KeepsTo c (Stuck n value ∷ []) net (if n.0 == net.0 then Only value else Intact)) [
  | inl e ↦ (
      let same : Stuck n value ≡ Stuck net value = ap (λ (m : NetId). Stuck m value) (same_net n net (eqb-true n.0 net.0 e)) in
      rw e ((0, omega arith, same), one_all (λ fault. ActsOn c net fault → fault ≡ Stuck net value) (Stuck n value) (λ acts. same)))
  | inr e ↦ rw e (one_all (λ fault. ¬ (ActsOn c net fault)) (Stuck n value) (λ same. clash (n.0 == net.0) (eq-eqb n.0 net.0 (ap (λ (m : NetId). m.0) same)) e))
]

one_pulse : (c : Circuit) (n net : NetId) (t : ℕ) → KeepsTo c (Pulse n t ∷ []) net (if n.0 == net.0 then Free else Intact)
one_pulse c n net t = elim (cases_Bool (n.0 == net.0)) as (λ _. KeepsTo c (Pulse n t ∷ []) net (if n.0 == net.0 then Free else Intact)) [
  | inl e ↦ rw e tt
  | inr e ↦ rw e (one_all (λ fault. ¬ (ActsOn c net fault)) (Pulse n t) (λ same. clash (n.0 == net.0) (eq-eqb n.0 net.0 (ap (λ (m : NetId). m.0) same)) e))
]

one_flip : (c : Circuit) (l t : ℕ) (net : NetId) (b : Bool) → option_map_or (λ (latch : Latch). latch.to.0 == net.0) (slice_get c.latches l) false ≡ b
    → KeepsTo c (Flip l t ∷ []) net (if b then Free else Intact)
one_flip c l t net true e = tt
one_flip c l t net false e =
    one_all (λ fault. ¬ (ActsOn c net fault)) (Flip l t) (λ acts.
    clash (acts.0.to.0 == net.0) (eq-eqb acts.0.to.0 net.0 (ap (λ (m : NetId). m.0) acts.2))
    (ap (λ o. option_map_or (λ (latch : Latch). latch.to.0 == net.0) o false) (sym acts.1) ∙ e))

pub one_fault : OneFaultLiesWithin
one_fault c (Stuck n value) net = one_stuck c n net value
one_fault c (Pulse n t) net = one_pulse c n net t
one_fault c (Flip l t) net = one_flip c l t net (option_map_or (λ (latch : Latch). latch.to.0 == net.0) (slice_get c.latches l) false) refl

pub some_within : FaultsLieWithin
some_within c test faults all net = by_mark (test net.0) refl
  where
    by_mark : (b : Bool) → test net.0 ≡ b → KeepsTo c faults net (free_at test net.0)
    by_mark true e = rw e tt
    by_mark false e = rw e (λ i d lt acts. clash (test net.0) (all i d lt net acts) e)

pub marked_within : MarkedLieWithin
marked_within c marks = some_within c (bit_at marks)
