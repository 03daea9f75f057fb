-- A place that has been looked at is taken out.
use Rattle.std.proofs.Common.{◌≡◌, ◌≢◌, inl, inr, ℕ, ◌+◌, ◌*◌, ◌<◌, ◌≤◌, Bool, true, false, length, refl, ap, ap₂, sym, subst, ◌∙◌, arith}
use Rattle.std.specs.Prelude.{◌==◌, Some, if◌then◌else◌}
use Rattle.std.specs.List.{slice_get}
use Rattle.std.proofs.lemmas.Bool.{cases_eq, cases_lt, eq-eqb, ne_eqb}
use Rattle.std.proofs.lemmas.Option.{slice_get_within}
use Rattle.circuit.specs.Circuit.{Circuit}
use Rattle.circuit.specs.Order.{net_at}
use Rattle.circuit.specs.Value.{driver_at}
use Rattle.circuit.specs.declared.parts.Driver.TheVariants.{Table as FromTable}
use Rattle.circuit.specs.declared.parts.Latch.{Latch}
use Rattle.coverage_claim.specs.Rules.{Sets}
use Rattle.coverage_claim.specs.Stretch.{Stretch}
use Rattle.fanout.specs.Readers.{Ordered}
use Rattle.place_set.specs.Places.{Places, has as waits}
use Rattle.region_search.proofs.Counting.{at_most_all, less_work, one_fewer}
use Rattle.region_search.proofs.Places.{one_place}
use Rattle.region_search.specs.Going.{IsGoing}
use Rattle.region_search.specs.Search.{place_in, places_of}
use Rattle.region_search.specs.Settled.{IsLatchSettled, IsTableSettled}
use Rattle.region_search.specs.Work.{passing_below, waiting_count}

-- a place is out, and no other
abbrev pub IsOut : (old new : Places) → ℕ → Type 0
IsOut old new at = (p : ℕ) → waits new p ≡ (if p == at then false else waits old p)

pub is_quiet : (old new : Places) (at : ℕ) → IsOut old new at → waits new at ≡ false
is_quiet old new at out = out at ∙ rw (eq-eqb at at refl) refl

still : (old new : Places) (at p : ℕ) → IsOut old new at → p ≢ at → waits new p ≡ false → waits old p ≡ false
still old new at p out apart none = sym (out p ∙ rw (ne_eqb p at apart) refl) ∙ none

-- WHERE A PLACE HAS BEEN LOOKED AT it needn't wait
pub looked_at : (o : Ordered) (s : Stretch) (bounds q left : Sets) (waiting fewer : Places) (empty : Bool) (frame place : ℕ) → place < places_of o
    → IsOut waiting fewer (place_in o frame place)
    → ((k : ℕ) → place < length o.order → driver_at s.circuit (net_at o.order place).0 ≡ FromTable k → IsTableSettled s left frame k (net_at o.order place))
    → ((l : ℕ) (latch : Latch) → frame < s.last → place ≡ length o.order + l → slice_get s.circuit.latches l ≡ Some latch → IsLatchSettled s left frame latch)
    → IsGoing o s bounds q left waiting empty → IsGoing o s bounds q left fewer empty
looked_at o s bounds q left waiting fewer empty frame place inside out table latched going = record {
  circuit = going.circuit;
  by_rules = going.by_rules;
  noted = going.noted;
  search = record {
    holds = going.search.holds;
    alone = going.search.alone;
    tables = λ i p k le lt driver none. elim (cases_eq (place_in o i p) (place_in o frame place)) as (λ _. IsTableSettled s left i k (net_at o.order p)) [
      | inr apart ↦ going.search.tables i p k le lt driver (still waiting fewer (place_in o frame place) (place_in o i p) out apart none)
      | inl same ↦ (
          let one = one_place (places_of o) i p frame place (omega (arith, lt)) inside same in
          subst (λ j. IsTableSettled s left j k (net_at o.order p)) (sym one.0)
          (subst (λ n. IsTableSettled s left frame k (net_at o.order n)) (sym one.1)
          (table k (omega (arith, one.1, lt)) (ap (λ n. driver_at s.circuit (net_at o.order n).0) (sym one.1) ∙ driver))))
    ];
    latches = λ i l latch lt at none. elim (cases_eq (place_in o i (length o.order + l)) (place_in o frame place)) as (λ _. IsLatchSettled s left i latch) [
      | inr apart ↦ going.search.latches i l latch lt at (still waiting fewer (place_in o frame place) (place_in o i (length o.order + l)) out apart none)
      | inl same ↦ (
          let here : l < length o.circuit.latches = slice_get_within o.circuit.latches l latch (subst (λ (c : Circuit). slice_get c.latches l ≡ Some latch) going.circuit at) in
          let one = one_place (places_of o) i (length o.order + l) frame place (omega (arith, here)) inside same in
          subst (λ j. IsLatchSettled s left j latch) (sym one.0) (latched l latch (omega (arith, lt, one.0)) (sym one.1) at))
    ];
  };
}

-- AND LESS IS LEFT TO DO
pub less_left : (pairs fewer : ℕ) (old middle new : Places) (at : ℕ) → fewer ≤ pairs → (fewer ≡ pairs → middle ≡ old) → middle.bound ≡ old.bound → new.bound ≡ middle.bound
    → IsOut middle new at → at < old.bound → waits old at ≡ true → fewer * (new.bound + 1) + waiting_count new < pairs * (old.bound + 1) + waiting_count old
less_left pairs fewer old middle new at less idle first second out lt there =
    elim (cases_lt fewer pairs) as (λ _. fewer * (new.bound + 1) + waiting_count new < pairs * (old.bound + 1) + waiting_count old) [
      | inl gone ↦ (
          let few : waiting_count new ≤ old.bound = subst (λ n. waiting_count new ≤ n) same (at_most_all new.bound (waits new)) in
          let work = less_work pairs fewer old.bound (waiting_count old) (waiting_count new) (omega (arith, gone)) few in
          subst (λ n. fewer * (n + 1) + waiting_count new < pairs * (old.bound + 1) + waiting_count old) (sym same) work)
      | inr stays ↦ (
          let equal : fewer ≡ pairs = omega (arith, less, stays) in
          let as_before : middle ≡ old = idle equal in
          let one = one_fewer old.bound (waits old) (waits new) at lt there (λ p. out p ∙ ap (λ (each : Places). if p == at then false else waits each p) as_before) in
          let count : waiting_count new + 1 ≡ waiting_count old = subst (λ n. passing_below n (waits new) + 1 ≡ waiting_count old) (sym same) one in
          let product : fewer * (new.bound + 1) ≡ pairs * (old.bound + 1) = ap₂ (λ k n. k * (n + 1)) equal same in
          omega (arith, count, product))
    ]
  where
    same : new.bound ≡ old.bound
    same = second ∙ first
