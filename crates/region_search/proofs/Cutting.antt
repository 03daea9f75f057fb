-- A cut keeps the search.
use Rattle.std.proofs.Common.{◌≡◌, inl, inr, ℕ, suc, ◌+◌, ◌<◌, Bool, true, false, Some, length, refl, ap, sym, subst, ◌∙◌}
use Rattle.std.specs.List.{Contains, slice_get}
use Rattle.std.proofs.lemmas.Bool.{cases_Bool, cases_eq}
use Rattle.fm_base.proofs.Tests.{clash, false_of}
use Rattle.circuit.specs.Circuit.{Circuit}
use Rattle.circuit.specs.Order.{net_at}
use Rattle.circuit.specs.Value.{driver_at, table_at}
use Rattle.circuit.specs.declared.parts.Driver.TheVariants.{Table as FromTable}
use Rattle.circuit.specs.declared.parts.Latch.{Latch}
use Rattle.circuit.specs.declared.parts.NetId.{NetId}
use Rattle.coverage_claim.proofs.Ruling.{not_had}
use Rattle.coverage_claim.specs.Largest.{AreAmong}
use Rattle.coverage_claim.specs.Rules.{AgreeOver, Sets}
use Rattle.coverage_claim.specs.Stretch.{Stretch}
use Rattle.region_search.proofs.ReadPlaces.{latch_read, table_read}
use Rattle.fanout.specs.Readers.{IsReadAt, Ordered}
use Rattle.place_set.specs.Places.{Places, has as waits}
use Rattle.region_search.specs.Search.{CutsKeepSearch, IsByRules, IsElsewhere, IsSearch, Wakes, place_in}
use Rattle.region_search.specs.Settled.{HoldsAll, IsLatchSettled, IsTableSettled}

-- a step by the rules loses no runs
pub still_holds : (s : Stretch) (bounds q left : Sets) → HoldsAll s bounds q → IsByRules s q left → HoldsAll s bounds left
still_holds s bounds q left holds step golden faulty so lie frame net le =
    elim (cases_Bool (left frame net (golden frame net) (faulty frame net))) as (λ _. left frame net (golden frame net) (faulty frame net) ≡ true) [
      | inl there ↦ there
      | inr gone ↦ absurd (not_had s q frame net (golden frame net) (faulty frame net)
          (step.rightly frame net (golden frame net) (faulty frame net) le (holds golden faulty so lie frame net le) gone)
          golden faulty so (holds golden faulty so lie) refl refl)
    ]

-- the set of a net is as it was
abbrev pub IsSameAt : (q left : Sets) (frame net : ℕ) → Type 0
IsSameAt q left frame net = (a b : Bool) → left frame net a b ≡ q frame net a b

-- a table of whose nets no set has changed takes nothing away as before
pub kept_table : (s : Stretch) (q left : Sets) (frame k : ℕ) (own : NetId) → IsSameAt q left frame own.0
    → ((net : NetId) → Contains (table_at s.circuit.tables k).ins net → IsSameAt q left frame net.0)
    → IsTableSettled s q frame k own → IsTableSettled s left frame k own
kept_table s q left frame k own same each (inr wide) = inr wide
kept_table s q left frame k own same each (inl takes) = inl (record {
  reads = takes.reads;
  truth = takes.truth;
  left = takes.left;
  own_left = takes.own_left;
  is_left = record {
    sets = takes.is_left.sets;
    own_set = takes.is_left.own_set;
    within = takes.is_left.within;
    is_truth = takes.is_left.is_truth;
    are = record {
      count = takes.is_left.are.count;
      each = λ i lt a b. takes.is_left.are.each i lt a b ∙ sym (each (net_at takes.reads i) (takes.is_left.is_truth.among i (record { 0 = 0 }) lt) a b);
    };
    own_is = λ a b. takes.is_left.own_is a b ∙ sym (same a b);
    is_left = takes.is_left.is_left;
  };
  same = record {
    count = takes.same.count;
    each = λ i lt a b. takes.same.each i lt a b ∙ sym (each (net_at takes.reads i) (takes.is_left.is_truth.among i (record { 0 = 0 }) lt) a b);
  };
  own_same = λ a b. takes.own_same a b ∙ sym (same a b);
})

-- and a latch
pub kept_latch : (s : Stretch) (q left : Sets) (frame : ℕ) (latch : Latch) → IsSameAt q left frame latch.from.0 → IsSameAt q left (suc frame) latch.to.0
    → IsLatchSettled s q frame latch → IsLatchSettled s left frame latch
kept_latch s q left frame latch from to settled = record {
  read = λ a b e. (let fits = settled.read a b (sym (from a b) ∙ e) in (fits.0, fits.1, over a b fits.0 fits.1 fits.2));
  next = λ x y e. (let fits = settled.next x y (sym (to x y) ∙ e) in (fits.0, fits.1, over fits.0 fits.1 x y fits.2));
}
  where
    over : (a b x y : Bool) → AgreeOver s q frame latch a b x y → AgreeOver s left frame latch a b x y
    over a b x y agree = record {
      read = from a b ∙ agree.read;
      own = to x y ∙ agree.own;
      golden_is = agree.golden_is;
      faulty_may = agree.faulty_may;
    }

module _ (frame net : ℕ) (q left : Sets) (elsewhere : IsElsewhere frame net q left) where
  -- a net that isn't the one that was cut, or not in that frame
  other_same : (i n : ℕ) → (i ≡ frame → n ≡ net → ⊥) → IsSameAt q left i n
  other_same i n apart = elim (cases_eq i frame) as (λ _. IsSameAt q left i n) [
    | inr early ↦ elsewhere i n (inl early)
    | inl same ↦ elsewhere i n (inr (apart same))
  ]

-- A CUT KEEPS what is settled and doesn't wait, whatever the runs that are held from then on
pub cuts_keep_anew : (o : Ordered) (s : Stretch) (bounds others q left : Sets) (waiting more : Places) (frame net : ℕ) → s.circuit ≡ o.circuit → IsSearch o s bounds q waiting
    → AreAmong s left q → HoldsAll s others left → IsElsewhere frame net q left → Wakes o frame net waiting more → IsSearch o s others left more
cuts_keep_anew o s bounds others q left waiting more frame net same search among holds elsewhere wakes = record {
  holds = holds;
  alone = λ i n a b le e. search.alone i n a b le (among i n a b le e);
  tables = λ i p k le lt driver none.
      kept_table s q left i k (net_at o.order p) (other_same frame net q left elsewhere i (net_at o.order p).0 (λ e f. quiet i p none e (wakes.own p lt f)))
      (λ m there. other_same frame net q left elsewhere i m.0 (λ e f. quiet i p none e (wakes.readers p (subst (λ n. IsReadAt o n p) f (table_reads p k m lt driver there)))))
      (search.tables i p k le lt driver (was_quiet (place_in o i p) none));
  latches = λ i l latch lt at none.
      kept_latch s q left i latch
      (other_same frame net q left elsewhere i latch.from.0 (λ e f.
      quiet i (length o.order + l) none e (wakes.readers (length o.order + l) (subst (λ n. IsReadAt o n (length o.order + l)) f (latch_read o l latch (latch_at l latch at))))))
      (other_same frame net q left elsewhere (suc i) latch.to.0 (λ e f.
      clash (waits more (place_in o i (length o.order + l))) (wakes.before i l latch (sym e) (latch_at l latch at) f) none))
      (search.latches i l latch lt at (was_quiet (place_in o i (length o.order + l)) none));
}
  where
    latch_at : (l : ℕ) (latch : Latch) → slice_get s.circuit.latches l ≡ Some latch → slice_get o.circuit.latches l ≡ Some latch
    latch_at l latch at = subst (λ (c : Circuit). slice_get c.latches l ≡ Some latch) same at

    table_reads : (p k : ℕ) (m : NetId) → p < length o.order → driver_at s.circuit (net_at o.order p).0 ≡ FromTable k → Contains (table_at s.circuit.tables k).ins m → IsReadAt o m.0 p
    table_reads p k m lt driver there =
        table_read o p k m lt (subst (λ (c : Circuit). driver_at c (net_at o.order p).0 ≡ FromTable k) same driver) (subst (λ (c : Circuit). Contains (table_at c.tables k).ins m) same there)

    was_quiet : (place : ℕ) → waits more place ≡ false → waits waiting place ≡ false
    was_quiet place none = false_of (waits waiting place) (λ e. clash (waits more place) (wakes.stays place e) none)

    quiet : (i p : ℕ) → waits more (place_in o i p) ≡ false → i ≡ frame → waits more (place_in o frame p) ≡ true → ⊥
    quiet i p none e woken = clash (waits more (place_in o i p)) (ap (λ j. waits more (place_in o j p)) e ∙ woken) none

pub cuts_keep : CutsKeepSearch
cuts_keep o s bounds q left waiting more frame net same search step elsewhere wakes =
    cuts_keep_anew o s bounds bounds q left waiting more frame net same search step.among (still_holds s bounds q left search.holds step) elsewhere wakes
