-- Who looks again.
use Rattle.std.proofs.Common.{◌≡◌, ℕ, suc, ◌+◌, ◌*◌, ◌<◌, ◌≤◌, Bool, true, false, List, length, get_or, refl, ap, sym, subst, ◌∙◌, arith}
use Rattle.std.specs.Prelude.{◌==◌, slice_index, if◌then◌else◌}
use Rattle.std.proofs.Math.Nat.{suc-mul}
use Rattle.std.proofs.lemmas.Bool.{eq-eqb}
use Rattle.std.proofs.lemmas.List.{get_or_default}
use Rattle.std.proofs.lemmas.Option.{slice_get_within}
use Rattle.region_search.proofs.ReadPlaces.{read_within}
use Rattle.fanout.specs.Readers.{IsReadAt, Ordered}
use Rattle.place_set.specs.Places.{Places, has}
use Rattle.region_search.specs.Search.{Wakes, places_of}
use Rattle.region_search.specs.Watch.{AreWatchers}

-- a place of a frame stands inside the places of all frames
pub within_all : (places frame place bound : ℕ) → place < places → (frame + 1) * places ≤ bound → frame * places + place < bound
within_all places frame place bound lt few = let next : (frame + 1) * places ≡ frame * places + places = ap (λ k. k * places) (omega arith) ∙ suc-mul frame places in omega (arith, next, lt, few)

-- where a place was put, it waits, and so does what waited
pub put_there : (old new : Places) (at : ℕ) → ((p : ℕ) → has new p ≡ (if p == at then true else has old p)) → has new at ≡ true
put_there old new at is = is at ∙ rw (eq-eqb at at refl) refl

pub put_stays : (old new : Places) (at : ℕ) → ((p : ℕ) → has new p ≡ (if p == at then true else has old p)) → (p : ℕ) → has old p ≡ true → has new p ≡ true
put_stays old new at is p e = is p ∙ by_test (p == at) e
  where
    by_test : (b : Bool) → has old p ≡ true → (if b then true else has old p) ≡ true
    by_test true f = refl
    by_test false f = f

module _ (o : Ordered) (tables places : ℕ) (own : List ℕ) (are : AreWatchers o tables places own) where
  -- what is put behind the readers wakes the net's own table or latch
  pub wakes_of : (frame net at : ℕ) (waiting middle more : Places) → at ≡ slice_index own net → middle.bound ≡ waiting.bound → more.bound ≡ middle.bound
      → ((p : ℕ) → has waiting p ≡ true → has middle p ≡ true) → ((p : ℕ) → has middle p ≡ true → has more p ≡ true)
      → ((place : ℕ) → IsReadAt o net place → has middle (frame * places + place) ≡ true)
      → (at < tables → has more (frame * places + at) ≡ true)
      → ((earlier : ℕ) → frame ≡ suc earlier → tables ≤ at → at < places → has more (earlier * places + at) ≡ true)
      → Wakes o frame net waiting more
  wakes_of frame net at waiting middle more is first second stays more_stays readers table latch = record {
    bound = second ∙ first;
    stays = λ p e. more_stays p (stays p e);
    readers = λ place reads. more_stays _ (subst (λ n. has middle (frame * n + place) ≡ true) are.all (readers place reads));
    own = λ p lt same. (
        let here : at ≡ p = is ∙ ap (slice_index own) (sym same) ∙ are.own_tables p lt in
        let woken : has more (frame * places + at) ≡ true = table (omega (arith, here, lt, are.all_tables)) in
        subst (λ n. has more (frame * n + p) ≡ true) are.all (subst (λ n. has more (frame * places + n) ≡ true) here woken));
    before = λ earlier l each e there same. (
        let here : at ≡ length o.order + l = is ∙ ap (slice_index own) (sym same) ∙ are.own_latches l each there in
        let lt : l < length o.circuit.latches = slice_get_within o.circuit.latches l each there in
        let woken : has more (earlier * places + at) ≡ true = latch earlier e (omega (arith, here, are.all_tables)) (omega (arith, here, lt, are.all)) in
        subst (λ n. has more (earlier * n + (length o.order + l)) ≡ true) are.all (subst (λ n. has more (earlier * places + n) ≡ true) here woken));
  }

  -- a reader's place is inside
  pub reads_inside : (frame net bound : ℕ) → (frame + 1) * places_of o ≤ bound → (place : ℕ) → IsReadAt o net place → frame * places + place < bound
  reads_inside frame net bound few place reads =
      let lt : place < places = omega (arith, read_within o net place reads, are.all) in
      within_all places frame place bound lt (subst (λ n. (frame + 1) * n ≤ bound) (sym are.all) few)

  -- what was read is the net's own place
  pub own_read : (now : Ordered) (net at : ℕ) → o ≡ now → net < length now.circuit.drivers → at ≡ get_or own net at → at ≡ slice_index own net
  own_read now net at seen lt is =
      let same : length o.circuit.drivers ≡ length now.circuit.drivers = ap (λ (each : Ordered). length each.circuit.drivers) seen in
      is ∙ get_or_default own net at 0 (omega (arith, same, lt, are.count))

  pub bound_seen : (now : Ordered) (frame bound : ℕ) → o ≡ now → (frame + 1) * places_of now ≤ bound → (frame + 1) * places_of o ≤ bound
  bound_seen now frame bound seen few = subst (λ (each : Ordered). (frame + 1) * places_of each ≤ bound) (sym seen) few
