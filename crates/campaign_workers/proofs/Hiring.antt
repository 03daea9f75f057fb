-- The seats of workers.
use Rattle.std.proofs.Common.{◌≡◌, ℕ, suc, ◌<◌, ◌≤◌, List, [], ◌∷◌, ◌++◌, length, get_or, refl, sym, ap, subst, ◌∙◌, arith}
use Rattle.std.specs.List.{All}
use Rattle.std.proofs.lemmas.List.{map-append}
use Rattle.std.proofs.lemmas.List.Elements.{All-map}
use Rattle.std.proofs.lemmas.List.Sums.{sum_by-cons}
use Rattle.claim_counter.specs.Views.{less_one, with_one}
use Rattle.claim_counter.specs.Seats.{Counter, Seated}
use Rattle.claim_counter.specs.Crews.{shares_of, IsCrew}
use Rattle.claim_counter.proofs.Joining.{splits_one}
use Rattle.campaign_workers.specs.declared.worker.Worker.{Worker}
use Rattle.campaign_workers.specs.Workplaces.{seats_of}

module _ {F N : Type 0} where
  pub seats_push : (workers : List (Worker F N)) (worker : Worker F N) → seats_of (workers ++ worker ∷ []) ≡ seats_of workers ++ worker.seat ∷ []
  seats_push workers worker = map-append (λ (w : Worker F N). w.seat) workers (worker ∷ [])

  -- one more worker, with a seat that was split from the first
  pub hires_one : (c : Counter) (first now : Seated) (workers : List (Worker F N)) (worker : Worker F N) (seat : Seated) → IsCrew c first (seats_of workers) → 2 ≤ first.view.share
      → now.table ≡ first.table → now.view ≡ less_one first.view → seat.table ≡ first.table → seat.view ≡ with_one first.view → worker.seat ≡ seat
      → IsCrew c now (seats_of (workers ++ worker ∷ []))
  hires_one c first now workers worker seat h two table view table2 view2 e =
      subst (IsCrew c now) (ap (λ s. seats_of workers ++ s ∷ []) (sym e) ∙ sym (seats_push workers worker)) (splits_one c first now seat (seats_of workers) h two table view table2 view2)

  -- what each worker's seat meets
  pub all_seats : (P : Seated → Type 0) (workers : List (Worker F N)) → All (λ w. P w.seat) workers → All P (seats_of workers)
  all_seats P workers h = All-map P (λ (w : Worker F N). w.seat) workers h

  pub shares_each : (old new : List (Worker F N)) → length new ≡ length old → ((i : ℕ) (d : Worker F N) → i < length old → (get_or new i d).seat.view.share ≡ (get_or old i d).seat.view.share)
      → shares_of (seats_of new) ≡ shares_of (seats_of old)
  shares_each [] [] len each = refl
  shares_each [] (y ∷ ys) len each = absurd (omega arith)
  shares_each (x ∷ xs) [] len each = absurd (omega arith)
  shares_each (x ∷ xs) (y ∷ ys) len each =
      let here = each 0 x (omega arith) in
      let rest = shares_each xs ys (omega arith) (λ i d h. each (suc i) d (omega arith)) in
      omega (arith, sum_by-cons (λ (s : Seated). s.view.share) x.seat (seats_of xs), sum_by-cons (λ (s : Seated). s.view.share) y.seat (seats_of ys), here, rest)
