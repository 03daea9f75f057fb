-- How a campaign ends, once all seats were joined.
use Rattle.std.proofs.Common.{◌^◌, ◌≡◌, ℕ, suc, ◌+◌, ◌<◌, ◌==◌, ◌⊎◌, Bool, false, cond, List, [], ◌∷◌, ◌++◌, length, refl, sym, ap, subst, ◌∙◌, inl, inr, arith}
use Rattle.std.specs.List.{All, Contains}
use Rattle.std.proofs.lemmas.Bool.{cases_eq, ne_eqb}
use Rattle.std.proofs.lemmas.Bool.Decides.{nat_tests}
use Rattle.std.proofs.lemmas.List.Elements.{Contains-append_left, Contains-append_right}
use Rattle.std.proofs.lemmas.List.Sums.{sum_by-cons}
use Rattle.fm_base.specs.Once.{Lacks}
use Rattle.campaign_core.specs.Machines.{times, once_below}
use Rattle.result_file.specs.declared.Row.{Row}
use Rattle.claim_counter.specs.Seats.{Counter, Seated, IsOf}
use Rattle.claim_counter.specs.Crews.{MayDraw, IsDone, IsCrew, shares_of}
use Rattle.claim_counter.proofs.Joining.{Joined, all_last, joined_alone, finished}
use Rattle.campaign_board.specs.Boards.{Start, batches_of}
use Rattle.campaign_board.specs.Missing.{IsMissing, claim_number, added_rows, numbers_of}
use Rattle.campaign_board.specs.Sharing.{IsClosed}
use Rattle.campaign_board.proofs.Numbering.{batch_back}
use Rattle.campaign_board.proofs.AddedRows.{batches_split}
use Rattle.campaign_workers.specs.declared.worker.Worker.{Worker}
use Rattle.campaign_workers.specs.Finish.{IsFinished}
use Rattle.campaign_workers.specs.Workplaces.{seats_of}
use Rattle.campaign_workers.proofs.Hiring.{seats_push, all_seats}

-- a number that is counted stands in the list
pub counted : (x : ℕ) (xs : List ℕ) → 0 < times x xs → Contains xs x
counted x [] h = absurd (omega arith)
counted x (y ∷ ys) h = elim (cases_eq y x) as (λ _. Contains (y ∷ ys) x) [
  | inl e ↦ (0, omega arith, e)
  | inr ne ↦
      (let skip : cond {A = ℕ} (y == x) 1 0 ≡ 0 = ap (λ (t : Bool). cond {A = ℕ} t 1 0) (ne_eqb y x ne) in
      let rest : Contains ys x = counted x ys (omega (arith, sum_by-cons (λ z. cond {A = ℕ} (z == x) 1 0) y ys, skip)) in (suc rest.0, omega (arith, rest.1), rest.2))
]

-- a number stands in a list, or the list lacks it
here_or_not : (xs : List ℕ) (x : ℕ) → Contains xs x ⊎ Lacks xs x
here_or_not [] x = inr tt
here_or_not (y ∷ ys) x = elim (cases_eq y x) as (λ _. Contains (y ∷ ys) x ⊎ Lacks (y ∷ ys) x) [
  | inl e ↦ inl (0, omega arith, e)
  | inr ne ↦ elim (here_or_not ys x) as (λ _. Contains (y ∷ ys) x ⊎ Lacks (y ∷ ys) x) [
    | inl rest ↦ inl (suc rest.0, omega (arith, rest.1), rest.2)
    | inr lacks ↦ inr (ne, lacks)
  ]
]

-- unless the board has failed, each batch to do has a row
each_once : (o : Start) (c : Counter) (many : ℕ) (first : Seated) (left : List Seated) (rows : List Row) (failed : Bool) → Joined c many first left → left ≡ [] → 0 < many
    → IsClosed o c.todo first.view rows failed → failed ≡ false → (batch : ℕ) → IsMissing o batch → times batch (batches_of (added_rows o rows)) ≡ 1
each_once o c many first left rows failed h e some closed fine batch due =
    let n : ℕ = claim_number o batch in
    let all = finished {V = List Row} (numbers_of o) (λ _. failed) c many first left rows h e some closed.closed fine n in
    let less = (batch_back o batch due).0 in
    let one : once_below n c.todo ≡ 1 = grind (arith, nat_tests, closed.todo_is) in
    closed.posts batch due ∙ sym (closed.closed.posts n) ∙ all ∙ one

-- the campaign is at its end
pub ends : (o : Start) (c : Counter) (many : ℕ) (first : Seated) (left : List Seated) (rows : List Row) (failed : Bool) → Joined c many first left → left ≡ [] → 0 < many
    → IsClosed o c.todo first.view rows failed → IsFinished o rows failed
ends o c many first left rows failed h e some closed =
    let split = batches_split o rows closed.starts in
    let each : failed ≡ false → (batch : ℕ) → IsMissing o batch → times batch (batches_of (added_rows o rows)) ≡ 1 = each_once o c many first left rows failed h e some closed in
    record {
      starts = closed.starts;
      due = closed.due;
      each = each;
      whole = λ fine batch lt. subst (λ bs. Contains bs batch) (sym split) (elim (here_or_not (batches_of o.rows) batch) as (λ _. Contains (batches_of o.rows ++ batches_of (added_rows o rows)) batch) [
        | inl here ↦ Contains-append_left (batches_of o.rows) (batches_of (added_rows o rows)) batch here
        | inr lacks ↦
            (let one = each fine batch (lt, lacks) in
            Contains-append_right (batches_of o.rows) (batches_of (added_rows o rows)) batch (counted batch (batches_of (added_rows o rows)) (omega arith)))
      ]);
    }

module _ {F N : Type 0} where
  -- nothing was joined yet
  pub begins_joined : (c : Counter) (first : Seated) (workers : List (Worker F N)) → IsOf c first → first.view.holds ≡ false → ((n : ℕ) → times n first.view.claims ≡ times n first.view.posts)
      → All (λ w. IsDone c w.seat) workers → first.view.share + shares_of (seats_of workers) ≡ 2 ^ 32 → Joined c (length (seats_of workers)) first (seats_of workers)
  begins_joined c first workers of free all done shares = record {
    of = of;
    free = free;
    all = λ _. all;
    ready = all_seats (λ p. IsDone c p) workers done;
    shares = shares;
    none = λ _ less. absurd (omega arith);
  }

  -- the last worker that is left is done
  pub last_done : (c : Counter) (many : ℕ) (first : Seated) (workers rest : List (Worker F N)) (worker : Worker F N) → Joined c many first (seats_of workers) → workers ≡ rest ++ worker ∷ [] → IsDone c worker.seat
  last_done c many first workers rest worker h e =
      all_last (λ p. IsDone c p) (seats_of rest) worker.seat (subst (All (λ p. IsDone c p)) (ap seats_of e ∙ seats_push rest worker) h.ready)

  -- the last worker that is left is ready
  pub last_ready : (c : Counter) (first : Seated) (workers rest : List (Worker F N)) (worker : Worker F N) → IsCrew c first (seats_of workers) → workers ≡ rest ++ worker ∷ [] → MayDraw c worker.seat
  last_ready c first workers rest worker h e =
      all_last (λ p. MayDraw c p) (seats_of rest) worker.seat (subst (All (λ p. MayDraw c p)) (ap seats_of e ∙ seats_push rest worker) h.ready)

-- the campaign of a single worker is at its end
pub ends_alone : (o : Start) (c : Counter) (p q : Seated) (rows : List Row) (failed : Bool) → IsDone c p → p.view.share ≡ 2 ^ 32 → q ≡ p → IsClosed o c.todo q.view rows failed → IsFinished o rows failed
ends_alone o c p q rows failed h all same closed =
    ends o c 1 p [] rows failed (joined_alone c p h all) refl (omega arith) (subst (λ (s : Seated). IsClosed o c.todo s.view rows failed) same closed)
