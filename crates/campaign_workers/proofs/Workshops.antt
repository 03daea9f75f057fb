-- From what a workshop keeps to what its workers are asked.
use Rattle.std.proofs.Common.{◌≡◌, ℕ, Bool, false, List, refl, sym, subst, arith}
use Rattle.std.specs.List.{All}
use Rattle.std.proofs.lemmas.List.{get_or-map, length-map}
use Rattle.campaign_plan.specs.Analysis.{Analysis}
use Rattle.campaign_core.specs.Machines.{times}
use Rattle.claim_counter.specs.Views.{giving}
use Rattle.claim_counter.specs.Seats.{Counter, Seated, IsOf}
use Rattle.claim_counter.specs.Crews.{MayDraw, IsCrew}
use Rattle.campaign_workers.specs.declared.worker.Worker.{Worker}
use Rattle.campaign_workers.specs.Workplaces.{AreFor, seats_of}
use Rattle.classifier.specs.Simulator.{simulator_of}
use Rattle.testbench.specs.Testbench.{Testbench}
use Rattle.campaign_workers.proofs.Owing.{same_seat}

module _ {F N : Type 0} where
  all_workers : (P : Seated → Type 0) (workers : List (Worker F N)) → All P (seats_of workers) → All (λ w. P w.seat) workers
  all_workers P workers h =
      λ k d lt. subst P (get_or-map (λ (w : Worker F N). w.seat) workers k d d.seat lt) (h k d.seat (omega (arith, lt, length-map workers (λ (w : Worker F N). w.seat))))

  -- each worker is ready, with a simulator for the plan
  pub at_work : (p q : Analysis) (bench : Testbench) (table : Counter) (first : Seated) (workers now : List (Worker F N)) → AreFor p bench table first workers
      → p ≡ q → now ≡ workers → All (λ w. MayDraw table w.seat × (w.simulator ≡ simulator_of bench q.settings.ftti)) now
  at_work p q bench table first workers now h plan same =
      subst (All (λ w. MayDraw table w.seat × (w.simulator ≡ simulator_of bench q.settings.ftti))) (sym same)
      (subst (λ q. All (λ w. MayDraw table w.seat × (w.simulator ≡ simulator_of bench q.settings.ftti)) workers) plan
      (λ k d lt. (all_workers (λ s. MayDraw table s) workers h.crew.ready k d lt, h.simulators k d lt)))

-- the first seat, once it has given the turn back
pub first_free : (c : Counter) (first now : Seated) (seats : List Seated) (failed : Bool) → IsCrew c first seats → now.table ≡ first.table → now.view ≡ giving first.view failed
    → IsOf c now × (now.view.holds ≡ false) × ((n : ℕ) → times n now.view.claims ≡ times n now.view.posts)
first_free c first now seats failed h table view =
    let P : Seated → Type 0 = λ s. IsOf c s × (s.view.holds ≡ false) × ((n : ℕ) → times n s.view.claims ≡ times n s.view.posts) in
    subst P (same_seat now first.table (giving first.view failed) table view) (record { table = h.of.table; todo = h.of.todo; share = h.of.share; opened = h.of.opened }, refl, h.all)

-- the crew, once the first seat has given the turn back
pub crew_given : (c : Counter) (first now : Seated) (seats : List Seated) (failed : Bool) → IsCrew c first seats → now.table ≡ first.table → now.view ≡ giving first.view failed → IsCrew c now seats
crew_given c first now seats failed h table view =
    subst (λ s. IsCrew c s seats) (same_seat now first.table (giving first.view failed) table view) (record {
      of = record { table = h.of.table; todo = h.of.todo; share = h.of.share; opened = h.of.opened };
      nones = h.nones;
      all = h.all;
      ready = h.ready;
      shares = h.shares;
    })
