use Rattle.std.proofs.Common.{◌≡◌, ◌∷◌, ◌++◌, List, [], sym, ap, subst, ◌∙◌, arith}
use Rattle.std.proofs.lemmas.List.{nil_from_length}
use Rattle.claim_counter.specs.declared.view.View.{View}
use Rattle.claim_counter.specs.Seats.{Seated, IsOf}
use Rattle.claim_counter.specs.Crews.{IsCrew}
use Rattle.claim_counter.proofs.Joining.{joins_ready, ready_alone}
use Rattle.campaign_workers.specs.declared.worker.Worker.{Worker}
use Rattle.campaign_workers.specs.Workplaces.{seats_of}
use Rattle.campaign_workers.proofs.Hiring.{seats_push}
use Rattle.campaign_workers.proofs.Ends.{last_ready}
use Rattle.campaign_workers.proofs.fan_out.join_ready.Goals as goal

pub join-requires-clause-table : goal.join-requires-clause-table
join-requires-clause-table g c =
    let ready = last_ready c.args.shared.now c.loop-worker.first c.loop-worker.workers.items c.pop.new.self.items c.in-Some.worker c.loop-worker.invariant.crew c.in-Some.ensures.items in
    (c.loop-worker.invariant.crew.of, subst (IsOf c.args.shared.now) (sym c.into_seat.ensures) ready.of)

pub join-requires-clause-free : goal.join-requires-clause-free
join-requires-clause-free g c =
    let ready = last_ready c.args.shared.now c.loop-worker.first c.loop-worker.workers.items c.pop.new.self.items c.in-Some.worker c.loop-worker.invariant.crew c.in-Some.ensures.items in
    ap (λ (s : Seated). s.view.holds) c.into_seat.ensures ∙ ready.free

pub loop-worker-preserved : goal.loop-worker-preserved
loop-worker-preserved g c =
    let rest : List (Worker g.row.F.Denot g.row.N.Denot) = c.pop.new.self.items in
    let split = ap seats_of c.in-Some.ensures.items ∙ seats_push rest c.in-Some.worker ∙ ap (λ s. seats_of rest ++ s ∷ []) (sym c.into_seat.ensures) in
    record {
      crew = joins_ready c.args.shared.now c.loop-worker.first c.join.new.seat (seats_of c.loop-worker.workers.items) (seats_of rest) c.into_seat.result c.loop-worker.invariant.crew split c.join.ensures.0 c.join.ensures.1;
      free = ap (λ (v : View). v.holds) c.join.ensures.1 ∙ c.loop-worker.invariant.free;
    }

pub returns : goal.returns
returns g c =
    let workers : List (Worker g.row.F.Denot g.row.N.Denot) = c.loop-worker.workers.items in
    let popped = c.in_default.ensures.cases in
    let none : workers ≡ [] = nil_from_length workers (omega (arith, popped.0, c.loop-worker.workers.ok.0)) in
    let crew : IsCrew c.args.shared.now c.loop-worker.first [] = subst (IsCrew c.args.shared.now c.loop-worker.first) (ap seats_of none) c.loop-worker.invariant.crew in
    let shares = crew.shares in
    record { ready = ready_alone c.args.shared.now c.loop-worker.first crew c.loop-worker.invariant.free; whole = omega arith }
