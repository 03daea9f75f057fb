use Rattle.std.proofs.Common.{◌≡◌, ◌<◌, ◌∷◌, ◌++◌, List, length, [], sym, ap, subst, ◌∙◌, arith}
use Rattle.std.proofs.lemmas.List.{length-map, nil_from_length}
use Rattle.claim_counter.specs.Seats.{Seated, IsOf}
use Rattle.claim_counter.proofs.Joining.{joins_one}
use Rattle.campaign_workers.specs.declared.worker.Worker.{Worker}
use Rattle.campaign_workers.specs.Workplaces.{seats_of}
use Rattle.campaign_workers.proofs.Hiring.{seats_push}
use Rattle.campaign_workers.proofs.Ends.{ends, begins_joined, last_done}
use Rattle.campaign_workers.proofs.fan_out.board_of_all.Goals as goal

pub loop-worker-init : goal.loop-worker-init
loop-worker-init g c = begins_joined c.args.shared c.args.first c.args.workers.items c.requires.first.0 c.requires.first.1 c.requires.first.2 c.requires.done.0 c.requires.shares

pub join-requires-clause-table : goal.join-requires-clause-table
join-requires-clause-table g c =
    let done = last_done c.args.shared _ c.loop-worker.first c.loop-worker.workers.items c.pop.new.self.items c.in-Some.worker c.loop-worker.invariant c.in-Some.ensures.items in
    (c.loop-worker.invariant.of, subst (IsOf c.args.shared) (sym c.into_seat.ensures) done.of)

pub join-requires-clause-free : goal.join-requires-clause-free
join-requires-clause-free g c =
    let done = last_done c.args.shared _ c.loop-worker.first c.loop-worker.workers.items c.pop.new.self.items c.in-Some.worker c.loop-worker.invariant c.in-Some.ensures.items in
    ap (λ (s : Seated). s.view.holds) c.into_seat.ensures ∙ done.free

pub loop-worker-preserved : goal.loop-worker-preserved
loop-worker-preserved g c =
    let rest : List (Worker g.row.F.Denot g.row.N.Denot) = c.pop.new.self.items in
    let split = ap seats_of c.in-Some.ensures.items ∙ seats_push rest c.in-Some.worker ∙ ap (λ s. seats_of rest ++ s ∷ []) (sym c.into_seat.ensures) in
    joins_one c.args.shared _ c.loop-worker.first c.join.new.seat (seats_of c.loop-worker.workers.items) (seats_of rest) c.into_seat.result c.loop-worker.invariant split c.join.ensures.0 c.join.ensures.1

pub returns-clause-finished : goal.returns-clause-finished
returns-clause-finished g c =
    let workers : List (Worker g.row.F.Denot g.row.N.Denot) = c.loop-worker.workers.items in
    let popped = c.in_default.ensures.cases in
    let none : workers ≡ [] = nil_from_length workers (omega (arith, popped.0, c.loop-worker.workers.ok.0)) in
    let some : 0 < length (seats_of c.args.workers.items) = omega (arith, length-map c.args.workers.items (λ (w : Worker g.row.F.Denot g.row.N.Denot). w.seat), c.requires.done.1) in
    ends g.N.Origin.start c.args.shared _ c.loop-worker.first (seats_of workers) c.close.result.rows c.close.result.failed c.loop-worker.invariant (ap seats_of none) some c.close.ensures.closed
