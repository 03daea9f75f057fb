use Rattle.std.proofs.Common.{◌≡◌, ◌∷◌, ◌++◌, List, sym, ap, subst, ◌∙◌, arith}
use Rattle.std.specs.List.{All}
use Rattle.claim_counter.specs.declared.view.View.{View}
use Rattle.claim_counter.specs.Seats.{Seated, IsOf}
use Rattle.claim_counter.proofs.Joining.{all_last, joins_ready}
use Rattle.classifier.specs.Simulator.{simulator_of}
use Rattle.campaign_workers.specs.declared.worker.Worker.{Worker}
use Rattle.campaign_workers.specs.Workplaces.{seats_of}
use Rattle.campaign_workers.proofs.Hiring.{seats_push}
use Rattle.campaign_workers.proofs.Workshops.{crew_given}
use Rattle.campaign_workers.proofs.Ends.{last_ready, ends_alone}
use Rattle.campaign_workers.proofs.fan_out.campaign_of_one.Goals as goal

pub unreachable-requires : goal.unreachable-requires
unreachable-requires g c = absurd (omega (arith, c.in_default.ensures.cases.0, c.workshop.inside.workers.ok.0, c.workshop.invariant.0.some))

pub join-requires-clause-table : goal.join-requires-clause-table
join-requires-clause-table g c =
    let table = c.workshop.inside.shared in
    let crew = crew_given table c.workshop.inside.first c.put.new.seat _ _ c.workshop.invariant.0.crew c.put.ensures.0 c.put.ensures.1 in
    let ready = last_ready table c.put.new.seat c.workshop.inside.workers.items c.pop.new.self.items c.in-Some.worker crew c.in-Some.ensures.items in
    (crew.of, ready.of)

pub join-requires-clause-free : goal.join-requires-clause-free
join-requires-clause-free g c =
    let table = c.workshop.inside.shared in
    let crew = crew_given table c.workshop.inside.first c.put.new.seat _ _ c.workshop.invariant.0.crew c.put.ensures.0 c.put.ensures.1 in
    let ready = last_ready table c.put.new.seat c.workshop.inside.workers.items c.pop.new.self.items c.in-Some.worker crew c.in-Some.ensures.items in
    ready.free

pub join_ready-requires-clause-crew : goal.join_ready-requires-clause-crew
join_ready-requires-clause-crew g c =
    let table = c.workshop.inside.shared in
    let rest : List (Worker g.row.F.Denot g.row.N.Denot) = c.pop.new.self.items in
    let crew = crew_given table c.workshop.inside.first c.put.new.seat _ _ c.workshop.invariant.0.crew c.put.ensures.0 c.put.ensures.1 in
    joins_ready table c.put.new.seat c.join.new.seat (seats_of c.workshop.inside.workers.items) (seats_of rest) c.in-Some.worker.seat crew (ap seats_of c.in-Some.ensures.items ∙ seats_push rest c.in-Some.worker)
    c.join.ensures.0 c.join.ensures.1

pub join_ready-requires-clause-free : goal.join_ready-requires-clause-free
join_ready-requires-clause-free g c = ap (λ (v : View). v.holds) c.join.ensures.1 ∙ ap (λ (v : View). v.holds) c.put.ensures.1

pub work-requires-clause-simulator : goal.work-requires-clause-simulator
work-requires-clause-simulator g c =
    let bench = c.workshop.inside.bench in
    let plan = c.workshop.inside.plan.value in
    let rest : List (Worker g.row.F.Denot g.row.N.Denot) = c.pop.new.self.items in
    let all = subst (λ (l : List (Worker g.row.F.Denot g.row.N.Denot)). All (λ w. w.simulator ≡ simulator_of bench plan.settings.ftti) l) c.in-Some.ensures.items c.workshop.invariant.0.simulators in
    all_last (λ (w : Worker g.row.F.Denot g.row.N.Denot). w.simulator ≡ simulator_of bench plan.settings.ftti) rest c.in-Some.worker all ∙ ap (λ p. simulator_of bench p.settings.ftti) (c.workshop.view_is ∙ c.requires.made)

pub work-requires-clause-admitted : goal.work-requires-clause-admitted
work-requires-clause-admitted g c = c.join_ready.ensures.whole

pub close-requires-clause-table : goal.close-requires-clause-table
close-requires-clause-table g c = subst (IsOf c.workshop.inside.shared) (sym c.into_seat.ensures) c.work.ensures.done.of

pub close-requires-clause-whole : goal.close-requires-clause-whole
close-requires-clause-whole g c = ap (λ (s : Seated). s.view.share) c.into_seat.ensures ∙ c.work.ensures.share ∙ c.join_ready.ensures.whole

pub close-requires-clause-free : goal.close-requires-clause-free
close-requires-clause-free g c = ap (λ (s : Seated). s.view.holds) c.into_seat.ensures ∙ c.work.ensures.done.free

pub returns-clause-finished : goal.returns-clause-finished
returns-clause-finished g c =
    ends_alone g.N.Origin.start c.workshop.inside.shared c.work.new.worker.seat c.into_seat.result c.close.result.rows c.close.result.failed c.work.ensures.done
    (c.work.ensures.share ∙ c.join_ready.ensures.whole) c.into_seat.ensures c.close.ensures.closed
