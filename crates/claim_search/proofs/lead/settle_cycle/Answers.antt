use Rattle.std.proofs.Common.{refl, subst, arith}
use Rattle.fm_base.proofs.Tests.{not_not, not_true}
use Rattle.circuit.specs.Sound.{IsNetlist}
use Rattle.coverage_claim.specs.Rules.{everything}
use Rattle.region_search.proofs.Ending.{again}
use Rattle.region_search.proofs.Settling.{empty_holds_none}
use Rattle.region_search.specs.Going.{sets_of}
use Rattle.claim_search.proofs.Leading.{begins_cycle}
use Rattle.claim_search.proofs.Starting.{held_nets}
use Rattle.claim_search.specs.LeadIn.{lead_cycle}
use Rattle.claim_search.proofs.lead.settle_cycle.Goals as goal

pub begin-requires-clause-said : goal.begin-requires-clause-said
begin-requires-clause-said c = record {
  sites = c.requires.asked.sites;
  held = held_nets c.args.searched.now.netlist.now c.args.question.now.posed.held.now (subst IsNetlist c.requires.searched.netlist c.requires.searched.sound) c.requires.asked.posed.held;
  silent = λ i d lt. absurd (omega (arith, lt));
  starts = c.requires.starts;
}

pub returns-clause-settled : goal.returns-clause-settled
returns-clause-settled c = λ e claim asked.
    let o = c.args.searched.now.watchers.now in
    let net = c.args.searched.now.netlist.now in
    let s = lead_cycle claim c.args.cycle c.args.starts.now in
    let sound = subst IsNetlist c.requires.searched.netlist c.requires.searched.sound in
    let begun = c.begin.ensures.goes_on o s c.requires.searched.netlist c.requires.fits
    (begins_cycle net c.args.question.now claim c.args.cycle c.args.starts.now _ c.args.search.now.sets.frames sound asked c.requires.frames refl refl refl refl refl refl) in
    let ready = again o s everything everything c.begin.new.self begun in
    let settled = c.settle.ensures.goes_on s everything (record { each = asked.sites }) ready in
    let some = not_true c.settle.new.self.empty e in
    record {
      some = settled.going.noted.some some;
      nothing = c.settle.ensures.settled some s everything (record { each = asked.sites }) ready;
      holds = settled.going.search.holds;
    }

pub returns-clause-none : goal.returns-clause-none
returns-clause-none c = λ e claim asked golden faulty so.
    let o = c.args.searched.now.watchers.now in
    let net = c.args.searched.now.netlist.now in
    let s = lead_cycle claim c.args.cycle c.args.starts.now in
    let sound = subst IsNetlist c.requires.searched.netlist c.requires.searched.sound in
    let begun = c.begin.ensures.goes_on o s c.requires.searched.netlist c.requires.fits
    (begins_cycle net c.args.question.now claim c.args.cycle c.args.starts.now _ c.args.search.now.sets.frames sound asked c.requires.frames refl refl refl refl refl refl) in
    let settled = c.settle.ensures.goes_on s everything (record { each = asked.sites }) (again o s everything everything c.begin.new.self begun) in
    let none = settled.going.noted.none (not_not c.settle.new.self.empty e) in
    empty_holds_none s everything (sets_of c.settle.new.self.sets) settled.going.search.holds none.0 none.1 none.2 none.3 golden faulty so (λ i n le. refl)
