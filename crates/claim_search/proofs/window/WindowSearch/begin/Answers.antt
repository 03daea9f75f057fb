use Rattle.std.proofs.Common.{refl, subst}
use Rattle.circuit.specs.Sound.{IsNetlist}
use Rattle.coverage_claim.specs.Claim.{window_of}
use Rattle.coverage_claim.specs.Rules.{everything}
use Rattle.region_search.proofs.Ending.{again}
use Rattle.claim_search.proofs.Starting.{begins_so, held_nets}
use Rattle.claim_search.specs.Question.{with_pairs}
use Rattle.claim_search.specs.Window.{starts_of}
use Rattle.claim_search.proofs.window.WindowSearch.begin.Goals as goal

pub begin-requires-clause-said : goal.begin-requires-clause-said
begin-requires-clause-said c = record {
  sites = c.requires.asked.sites;
  held = held_nets c.args.searched.now.netlist.now c.args.question.now.posed.held.now (subst IsNetlist c.requires.searched.netlist c.requires.searched.sound) c.requires.asked.posed.held;
  silent = c.requires.asked.posed.alarms;
  starts = c.requires.starts;
}

pub returns-clause-goes_on : goal.returns-clause-goes_on
returns-clause-goes_on c = λ claim asked.
    let o = c.args.searched.now.watchers.now in
    let net = c.args.searched.now.netlist.now in
    let s = window_of (with_pairs claim (starts_of net c.args.starts.now)) in
    let sound = subst IsNetlist c.requires.searched.netlist c.requires.searched.sound in
    let begun = c.begin.ensures.goes_on o s c.requires.searched.netlist c.requires.over.search
    (begins_so net c.args.question.now claim c.args.starts.now _ c.args.self.now.search.sets.frames sound asked c.requires.over.frames refl refl refl refl refl refl) in
    c.settle.ensures.goes_on s everything (record { each = asked.sites }) (again o s everything everything c.begin.new.self begun)

pub returns-clause-settled : goal.returns-clause-settled
returns-clause-settled c = λ e claim asked.
    let o = c.args.searched.now.watchers.now in
    let net = c.args.searched.now.netlist.now in
    let s = window_of (with_pairs claim (starts_of net c.args.starts.now)) in
    let sound = subst IsNetlist c.requires.searched.netlist c.requires.searched.sound in
    let begun = c.begin.ensures.goes_on o s c.requires.searched.netlist c.requires.over.search
    (begins_so net c.args.question.now claim c.args.starts.now _ c.args.self.now.search.sets.frames sound asked c.requires.over.frames refl refl refl refl refl refl) in
    c.settle.ensures.settled e s everything (record { each = asked.sites }) (again o s everything everything c.begin.new.self begun)
