use Rattle.std.proofs.Common.{◌≡◌, ◌<◌, ◌≤◌, ◌+◌, ◌-◌, ◌*◌, ◌/◌, ◌∙◌, ℕ, List, length, drop, ap, ap₂, sym, subst, arith, length-take, length-drop}
use Rattle.circuit.specs.declared.parts.Fault.{Fault}
use Rattle.circuit.specs.Circuit.{Circuit}
use Rattle.workload.specs.declared.run.Run.{Run}
use Rattle.workload.specs.Runs.{all_cycles}
use Rattle.campaign_plan.specs.declared.Outcome.{Outcome}
use Rattle.campaign_plan.specs.Analysis.{Analysis}
use Rattle.classifier.specs.Planes.{outcome_at}
use Rattle.classifier.specs.Simulator.{Simulator, listed}
use Rattle.fault_collapse.specs.Chosen.{faults_in, group_planes}
use Rattle.fault_collapse.proofs.Choosing.{group_is, times_more}
use Rattle.fault_collapse.proofs.Rounds.{groups_more}
use Rattle.fault_collapse.proofs.simulate.simulate.Goals as goal

-- the steps of one round more
cost_more : (start before now round each own : ℕ) → before ≤ start + round * each → own ≡ each → now ≤ before + own → now ≤ start + (round + 1) * each
cost_more start before now round each own b same n = let up : (start + round * each) + each ≡ start + (round + 1) * each = times_more start round each in omega (arith, up)

pub loop-round-preserved : goal.loop-round-preserved
loop-round-preserved g c =
    let p : Analysis = c.args.plan.now in
    let numbers : List ℕ = c.args.numbers.now in
    let round : ℕ = c.loop-round.round in
    let found : List Outcome = c.loop-round.found in
    let inv = c.loop-round.invariant in
    let own : List Outcome = c.copy_from_slice.new.self in
    let first : ℕ = round * 4 in
    let fits : first + 4 ≤ length c.args.found.now = omega (arith, c.loop-round-test.true) in
    let room : first + 4 ≤ length found = omega (arith, fits, c.loop-round.auto.found) in
    let size : length own ≡ 4 = omega (arith, c.copy_from_slice.ensures.len, length-take (first + 4 - first) (drop first found), length-drop first found, room) in
    let each : ℕ = all_cycles p.runs * length p.circuit.tables in
    let spent : all_cycles c.args.bench.now.runs * length c.args.bench.now.circuit.tables ≡ each =
    ap₂ (λ (runs : List Run) (net : Circuit). all_cycles runs * length net.tables) c.requires.bench.runs c.requires.bench.circuit in
    let interval : c.loop-round.simulator.ftti ≡ p.settings.ftti = ap (λ (s : Simulator). s.ftti) (inv.same ∙ c.requires.simulator) in
    record {
      simulated = λ group lt.
          groups_more (λ j o. o ≡ group_planes p numbers j) found own (drop (first + 4 - first) (drop first found)) first 4 room size
          (λ j early. inv.simulated j early)
          (λ word within.
          ap (λ (outcomes : List Outcome). outcome_at outcomes word) c.copy_from_slice.ensures.after
          ∙ c.counted_lists-outcomes.ensures.outcomes word within
          ∙ group_is p c.args.bench.now.circuit c.args.bench.now.points c.args.bench.now.runs c.loop-round.simulator.ftti (listed c.lists_of-lists.result word) numbers (first + word)
          c.requires.bench.circuit c.requires.bench.points c.requires.bench.runs interval
          (λ k lane. c.lists_of-lists.ensures word k within lane ∙ ap (λ (faults : List Fault). faults_in faults numbers (first + word) k) c.faults.ensures.value))
          group (omega (arith, lt));
      same = c.counted_lists-outcomes.ensures.same ∙ inv.same;
      cost = cost_more c.args.steps.now c.loop-round.steps c.counted_lists-outcomes.new.steps round each _ inv.cost spent c.counted_lists-outcomes.ensures.cost;
    }
