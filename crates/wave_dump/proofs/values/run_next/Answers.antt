use Rattle.std.proofs.Common.{◌∙◌, ◌+◌, ap, arith}
use Rattle.wave_dump.proofs.Running.{in_behind, now_in}
use Rattle.wave_dump.proofs.values.run_next.Goals as goal

pub cycle-requires-clause-few : goal.cycle-requires-clause-few
cycle-requires-clause-few g c = omega (arith, c.requires.behind.cycle, c.requires.cycle, c.vector.ensures.few)

pub returns-clause-now : goal.returns-clause-now
returns-clause-now g c =
    now_in c.args.scene.now c.args.t c.args.lanes.now c.cycle.new.self c.vector.result.now c.cycle.ensures.keeps c.requires.behind c.requires.cycle
    c.vector.ensures.value c.cycle.ensures.step

pub returns-clause-behind : goal.returns-clause-behind
returns-clause-behind g c =
    in_behind c.args.scene.now c.args.t c.cycle.new.self (c.cycle.ensures.cycle ∙ ap (λ n. n + 1) c.requires.behind.cycle)
    (now_in c.args.scene.now c.args.t c.args.lanes.now c.cycle.new.self c.vector.result.now c.cycle.ensures.keeps c.requires.behind c.requires.cycle
    c.vector.ensures.value c.cycle.ensures.step)
